-- `from_null` combines a pointer and an allocator, which own nothing.
use mathlib.Core.Path.{refl, sym, subst}
use mathlib.Core.List.{List, [], ◌∷◌, ◌++◌}
use Rattle.std.specs.Prelude.{None}
use mir.Val.{Val, has_ty}
use base.Logic.{SProp, ent, emp, id⊢}
use base.Fml.{ftrue, fsep}
use prog.Wp.{WpFn}
use types.Kit.{‵, raw, ◌⊛◌, ◌$◌, ◌∵◌, !, qed, move, drop, use1, split, join, fsplit3, fjoin, suffices, rewrite, done}
use types.Run.{no_more, and_then, returns, enter}
use types.ByLocal.{alloc_all, pass_all, free_all, look_at, get, sets}
use types.Part.{agg}
use contract.Running.{tables}
use denote.Exit.{yes}
use denote.Builtin.{RawPtr}
use denote.RawPtr.{rawptr_Lawful}
use denote.RattleType.{RattleType}
use denote.Signature.{plain}
use denote.Steps.{nothing}
use denote.Param.{layout}
use denote.Triple.Walked.{says, Stays, stay_dropped, walk_of, ends_at, Goes-dropped}
use Rattle.core.proofs.cell.Inside.{Good, one}
use Rattle.std_heap.specs.contracts.Global as Heap
use Rattle.std_heap.proofs.Global.TheLaws as heap
use Rattle.std.proofs.raw_atomic.Walks.{proved_at}
use Rattle.meter.proofs.AsBox.{both, both_tt, two_in}
use Rattle.meter.specs.contracts.slot.HandleSlot as Own
use Rattle.meter.specs.contracts.slot.HandleSlot.from_null.{ended, clauses}
use Rattle.meter.specs.contracts.slot.HandleSlot.from_null.Key.{name as #self}
use Rattle.meter.proofs.slot.HandleSlot.from_null.Statement.{statement}
use Rattle.meter.proofs.slot.HandleSlot.from_null.Code as code

pub from_null_spec : {M : Type 1} → statement M
from_null_spec 𝓤 𝓛 𝓜 𝓡 wired =
    let H = 𝓛.H in
    let 𝓣 = tables 𝓤 H 𝓜 𝓡 𝓡.env in
    let c = clauses 𝓛 𝓜.mem 𝓡.returns in
    let P : RattleType = RawPtr in
    let Z : RattleType = Heap.the_row in
    let Out : RattleType = Own.the_row in
    let hs : Stays ended.signature.params ended.kept =
    (stay_dropped (plain (λ _. P)) yes, (stay_dropped (plain (λ _. Z)) yes, tt)) in
    proved_at 𝓛 ended hs c 𝓜 𝓡 (
      Goes-dropped 𝓛 0 (plain (λ _. P)) yes (λ κs x f. refl),
      (Goes-dropped 𝓛 0 (plain (λ _. Z)) yes (λ κs x f. refl), tt),
    ) #self code.function
    (code.unfolded 𝓤 H 𝓜 𝓡 wired) (λ z are.
    let Post : Val → SProp 𝓤 = (walk_of 𝓛 ended hs c).post z in
    let Run : List Val → SProp 𝓤 = λ ws. WpFn 𝓤 H 𝓣.C 𝓣.Λ code.function ws Post in
    let x = z.0.3.0 in let a = z.0.3.1.0 in
    let v = one (layout P) z.0.4.0 ((rawptr_Lawful 𝓛).typed x z.0.4.0 are.0) in
    let h = one (layout Z) z.0.4.1.0 ((heap.the_row_laws.lawful 𝓛).typed a z.0.4.1.0 are.1.0) in
    let w : Val = both v.0 h.0 in
    let good : Good (layout Out) w = (
      both_tt (has_ty (layout P) v.0) (has_ty (layout Z) h.0) v.2.0
          h.2.0,
      (v.2.1, (h.2.1, tt)),
    ) in
    let made : Out.Denot = record { at = x; alloc = a; held = None } in
    qed 𝓛 ((‵ ftrue ⊛ ‵ (fsep (P.own_val x z.0.4.0) (fsep (Z.own_val a z.0.4.1.0) ftrue)))
    ∷ raw (emp 𝓤) ∷ []) ∵
    split ! $ drop ! $ fsplit3 ! $ move ! (3 ∷ []) $ drop ! $
    rewrite ! 0 (λ (us : List Val). ‵ (P.own_val x us)) v.1 refl $ rewrite ! 1
    (λ (us : List Val). ‵ (Z.own_val a us)) h.1 refl $
    two_in P Z x a ! v.0 h.0 $ fjoin ! $ use1 𝓛 (‵ (Out.own_val made (w ∷ []))) (id⊢ 𝓤 _) $
    suffices ! (Run (v.0 ∷ h.0 ∷ [])) (subst (λ (us : List Val). ent 𝓤 (Run (v.0 ∷ h.0 ∷ []))
    (Run us)) (sym (λ i. v.1 i ++ (h.1 i ++ []))) (id⊢ 𝓤 (Run (v.0 ∷ h.0 ∷ [])))) $
    enter ! 𝓣.C 𝓣.Λ code.function (v.0 ∷ h.0 ∷ []) Post $ alloc_all !
    (λ l. pass_all ! refl (v.2, (h.2, tt)) $
    sets ! (agg ! (and_then ! (get ! refl) (and_then ! (get ! refl) (no_more !)))) refl good $
    returns ! (look_at ! 0 refl) $ free_all ! refl $
    suffices ! _ (ends_at 𝓛 ended hs c z w made (tt, (tt, tt)) (tt, (tt, tt))) $ says ! refl $
    nothing ! $ nothing ! $ fjoin ! $ nothing ! $ fjoin ! $ join ! $ nothing ! $ join ! $ done !))
