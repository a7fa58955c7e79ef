-- A slot that holds a meter owns what the box of these parts owns.
use mir.Syntax.{impl, tnil, dnil}
use mathlib.Core.Path.{refl}
use mathlib.Core.List.{List, [], ◌∷◌}
use mathlib.Core.Bool.{Bool, true, false, ◌&&◌}
use lib.Dec.{T}
use seplogic.Ra.Ura.{Ura}
use mir.Val.{Val, vstruct, vcons, vnil}
use types.Logic.{Logic}
use types.Kit.{Item, Goal, Step, step, ‵, ◌$◌, move, fjoin, fjoin3, fpack, feq_i}
use denote.RattleType.{RattleType, Valss}
use denote.Steps.{nothing}
use denote.Struct.Struct.{Struct, within}
use denote.Signature.{Slot, plain}
use Rattle.std_alloc.proofs.BoxSteps.Form.{Bx}
use Rattle.std_heap.specs.contracts.Global as Heap
use Rattle.std_heap.specs.contracts.GlobalAllocator.TheImpl.{ghosts, dict}
use Rattle.std_heap.proofs.Global.TheLaws as heap
use Rattle.embedded_meter.specs.contracts.supply_meter.SupplyMeter as Held
use Rattle.embedded_meter.proofs.supply_meter.SupplyMeter.TheLaws as held
use Rattle.meter.specs.contracts.box_parts.BoxParts as BoxParts
use Rattle.meter.specs.contracts.slot.HandleSlot as Own

abbrev pub E : Bx
E = record {
  row = Held.the_row;
  laws = held.the_row_laws;
  al = record {
    row = Heap.the_row;
    laws = heap.the_row_laws;
    g = ghosts;
    d = dict;
    drops = impl [] tnil dnil;
  };
}

abbrev pub FromParts : Slot 0
FromParts = plain (λ _. BoxParts.the_row Held.the_row Heap.the_row ghosts)

abbrev pub FromSlot : Slot 0
FromSlot = plain (λ _. Own.the_row)

-- a struct with two fields, by value
abbrev pub both : Val → Val → Val
both v w = vstruct (vcons v (vcons w vnil))

pub both_tt : (x y : Bool) → T x → T y → T (x && (y && true))
both_tt true true s t = tt
both_tt true false s t = absurd t
both_tt false y s t = absurd s

module _ (P Q : RattleType) where
  abbrev pub Two : RattleType
  Two = Struct (record { name = []; args = []; types = []; fields = P ∷ Q ∷ [] })

  module _ {M : Type 1} {𝓤 : Ura M} {𝓛 : Logic 𝓤} {K : Type 0} {Γ : List (Item 𝓤)} {G : Goal 𝓤 𝓛.H}
      (x : P.Denot) (y : Q.Denot) where
    pub two_in : K → (v w : Val) → Step K 𝓛 (‵ (Two.own_val (x, (y, tt)) (both v w ∷ []))
        ∷ Γ) G (‵ (P.own_val x (v ∷ [])) ∷ ‵ (Q.own_val y (w ∷ [])) ∷ Γ) G
    two_in t v w = step (λ s. nothing t $ move t (1 ∷ 2 ∷ 0 ∷ []) $ fjoin3 t $ feq_i t (List Val)
        (both v w ∷ []) (both v w ∷ []) refl $ fjoin t $
        fpack t (Valss (P ∷ Q ∷ [])) (within (record {
          name = [];
          args = [];
          types = [];
          fields = P
              ∷ Q ∷ [];
        }) (x, (y, tt)) (both v w ∷ [])) (v ∷ [], (w ∷ [], tt)) $ s)
