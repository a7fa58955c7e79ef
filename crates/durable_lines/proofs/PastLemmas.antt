-- One more state joins those that a file or a place in memory has had.
use Rattle.std.proofs.Common.{◌≡◌, ◌⊎◌, inl, inr, ⊎_elim, ℕ, zero, suc, ◌≤◌, List, [], ◌∷◌, ◌++◌}
use Rattle.std.proofs.Common.{length, drop, refl, sym, subst, arith, length-append}
use Rattle.durable_lines.specs.Moments.{AnyLeft, ElapsesIn, LeftIn}
use Rattle.durable_lines.proofs.Moments.{elapses_still}

module _ {S : Type 0} (left : S → List ℕ → Type 0) where
  keeps : (past : List S) (s : S) (c : List ℕ) → AnyLeft left past c
      → AnyLeft left (past ++ s ∷ []) c
  keeps [] s c was = absurd was
  keeps (p ∷ past) s c (inl here) = inl here
  keeps (p ∷ past) s c (inr there) = inr (keeps past s c there)

  adds : (past : List S) (s : S) (c : List ℕ) → AnyLeft left (past ++ s ∷ []) c
      → AnyLeft left past c ⊎ left s c
  adds [] s c (inl here) = inr here
  adds [] s c (inr none) = absurd none
  adds (p ∷ past) s c (inl here) = inl (inl here)
  adds (p ∷ past) s c (inr there) =
      ⊎_elim (λ was. inl (inr was)) (λ new. inr new) (adds past s c there)

  newest : (past : List S) (s : S) (c : List ℕ) → left s c → AnyLeft left (past ++ s ∷ []) c
  newest [] s c now = inl now
  newest (p ∷ past) s c now = inr (newest past s c now)

  drop_push : (t : ℕ) (past : List S) (s : S) → t ≤ length past
      → drop t (past ++ s ∷ []) ≡ drop t past ++ s ∷ []
  drop_push zero past s le = refl
  drop_push (suc t) [] s le = absurd (omega (arith, le))
  drop_push (suc t) (p ∷ past) s le = drop_push t past s (omega (arith, le))

  elapses_push : (past : List S) (old new : S) → ElapsesIn left past old (past ++ old ∷ []) new
  elapses_push past old new = record {
    later = omega (arith, length-append past (old ∷ []));
    nothing_else = λ t c le since. ⊎_elim (λ now. inr now)
        (λ had. inl (⊎_elim (λ was. inr was) (λ was. inl was)
        (adds (drop t past) old c
        (subst (λ l. AnyLeft left l c) (drop_push t past old le) had)))) since;
    keeps = λ t c le since. inr (subst (λ l. AnyLeft left l c) (sym (drop_push t past old le))
        (⊎_elim (newest (drop t past) old c) (keeps (drop t past) old c) since));
  }

  -- a change adds one state to the past
  pub elapses_to : (past later : List S) (old new : S) → later ≡ past ++ old ∷ []
      → ElapsesIn left past old later new
  elapses_to past later old new same =
      subst (λ l. ElapsesIn left past old l new) (sym same) (elapses_push past old new)

  -- nothing changes
  pub elapses_same : (past later : List S) (state : S) → later ≡ past
      → ElapsesIn left past state later state
  elapses_same past later state same =
      subst (λ l. ElapsesIn left past state l state) (sym same)
      (elapses_still (length past) (LeftIn left past state) (left state))

pub ruleset changes = (elapses_to, elapses_same)
