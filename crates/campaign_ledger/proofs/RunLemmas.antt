-- Over runs that follow one another no command is sent twice.
use Rattle.std.proofs.Common.{◌≡◌, ◌⊎◌, ℕ, List, [], ◌∷◌, ◌++◌, inl, inr, refl, subst, sym}
use Rattle.campaign_ledger.specs.declared.entry.LedgerEntry.{LedgerEntry}
use Rattle.campaign_ledger.specs.declared.entry.LedgerEntry.TheVariants.{NotSent, MaybeSent, Came}
use Rattle.campaign_ledger.specs.Entries.{HasGone}
use Rattle.campaign_ledger.specs.Runs.{Run, IsSafeRun, IsIn, AreApart, AreConsecutiveRuns, all_sent}

-- a place of two lists is in one of them
pub in_either : (place : ℕ) (xs ys : List ℕ) → IsIn place (xs ++ ys)
    → IsIn place xs ⊎ IsIn place ys
in_either place [] ys is = inr is
in_either place (x ∷ xs) ys (inl same) = inl (inl same)
in_either place (x ∷ xs) ys (inr later) = in_tail (in_either place xs ys later)
  where
    in_tail : IsIn place xs ⊎ IsIn place ys → IsIn place (x ∷ xs) ⊎ IsIn place ys
    in_tail (inl here) = inl (inr here)
    in_tail (inr there) = inr there

-- two lists without repetition and without a common place have no repetition together
pub apart_both : (xs ys : List ℕ) → AreApart xs → AreApart ys
    → ((place : ℕ) → IsIn place xs → IsIn place ys → ⊥) → AreApart (xs ++ ys)
apart_both [] ys first second disjoint = second
apart_both (x ∷ xs) ys (alone, first) second disjoint = (
  (λ there. not_twice (in_either x xs ys there)),
  apart_both xs ys first second (λ place here there. disjoint place (inr here) there),
)
  where
    not_twice : IsIn x xs ⊎ IsIn x ys → ⊥
    not_twice (inl here) = alone here
    not_twice (inr there) = disjoint x (inl refl) there

-- an entry that has not gone is NotSent
pub not_gone : (entry : LedgerEntry) → ¬ HasGone entry → entry ≡ NotSent
not_gone NotSent still = refl
not_gone MaybeSent still = absurd (still tt)
not_gone (Came outcome) still = absurd (still tt)

-- what has gone is not NotSent
pub gone_not_new : (entry : LedgerEntry) → HasGone entry → entry ≡ NotSent → ⊥
gone_not_new entry gone new = rw new at gone

-- a run leaves marked what it sent and what was sent before, if it found that marked
down_after : (run : Run) (earlier : List ℕ) → IsSafeRun run
    → ((place : ℕ) → IsIn place earlier → HasGone (run.found place))
    → (place : ℕ) → IsIn place (run.sent ++ earlier) → HasGone (run.left place)
down_after run earlier safe found place is = of_one (in_either place run.sent earlier is)
  where
    of_one : IsIn place run.sent ⊎ IsIn place earlier → HasGone (run.left place)
    of_one (inl sent) = safe.marks_sent place sent
    of_one (inr before) = safe.keeps_marks place (found place before)

-- the last of the runs left all places marked whose commands were sent by any of them
all_down : (run : Run) (runs : List Run) → AreConsecutiveRuns (run ∷ runs) → (place : ℕ)
    → IsIn place (all_sent (run ∷ runs)) → HasGone (run.left place)
all_down run [] safe = down_after run [] safe (λ place none. absurd none)
all_down run (before ∷ runs) (safe, found, earlier) =
    down_after run (all_sent (before ∷ runs)) safe
    (λ place sent. subst (λ (entries : ℕ → LedgerEntry). HasGone (entries place)) (sym found)
    (all_down before runs earlier place sent))

-- over runs that follow one another no command is sent twice
pub all_apart : (runs : List Run) → AreConsecutiveRuns runs → AreApart (all_sent runs)
all_apart [] follow = tt
all_apart (run ∷ []) safe = apart_both run.sent [] safe.apart tt (λ place here there. there)
all_apart (run ∷ (before ∷ runs)) (safe, found, earlier) =
    apart_both run.sent (all_sent (before ∷ runs)) safe.apart (all_apart (before ∷ runs) earlier)
    (λ place here there. gone_not_new (run.found place)
    (subst (λ (entries : ℕ → LedgerEntry). HasGone (entries place)) (sym found)
    (all_down before runs earlier place there)) (safe.fresh place here))
