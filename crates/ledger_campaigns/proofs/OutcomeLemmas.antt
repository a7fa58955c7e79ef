-- Outcomes that were stored are in the ledger at the end, if it has not failed.
use Rattle.std.proofs.Common.{arith, ◌≡◌, ◌⊎◌, ◌<◌, ◌≤◌, ℕ, Bool, true, false, List, [], ◌∷◌, ◌++◌}
use Rattle.std.proofs.Common.{length, refl, sym, ◌∙◌, inl, inr, IsTrue}
use Rattle.std.specs.Prelude.{◌≢◌, eqb}
use Rattle.std.proofs.lemmas.Bool.Decides.{eqb_tells}
use Rattle.turn_lock.specs.History.{entry}
use Rattle.client_core.specs.declared.job.Outcome.{Outcome}
use Rattle.campaign_ledger.specs.declared.entry.LedgerEntry.{LedgerEntry}
use Rattle.campaign_ledger.specs.declared.entry.LedgerEntry.TheVariants.{NotSent, MaybeSent, Came}
use Rattle.campaign_ledger.specs.Entries.{HasCome, entry_at, entry_after_begin}
use Rattle.campaign_ledger.specs.Grants.{LedgerState}
use Rattle.ledger_campaigns.specs.declared.request.LedgerRequest.{LedgerRequest}
use Rattle.ledger_campaigns.specs.declared.request.LedgerRequest.TheVariants.{Begin, Record}
use Rattle.ledger_campaigns.specs.declared.request.LedgerAnswer.{LedgerAnswer}
use Rattle.ledger_campaigns.specs.declared.request.LedgerAnswer.TheVariants.{Given, Refused}
use Rattle.ledger_campaigns.specs.declared.request.LedgerAnswer.TheVariants.{Recorded, Failed}
use Rattle.ledger_campaigns.specs.Desks.{LedgerCalls, IsAnswer, AreAnswered, HasOutcome}
use Rattle.ledger_campaigns.specs.Desks.{IsCallAbout, ledger_after, last_ledger, HasRequest}

-- a ledger has failed or not
not_failed : (failed : Bool) → IsTrue failed → failed ≡ false → ⊥
not_failed failed is not = absurd cc

-- the place is this one or another
this_or_other : (place other : ℕ) → (other ≡ place) ⊎ (other ≢ place)
this_or_other place other = of_test (eqb_tells other place)
  where
    of_test : ((eqb other place ≡ true) × (other ≡ place))
        ⊎ ((eqb other place ≡ false) × (other ≢ place)) → (other ≡ place) ⊎ (other ≢ place)
    of_test (inl (tests, same)) = inl same
    of_test (inr (tests, apart)) = inr apart

module _ {B : Type 0} (is_honest : B → Type 0) (is_marked : B → ℕ → Type 0)
    (keeps : B → ℕ → Outcome → Type 0) where
  -- a ledger that has not failed after a call had not failed before
  unfailed_before : (before : LedgerState B) (request : LedgerRequest) (answer : LedgerAnswer B)
      → IsAnswer is_honest is_marked keeps before request answer
      → (ledger_after answer).has_failed ≡ false → before.has_failed ≡ false
  unfailed_before before (Begin place) (Given permit now) is ok = is.3.had_not_failed
  unfailed_before before (Begin place) (Refused now) is ok = is.4.had_not_failed
  unfailed_before before (Begin place) (Recorded now) is ok = absurd is
  unfailed_before before (Begin place) (Failed fault now) is ok =
      absurd (not_failed _ is.0 ok)
  unfailed_before before (Record place outcome) (Given permit now) is ok = absurd is
  unfailed_before before (Record place outcome) (Refused now) is ok = rw is.1 at ok
  unfailed_before before (Record place outcome) (Recorded now) is ok = is.2.had_not_failed
  unfailed_before before (Record place outcome) (Failed fault now) is ok =
      absurd (not_failed _ is.0 ok)

  -- nor had it failed before any of the calls
  unfailed_first : (before : LedgerState B) (calls : LedgerCalls B)
      → AreAnswered is_honest is_marked keeps before calls
      → (last_ledger before calls).has_failed ≡ false → before.has_failed ≡ false
  unfailed_first before [] all ok = ok
  unfailed_first before (call ∷ calls) all ok =
      unfailed_before before call.event call.reply all.0
      (unfailed_first (ledger_after call.reply) calls all.1 ok)

  -- an outcome remains after a call about another place
  about_other : (place other : ℕ) (outcome : Outcome) (before now : LedgerState B) → other ≢ place
      → IsCallAbout is_honest is_marked keeps other before now
      → HasOutcome is_honest is_marked keeps place outcome before
      → HasOutcome is_honest is_marked keeps place outcome now
  about_other place other outcome before now apart about has = record {
    entry_is = about.others place (λ same. apart (sym same)) ∙ has.entry_is;
    kept = λ honest. about.kept honest place outcome (λ same. apart (sym same))
        (has.kept (about.honest honest));
  }

  -- an outcome remains after a call that did not fail
  kept_by : (place : ℕ) (outcome : Outcome) (before : LedgerState B) (request : LedgerRequest)
      (answer : LedgerAnswer B) → IsAnswer is_honest is_marked keeps before request answer
      → (ledger_after answer).has_failed ≡ false
      → HasOutcome is_honest is_marked keeps place outcome before
      → HasOutcome is_honest is_marked keeps place outcome (ledger_after answer)
  kept_by place outcome before (Begin other) (Given permit now) is ok has =
      of_case (this_or_other place other)
    where
      of_case : (other ≡ place) ⊎ (other ≢ place)
          → HasOutcome is_honest is_marked keeps place outcome now.value
      of_case (inl same) = absurd
          (let came : entry_at before.entries place ≡ Came outcome = has.entry_is in
          let new : entry_at before.entries place ≡ NotSent = rw same at is.1 in cc)
      of_case (inr apart) = about_other place other outcome before now.value apart is.3 has
  kept_by place outcome before (Begin other) (Refused now) is ok has =
      of_case (this_or_other place other)
    where
      of_case : (other ≡ place) ⊎ (other ≢ place)
          → HasOutcome is_honest is_marked keeps place outcome now.value
      of_case (inl same) = record {
        entry_is = rw same at is.1 ∙ rw has.entry_is refl;
        kept = λ honest. rw same at (is.3 honest outcome
            (rw same (has.kept (is.4.honest honest))));
      }
      of_case (inr apart) = about_other place other outcome before now.value apart is.4 has
  kept_by place outcome before (Begin other) (Recorded now) is ok has = absurd is
  kept_by place outcome before (Begin other) (Failed fault now) is ok has =
      absurd (not_failed _ is.0 ok)
  kept_by place outcome before (Record other later) (Given permit now) is ok has = absurd is
  kept_by place outcome before (Record other later) (Refused now) is ok has = rw is.1 has
  kept_by place outcome before (Record other later) (Recorded now) is ok has =
      of_case (this_or_other place other)
    where
      of_case : (other ≡ place) ⊎ (other ≢ place)
          → HasOutcome is_honest is_marked keeps place outcome now.value
      of_case (inl same) = absurd (is.0 (rw (same, has.entry_is) tt))
      of_case (inr apart) = about_other place other outcome before now.value apart is.2 has
  kept_by place outcome before (Record other later) (Failed fault now) is ok has =
      absurd (not_failed _ is.0 ok)

  -- an outcome remains after calls, if the ledger has not failed at the end
  kept_by_all : (place : ℕ) (outcome : Outcome) (before : LedgerState B) (calls : LedgerCalls B)
      → AreAnswered is_honest is_marked keeps before calls
      → (last_ledger before calls).has_failed ≡ false
      → HasOutcome is_honest is_marked keeps place outcome before
      → HasOutcome is_honest is_marked keeps place outcome (last_ledger before calls)
  kept_by_all place outcome before [] all ok has = has
  kept_by_all place outcome before (call ∷ calls) all ok has =
      let now = ledger_after call.reply in
      kept_by_all place outcome now calls all.1 ok
      (kept_by place outcome before call.event call.reply all.0 (unfailed_first now calls all.1 ok)
      has)

  -- no call changes the number of places
  count_kept : (before : LedgerState B) (request : LedgerRequest) (answer : LedgerAnswer B)
      → IsAnswer is_honest is_marked keeps before request answer
      → length (ledger_after answer).entries ≡ length before.entries
  count_kept before (Begin place) (Given permit now) is = is.3.count
  count_kept before (Begin place) (Refused now) is = is.4.count
  count_kept before (Begin place) (Recorded now) is = absurd is
  count_kept before (Begin place) (Failed fault now) is = rw is.1 refl
  count_kept before (Record place outcome) (Given permit now) is = absurd is
  count_kept before (Record place outcome) (Refused now) is = rw is.1 refl
  count_kept before (Record place outcome) (Recorded now) is = is.2.count
  count_kept before (Record place outcome) (Failed fault now) is = rw is.1 refl

  -- a request to store an outcome, on a ledger that does not fail, stores it
  stored_now : (place : ℕ) (outcome : Outcome) (before : LedgerState B) (answer : LedgerAnswer B)
      → IsAnswer is_honest is_marked keeps before (Record place outcome) answer
      → (ledger_after answer).has_failed ≡ false → place < length before.entries
      → HasOutcome is_honest is_marked keeps place outcome (ledger_after answer)
  stored_now place outcome before (Given permit now) is ok below = absurd is
  stored_now place outcome before (Refused now) is ok below = absurd
      (let beyond : length before.entries ≤ place = rw is.1 at is.0 in omega arith)
  stored_now place outcome before (Recorded now) is ok below = is.1
  stored_now place outcome before (Failed fault now) is ok below =
      absurd (not_failed _ is.0 ok)

  -- an outcome that one of the calls asked to store is in the ledger at the end
  pub stored_at_end : (place : ℕ) (outcome : Outcome) (start : LedgerState B)
      (before later : LedgerCalls B) (by : List ℕ) (answer : LedgerAnswer B)
      → AreAnswered is_honest is_marked keeps start
      (before ++ entry by (Record place outcome) answer ∷ later)
      → (last_ledger start (before ++ entry by (Record place outcome) answer ∷ later)).has_failed
      ≡ false → place < length start.entries
      → HasOutcome is_honest is_marked keeps place outcome
      (last_ledger start (before ++ entry by (Record place outcome) answer ∷ later))
  stored_at_end place outcome start [] later by answer all ok below =
      let now = ledger_after answer in
      kept_by_all place outcome now later all.1 ok
      (stored_now place outcome start answer all.0 (unfailed_first now later all.1 ok) below)
  stored_at_end place outcome start (call ∷ before) later by answer all ok below =
      stored_at_end place outcome (ledger_after call.reply) before later by answer all.1 ok
      (omega (arith, count_kept start call.event call.reply all.0, below))

  -- the outcomes that the calls asked to store are in the ledger at the end
  pub outcomes_in : (start now : LedgerState B) (calls : LedgerCalls B)
      → AreAnswered is_honest is_marked keeps start calls → now ≡ last_ledger start calls
      → now.has_failed ≡ false → (place : ℕ) (outcome : Outcome) → place < length start.entries
      → HasRequest (Record place outcome) calls
      → HasOutcome is_honest is_marked keeps place outcome now
  outcomes_in start now calls all last ok place outcome below (before, later, by, answer, is) =
      rw (last, is) (stored_at_end place outcome start before later by answer (rw is at all)
      (rw (← is, ← last) ok) below)
