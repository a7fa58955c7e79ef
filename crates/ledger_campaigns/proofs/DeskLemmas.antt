-- A ledger after one more call.
use Rattle.std.proofs.Common.{rules, ◌≡◌, ℕ, List, [], ◌∷◌, ◌++◌, refl, ap, sym, ◌∙◌, inl, inr}
use Rattle.std.proofs.Common.{append_assoc}
use Rattle.std.specs.Prelude.{◌⊎◌, Option, Result, IfOk, IfSome, IfNone, OnOk, OnErr, OnSome}
use Rattle.turn_lock.specs.declared.known.Known.{Known}
use Rattle.turn_lock.specs.History.{entry, StartsWith}
use Rattle.turn_lock.specs.Shown.{ShownPort}
use Rattle.turn_lock.specs.Calls.{Called}
use Rattle.client_core.specs.declared.job.Outcome.{Outcome}
use Rattle.campaign_ledger.specs.declared.fault.LedgerFault.{LedgerFault}
use Rattle.campaign_ledger.specs.Grants.{LedgerState, Grants}
use Rattle.campaign_ledger.specs.Runs.{IsIn}
use Rattle.campaign_ledger.proofs.GrantLemmas.{both}
use Rattle.ledger_campaigns.specs.declared.request.LedgerRequest.{LedgerRequest}
use Rattle.ledger_campaigns.specs.declared.request.LedgerRequest.TheVariants.{Begin, Record}
use Rattle.ledger_campaigns.specs.declared.request.LedgerAnswer.{LedgerAnswer}
use Rattle.ledger_campaigns.specs.declared.request.LedgerAnswer.TheVariants.{Given, Refused}
use Rattle.ledger_campaigns.specs.declared.request.LedgerAnswer.TheVariants.{Recorded, Failed}
use Rattle.ledger_campaigns.specs.Desks.{LedgerCall, LedgerCalls, DeskState, IsAnswer, AreAnswered}
use Rattle.ledger_campaigns.specs.Desks.{permit_result, stored_result, EndsStored, permits_of}
use Rattle.ledger_campaigns.specs.Desks.{permits_given, IsLegalHistory, Stands}
use Rattle.ledger_campaigns.specs.Desks.{ledger_after, last_ledger, HasRequest, HasNoPermit}
use Rattle.ledger_campaigns.specs.Desks.{IsRefused}

-- a place of the second of two lists
pub in_second : (place : ℕ) (xs ys : List ℕ) → IsIn place ys → IsIn place (xs ++ ys)
in_second place [] ys is = is
in_second place (x ∷ xs) ys is = inr (in_second place xs ys is)

-- a place of the first of two lists
pub in_first : (place : ℕ) (xs ys : List ℕ) → IsIn place xs → IsIn place (xs ++ ys)
in_first place [] ys none = absurd none
in_first place (x ∷ xs) ys (inl same) = inl same
in_first place (x ∷ xs) ys (inr later) = inr (in_first place xs ys later)

-- one of two facts, of which the first is kept
pub kept_or : {P Q R : Type 0} → (P → Q) → P ⊎ R → Q ⊎ R
kept_or kept (inl p) = inl (kept p)
kept_or kept (inr r) = inr r

module _ {B : Type 0} where
  -- a request that was made is one of more calls
  pub request_kept : (request : LedgerRequest) (new old : LedgerCalls B) → StartsWith new old
      → HasRequest request old → HasRequest request new
  request_kept request new old (rest, same) (before, later, by, answer, is) = (
    before,
    later ++ rest,
    by,
    answer,
    rw (same, is) (append_assoc before (entry by request answer ∷ later) rest),
  )

  -- a permit that was not given is not given by one of more calls
  pub no_permit_kept : (place : ℕ) (new old : LedgerCalls B) → StartsWith new old
      → HasNoPermit place old → HasNoPermit place new
  no_permit_kept place new old (rest, same) (before, later, by, answer, is, none) = (
    before,
    later ++ rest,
    by,
    answer,
    rw (same, is) (append_assoc before (entry by (Begin place) answer ∷ later) rest),
    none,
  )

  -- an answer without a permit refuses it
  pub refused_by : {O : Type 0} (place : ℕ) (port : ShownPort LedgerRequest (LedgerAnswer B) O)
      (before : LedgerCalls B) (by : List ℕ) (answer : LedgerAnswer B)
      → port.known.seen ≡ before ++ entry by (Begin place) answer ∷ []
      → IfOk (permit_result answer) (λ given. IfNone given (IsRefused place port))
  refused_by place port before by (Given permit ledger) seen = tt
  refused_by place port before by (Refused ledger) seen =
      inl (before, [], by, Refused ledger, seen, refl)
  refused_by place port before by (Recorded ledger) seen =
      inl (before, [], by, Recorded ledger, seen, refl)
  refused_by place port before by (Failed fault ledger) seen = tt

  -- so does one of a ledger that has failed
  pub failed_by : {O : Type 0} (place : ℕ) (port : ShownPort LedgerRequest (LedgerAnswer B) O)
      (before : LedgerCalls B) (by : List ℕ) (answer : LedgerAnswer B)
      → port.known.seen ≡ before ++ entry by (Begin place) answer ∷ []
      → OnErr (permit_result answer) (IsRefused place port)
  failed_by place port before by (Given permit ledger) seen = tt
  failed_by place port before by (Refused ledger) seen = tt
  failed_by place port before by (Recorded ledger) seen = tt
  failed_by place port before by (Failed fault ledger) seen =
      inl (before, [], by, Failed fault ledger, seen, refl)

  -- the permits of one list of calls and then of another
  pub given_both : (calls more : LedgerCalls B)
      → permits_given (calls ++ more) ≡ permits_given calls ++ permits_given more
  given_both [] more = refl
  given_both (call ∷ calls) more = ap (λ places. permits_of call.reply ++ places)
      (given_both calls more) ∙ search rules

  -- the permits of the calls with one call more
  pub given_more : (calls : LedgerCalls B) (by : List ℕ) (request : LedgerRequest)
      (answer : LedgerAnswer B) → permits_given (calls ++ entry by request answer ∷ [])
      ≡ permits_given calls ++ permits_of answer
  given_more calls by request answer = given_both calls (entry by request answer ∷ [])
      ∙ search rules

module _ {B : Type 0} (is_honest : B → Type 0) (is_marked : B → ℕ → Type 0)
    (keeps : B → ℕ → Outcome → Type 0) where
  answered_more : (before : LedgerState B) (calls : LedgerCalls B) (call : LedgerCall B)
      → AreAnswered is_honest is_marked keeps before calls
      → IsAnswer is_honest is_marked keeps (last_ledger before calls) call.event call.reply
      → AreAnswered is_honest is_marked keeps before (calls ++ call ∷ [])
  answered_more before [] call all is = (is, tt)
  answered_more before (first ∷ calls) call (head, tail) is =
      (head, answered_more (ledger_after first.reply) calls call tail is)

  -- the ledger after one more call
  last_more : (before : LedgerState B) (calls : LedgerCalls B) (call : LedgerCall B)
      → last_ledger before (calls ++ call ∷ []) ≡ ledger_after call.reply
  last_more before [] call = refl
  last_more before (first ∷ calls) call = last_more (ledger_after first.reply) calls call

  -- a ledger that results from calls, and then answers one more
  pub stands_more : (old new : DeskState B) (calls : LedgerCalls B)
      (by : List ℕ) (request : LedgerRequest) (answer : LedgerAnswer B)
      → new.start ≡ old.start → IsAnswer is_honest is_marked keeps old.ledger request answer
      → ledger_after answer ≡ new.ledger
      → Grants is_honest is_marked old.ledger new.ledger (permits_of answer)
      → Stands is_honest is_marked keeps old calls
      → Stands is_honest is_marked keeps new (calls ++ entry by request answer ∷ [])
  stands_more old new calls by request answer same is now grants stands = record {
    answers = rw same (answered_more old.start calls (entry by request answer) stands.answers
        (rw (← stands.last_is) is));
    last_is = sym (last_more new.start calls (entry by request answer) ∙ now);
    grants = rw (same, given_more calls by request answer)
        (both is_honest is_marked old.start old.ledger new.ledger (permits_given calls)
        (permits_of answer) stands.grants grants);
  }

  -- the last call of answered calls has an answer that its request may have
  answered_last : (start : LedgerState B) (before : LedgerCalls B) (call : LedgerCall B)
      → AreAnswered is_honest is_marked keeps start (before ++ call ∷ [])
      → IsAnswer is_honest is_marked keeps (last_ledger start before) call.event call.reply
  answered_last start [] call all = all.0
  answered_last start (first ∷ before) call all =
      answered_last (ledger_after first.reply) before call all.1

  place_given : (was : LedgerState B) (by : List ℕ) (before : LedgerCalls B) (place : ℕ)
      (answer : LedgerAnswer B) → IsAnswer is_honest is_marked keeps was (Begin place) answer
      → IfOk (permit_result answer) (λ given. OnSome given (IsIn place (permits_given (before
      ++ entry by (Begin place) answer ∷ []))))
  place_given was by before place (Given permit ledger) is =
      rw (given_more before by (Begin place) (Given permit ledger))
      (in_second place (permits_given before) (permit ∷ []) (inl (sym is.0)))
  place_given was by before place (Refused ledger) is = tt
  place_given was by before place (Recorded ledger) is = tt
  place_given was by before place (Failed fault ledger) is = tt

  -- the answer to a port's request is one that the request may have
  answer_is : (before after : Known LedgerRequest (LedgerAnswer B) (LedgerState B))
      (request : LedgerRequest) (answer : LedgerAnswer B)
      → (called : Called (IsLegalHistory is_honest is_marked keeps) before request answer after)
      → IsAnswer is_honest is_marked keeps
      (last_ledger called.lawful.origin (before.seen ++ called.seen.0)) request answer
  answer_is before after request answer called =
      let seen = called.seen.1 in
      let lawful = called.lawful in
      let answers : AreAnswered is_honest is_marked keeps lawful.origin
      ((before.seen ++ called.seen.0) ++ entry before.number request answer ∷ []) =
      rw (← seen) lawful.legal_history.answers in
      answered_last lawful.origin (before.seen ++ called.seen.0)
      (entry before.number request answer) answers

  -- a permit that a port was given is one of those that it has seen given
  pub asked : (before after : Known LedgerRequest (LedgerAnswer B) (LedgerState B)) (place : ℕ)
      (answer : LedgerAnswer B) (result : Result (Option ℕ) LedgerFault)
      → result ≡ permit_result answer
      → Called (IsLegalHistory is_honest is_marked keeps) before (Begin place) answer after
      → IfOk result (λ given. OnSome given (IsIn place (permits_given after.seen)))
  asked before after place answer result is called =
      rw (is, called.seen.1) (place_given
      (last_ledger called.lawful.origin (before.seen ++ called.seen.0)) before.number
      (before.seen ++ called.seen.0) place answer
      (answer_is before after (Begin place) answer called))

  place_of : (was : LedgerState B) (place : ℕ) (answer : LedgerAnswer B)
      → IsAnswer is_honest is_marked keeps was (Begin place) answer
      → IfOk (permit_result answer) (λ given. IfSome given (λ permit. permit ≡ place))
  place_of was place (Given permit ledger) is = is.0
  place_of was place (Refused ledger) is = tt
  place_of was place (Recorded ledger) is = tt
  place_of was place (Failed fault ledger) is = tt

  -- a permit that a port was given is for the place that it asked for
  pub asked_place : (before after : Known LedgerRequest (LedgerAnswer B) (LedgerState B))
      (place : ℕ) (answer : LedgerAnswer B) (result : Result (Option ℕ) LedgerFault)
      → result ≡ permit_result answer
      → Called (IsLegalHistory is_honest is_marked keeps) before (Begin place) answer after
      → IfOk result (λ given. IfSome given (λ permit. permit ≡ place))
  asked_place before after place answer result is called =
      rw is (place_of (last_ledger called.lawful.origin (before.seen ++ called.seen.0)) place answer
      (answer_is before after (Begin place) answer called))

  stored_by : (was : LedgerState B) (before : LedgerCalls B) (by : List ℕ) (place : ℕ)
      (outcome : Outcome) (answer : LedgerAnswer B)
      → IsAnswer is_honest is_marked keeps was (Record place outcome) answer
      → OnOk (stored_result answer) (EndsStored is_honest keeps place outcome (before
      ++ entry by (Record place outcome) answer ∷ []))
  stored_by was before by place outcome (Given permit ledger) is = tt
  stored_by was before by place outcome (Refused ledger) is = tt
  stored_by was before by place outcome (Recorded ledger) is =
      (before, by, ledger, refl, is.1.kept)
  stored_by was before by place outcome (Failed fault ledger) is = tt

  -- an outcome that was stored
  pub reported : (before after : Known LedgerRequest (LedgerAnswer B) (LedgerState B)) (place : ℕ)
      (outcome : Outcome) (answer : LedgerAnswer B) (result : Result (Unit {0}) LedgerFault)
      → result ≡ stored_result answer
      → Called (IsLegalHistory is_honest is_marked keeps) before (Record place outcome) answer after
      → OnOk result (EndsStored is_honest keeps place outcome after.seen)
  reported before after place outcome answer result is called =
      rw (is, called.seen.1) (stored_by
      (last_ledger called.lawful.origin (before.seen ++ called.seen.0))
      (before.seen ++ called.seen.0) before.number place outcome answer
      (answer_is before after (Record place outcome) answer called))
