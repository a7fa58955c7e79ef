-- What a query of answers does to a connection: nothing.
use Rattle.std.proofs.Common.{◌≡◌, ◌++◌, List, Result, Ok, Err, is_ok, is_err, false, if◌then◌else◌, refl}
use Rattle.sqlite.specs.Listing.{understood}
use Rattle.sqlite.proofs.Callers.{IsPlain}
use Rattle.sqlite_tied.specs.Compute.{everything}
use Rattle.sqlite_ledger.specs.Answers.{select_answers, select_last}
use Rattle.sqlite_ledger.specs.AnswersSchema.{answers_schema}

pub answers_plain : IsPlain (understood answers_schema select_answers)
unfolding understood everything
answers_plain = (refl, refl)

pub last_plain : IsPlain (understood answers_schema select_last)
unfolding understood everything
last_plain = (refl, refl)

-- a push that did not fail has appended its item
pub pushed_by : {X E : Type 0} (r : Result (Unit {0}) E) (old new more : List X) → is_err r ≡ false
    → new ≡ (if is_ok r then old ++ more else old) → new ≡ old ++ more
pushed_by (Ok done) old new more went is = is
pushed_by (Err e) old new more went is = absurd cc
