-- No member of a record is a float, so its text is that of its value.
use Rattle.std.proofs.Common.{◌≡◌, ℕ, false, List, Option, Some, None, codes, refl}
use Rattle.std.proofs.Common.{sym, subst, ◌∙◌, ap}
use Rattle.serde_json.specs.Data.{Data, Members, member, no_members, object, string}
use Rattle.serde_json.specs.Written.{compact_text, has_float, members_have_float}
use Rattle.std.specs.Str.Lossy.{utf8_lossy}
use Rattle.client_core.specs.Verbs.{verb_word}
use Rattle.ledger_reports.specs.Status.{standing_of}
use Rattle.ledger_reports.specs.declared.line.LedgerLine.{LedgerLine}
use Rattle.ledger_records.specs.Fields.{answer_state, answer_time, outcome_number, outcome_word}
use Rattle.ledger_records.specs.Fields.{seconds_taken, sent_word}
use Rattle.ledger_records.specs.Json.{job_members, last_members, number_or_null}
use Rattle.ledger_records.specs.Json.{outcome_members, time_or_null}

-- a number that may be missing is no float
number_is_whole : (n : Option ℕ) → has_float (number_or_null n) ≡ false
number_is_whole None = refl
number_is_whole (Some n) = refl

-- a time that may be missing is no float
time_is_whole : (second : Option ℕ) → has_float (time_or_null second) ≡ false
time_is_whole None = refl
time_is_whole (Some second) = refl

-- a member that is no float before others that are none
member_is_whole : (key : List ℕ) (value : Data) (later : Members) → has_float value ≡ false
    → members_have_float later ≡ false → members_have_float (member key value later) ≡ false
member_is_whole key value later first others = rw first others

-- the members whose keys are from `seconds` on
last_are_whole : (line : LedgerLine) → members_have_float (last_members line) ≡ false
unfolding last_members
last_are_whole line =
    let verb = member (codes "verb") (string (utf8_lossy (verb_word line.job.verb))) no_members in
    let state = member (codes "state") (number_or_null (answer_state line.answer)) verb in
    let sent = member (codes "sent") (string (sent_word (standing_of line.entry))) state in
    member_is_whole (codes "seconds") (number_or_null (seconds_taken line.times)) sent
    (number_is_whole (seconds_taken line.times))
    (member_is_whole (codes "state") (number_or_null (answer_state line.answer)) verb
    (number_is_whole (answer_state line.answer)) refl)

-- the members whose keys are from `name` on
outcome_are_whole : (line : LedgerLine) → members_have_float (outcome_members line) ≡ false
unfolding outcome_members
outcome_are_whole line =
    let outcome = member (codes "outcome") (string (outcome_word (standing_of line.entry)))
    (last_members line) in
    member_is_whole (codes "number") (number_or_null (outcome_number line.entry)) outcome
    (number_is_whole (outcome_number line.entry)) (last_are_whole line)

-- all members
job_are_whole : (line : LedgerLine) → members_have_float (job_members line) ≡ false
unfolding job_members
job_are_whole line =
    let ended = member (codes "ended_at") (time_or_null line.times.ended) (outcome_members line) in
    let begun = member (codes "begun_at") (time_or_null line.times.begun) ended in
    member_is_whole (codes "asked_at") (time_or_null (answer_time line.answer)) begun
    (time_is_whole (answer_time line.answer))
    (member_is_whole (codes "begun_at") (time_or_null line.times.begun) ended
    (time_is_whole line.times.begun)
    (member_is_whole (codes "ended_at") (time_or_null line.times.ended)
    (outcome_members line) (time_is_whole line.times.ended) (outcome_are_whole line)))

-- the text of an object with these members, which is known if it has no float
pub text_is : (value : Data) (found : Members) (line : LedgerLine) (text : List ℕ)
    → value ≡ object found → found ≡ job_members line
    → (has_float value ≡ false → text ≡ compact_text value)
    → text ≡ compact_text (object (job_members line))
text_is value found line text value_is found_are gives =
    let is_record = value_is ∙ ap object found_are in
    subst (λ (it : Data). text ≡ compact_text it) is_record
    (gives (subst (λ (it : Data). has_float it ≡ false) (sym is_record) (job_are_whole line)))
