-- The jobs of a ledger as lines of JSON.
--     json_line     a job as an object, whose members are in the order of their keys
--     json_rows     the lines of all jobs
use Rattle.std.specs.Prelude.{ℕ, codes, option_map, flat_map, List, [], ◌∷◌, ◌++◌, Option}
use Rattle.std.specs.Str.Lossy.{utf8_lossy}
use Rattle.serde_json.specs.Data.{Data, Members, member, no_members, number, object, string}
use Rattle.serde_json.specs.Data.{unsigned}
use Rattle.serde_json.specs.Written.{compact_text}
use Rattle.record_parts.specs.Values.{nullable}
use Rattle.client_core.specs.Verbs.{verb_word}
use Rattle.ledger_reports.specs.Status.{standing_of}
use Rattle.ledger_reports.specs.declared.line.LedgerLine.{LedgerLine}
use Rattle.ledger_records.specs.Fields.{answer_state, answer_time, outcome_number, outcome_word}
use Rattle.ledger_records.specs.Fields.{seconds_taken, sent_word, utc_text}

-- a number that may be missing
abbrev pub number_or_null : Option ℕ → Data
number_or_null n = nullable (option_map (λ n. number (unsigned n)) n)

-- a time that may be missing
abbrev pub time_or_null : Option ℕ → Data
time_or_null second = nullable (option_map (λ n. string (utc_text n)) second)

-- the members whose keys are from `seconds` on
unfoldable pub last_members : LedgerLine → Members
last_members line =
    member (codes "seconds") (number_or_null (seconds_taken line.times)) (
    member (codes "sent") (string (sent_word (standing_of line.entry))) (
    member (codes "state") (number_or_null (answer_state line.answer)) (
    member (codes "verb") (string (utf8_lossy (verb_word line.job.verb))) (
    no_members))))

-- the members whose keys are from `name` on
unfoldable pub outcome_members : LedgerLine → Members
outcome_members line =
    member (codes "name") (string (utf8_lossy line.job.id)) (
    member (codes "number") (number_or_null (outcome_number line.entry)) (
    member (codes "outcome") (string (outcome_word (standing_of line.entry))) (
    last_members line)))

-- all members; bytes of a name or an address that are not UTF-8 are replaced by U+FFFD
unfoldable pub job_members : LedgerLine → Members
job_members line =
    member (codes "address") (string (utf8_lossy line.job.address)) (
    member (codes "asked_at") (time_or_null (answer_time line.answer)) (
    member (codes "begun_at") (time_or_null line.times.begun) (
    member (codes "ended_at") (time_or_null line.times.ended) (
    outcome_members line))))

-- the object without blanks, and the byte 0A
unfoldable pub json_line : LedgerLine → List ℕ
json_line line = compact_text (object (job_members line)) ++ 10 ∷ []

-- the lines of all jobs, in their order
unfoldable pub json_rows : List LedgerLine → List ℕ
json_rows lines = flat_map json_line lines
