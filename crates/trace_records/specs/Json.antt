-- A record as a line of JSON.
--     json_object     the record as an object, whose members are in the order of their keys
--     json_line       its text
use Rattle.std.specs.Prelude.{ℕ, codes, option_map, List, [], ◌∷◌, ◌++◌, Option, Some, None}
use Rattle.serde_json.specs.Data.{Data, Members, member, no_members, number, object, string}
use Rattle.serde_json.specs.Data.{unsigned}
use Rattle.serde_json.specs.Written.{compact_text}
use Rattle.cosem_datetime.specs.Calendar.{first_day_of_2000}
use Rattle.trace_lines.specs.Replies.{supply_text}
use Rattle.record_parts.specs.Civil.{civil_text}
use Rattle.record_parts.specs.Values.{nullable}
use Rattle.trace_records.specs.Records.{Fields}

-- the member of the event, if it is shown, before the others
abbrev pub event_member : Option (List ℕ) → Members → Members
event_member (Some event) others = member (codes "event") (string event) others
event_member None others = others

-- the members of each record; the moment in seconds, and as a civil date and time
abbrev pub plain_members : Fields → Members
plain_members r =
    member (codes "moment") (nullable (option_map (λ n. number (unsigned n)) r.moment)) (
    member (codes "number") (number (unsigned r.number)) (
    member (codes "reply") (string r.reply) (
    member (codes "state") (number (unsigned r.state)) (
    member (codes "supply") (string (supply_text r.output)) (
    member (codes "time")
    (nullable (option_map (λ n. string (civil_text first_day_of_2000 n)) r.moment)) (
    no_members))))))

-- a record as a JSON object, whose members are in the order of their keys
abbrev pub json_object : Fields → Data
json_object r = object (event_member r.event (plain_members r))

-- the object without blanks, and the byte 0A
abbrev pub json_line : Fields → List ℕ
json_line r = compact_text (json_object r) ++ 10 ∷ []
