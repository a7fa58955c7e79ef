-- What a stream with a fault passes on to the stream below it.
--     course_of        what a new stream does
--     passed_on        the bytes of a write that are passed on
--     course_after     what the stream does after a write
--     state_of         what is known of the stream
--     ReadsBy          a read
--     WritesBy         a write
use Rattle.std.specs.Prelude.{◌≡◌, ℕ, ◌+◌, ◌-◌, ◌/◌, ◌==◌, if◌then◌else◌, Bool, true, false, List, []}
use Rattle.std.specs.Prelude.{◌∷◌, Option, Some, None, length, take}
use Rattle.fleet_links.specs.Streams.{StreamState, ReadBy, WrittenBy}
use Rattle.fleet_links.specs.declared.stream.Received.{Received}
use Rattle.fleet_links.specs.declared.stream.Received.TheVariants as received
use Rattle.fleet_links.specs.declared.stream.Sent.{Sent}
use Rattle.fleet_links.specs.declared.stream.Sent.TheVariants as sent
use Rattle.fleet_faults.specs.declared.fault.InjectedFault.{InjectedFault}
use Rattle.fleet_faults.specs.declared.fault.InjectedFault.TheVariants as fault
use Rattle.fleet_faults.specs.declared.stream.FaultCourse.{FaultCourse}
use Rattle.fleet_faults.specs.declared.stream.FaultCourse.TheVariants.{Passes, Drops, SendsFirst, CutsNext, Ends}

-- what a new stream with this fault does, or without a fault
abbrev pub course_of : Option InjectedFault → FaultCourse
course_of None = Passes
course_of (Some fault.Silent) = Drops
course_of (Some fault.Slow) = Passes
course_of (Some fault.Vanishes) = SendsFirst
course_of (Some fault.Closes) = Ends 0
course_of (Some fault.WrongPassword) = Passes
course_of (Some fault.Refuses) = Passes

-- the bytes of a write that are passed on
abbrev pub passed_on : FaultCourse → List ℕ → List ℕ
passed_on Passes bytes = bytes
passed_on Drops bytes = []
passed_on SendsFirst bytes = bytes
passed_on CutsNext bytes = take (length bytes / 2) bytes
passed_on (Ends left) bytes = take left bytes

-- what the stream does after a write with this result, if it passes on at most `left` bytes
abbrev pub course_cut : FaultCourse → ℕ → Sent → FaultCourse
course_cut course left (sent.Bytes count) = Ends (left - count)
course_cut course left sent.Blocked = course
course_cut course left sent.Failed = course

-- what the stream does after a write of `size` bytes with this result
abbrev pub course_after : FaultCourse → ℕ → Sent → FaultCourse
course_after Passes size result = Passes
course_after Drops size result = Drops
course_after SendsFirst size (sent.Bytes count) = if count == size then CutsNext else SendsFirst
course_after SendsFirst size sent.Blocked = SendsFirst
course_after SendsFirst size sent.Failed = SendsFirst
course_after CutsNext size result = course_cut CutsNext (size / 2) result
course_after (Ends left) size result = course_cut (Ends left) left result

-- the result of a write of `size` bytes of which none is passed on
abbrev pub result_without : FaultCourse → ℕ → Sent
result_without Passes size = sent.Failed
result_without Drops size = sent.Bytes size
result_without SendsFirst size = sent.Failed
result_without CutsNext size = sent.Failed
result_without (Ends left) size = sent.Failed

-- whether these bytes of a write were passed on to the stream below with this result; without any
-- bytes that stream is unchanged, and the result is this one
abbrev pub GivesBelow : List ℕ → Sent → StreamState → Sent → StreamState → Type 0
GivesBelow [] without old result new = (result ≡ without) × (new ≡ old)
GivesBelow (byte ∷ bytes) without old result new = WrittenBy old (byte ∷ bytes) result new

-- whether a write of these bytes had this result, where `old` and `new` are the states of the
-- stream below
pub record WritesBy (course : FaultCourse) (old : StreamState) (bytes : List ℕ) (result : Sent)
    (course' : FaultCourse) (new : StreamState) : Type 0 where
  pub below : GivesBelow (passed_on course bytes) (result_without course (length bytes)) old result
      new
  pub next : course' ≡ course_after course (length bytes) result

-- whether the stream has ended
abbrev pub has_ended : FaultCourse → Bool
has_ended Passes = false
has_ended Drops = false
has_ended SendsFirst = false
has_ended CutsNext = false
has_ended (Ends left) = left == 0

-- whether a read into this buffer had this result, where the stream had ended or not, and `old` and
-- `new` are the states of the stream below
abbrev pub ReadsBy : Bool → StreamState → List ℕ → Received → StreamState → Type 0
ReadsBy true old buffer result new = (result ≡ received.Ended) × (new ≡ old)
ReadsBy false old buffer result new = ReadBy old buffer result new

-- the bytes that the client was sent, if they are known; of the bytes that are dropped nothing is
-- claimed
abbrev pub bytes_known : FaultCourse → Option (List ℕ) → Option (List ℕ)
bytes_known Passes written = written
bytes_known Drops written = None
bytes_known SendsFirst written = written
bytes_known CutsNext written = written
bytes_known (Ends left) written = written

-- the number of ends of its own, which changes with each
abbrev pub own_ends : Bool → ℕ
own_ends true = 1
own_ends false = 0

-- what is known of a stream that has `ends` ends of its own, where `below` is the stream below
abbrev pub state_of : FaultCourse → ℕ → StreamState → StreamState
state_of course ends below = record {
  arrived = below.arrived;
  written = bytes_known course below.written;
  blocks = below.blocks;
  ends = below.ends + ends;
}
