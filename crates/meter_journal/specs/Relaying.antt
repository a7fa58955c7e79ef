-- What the relay of a meter is given: the supply output at the start, and then a line for each
-- change of it.
--     output_line     the line for an output
--     change_line     the line for an output that follows another
--     change_lines    the lines for the changes in a run
--     relay_text      what a relay is given in a run
--     output_after    the output after a number of changes
--     switch_text     the lines for a number of changes
--     AppendsFront    an output was given a front of bytes
--     Follows         a relay was given a number of changes
--     StopsAt         a relay has failed at a change
--     OnRelay         a fact of a relay before and after, if there is one
--     IsRelayed       a relay was given the changes by the calls of a history
use Rattle.std.specs.Prelude.{◌≡◌, ℕ, zero, suc, ◌+◌, ◌≤◌, Bool, true, false, not, codes, List, []}
use Rattle.std.specs.Prelude.{◌∷◌, ◌++◌, length, Option, Some, None, ⊤, Result, OnOk}
use Rattle.std.specs.Io.KnownBytes.{Appends}
use Rattle.relay_core.specs.Runs.{lines_of}
use Rattle.relay_core.specs.World.{World}
use Rattle.relay_core.specs.declared.opening.Opening.{Opening}
use Rattle.relay_events.specs.declared.event.Event.{Event}
use Rattle.relay_events.specs.declared.reply.Line.{Line}
use Rattle.turn_lock.specs.History.{StartsWith}
use Rattle.shared_meter.specs.Calls.{Calls, switches_of}
use Rattle.shared_meter.specs.Pending.{lines_of_calls}
use Rattle.shared_meter.specs.Switching.{is_on}
use Rattle.meter_journal.specs.declared.relay.Relay.{Relay}

-- 1 if the supply is on, else 0, and a line end
abbrev pub output_line : Bool → List ℕ
output_line true = codes "1\n"
output_line false = codes "0\n"

-- the line for an output that follows another, none if it is the same
abbrev pub change_line : (before now : Bool) → List ℕ
change_line true true = []
change_line false false = []
change_line _ now = output_line now

-- the lines for the changes in a run, whose lines have the output after each event
abbrev pub change_lines : (before : Bool) → List Line → List ℕ
change_lines before [] = []
change_lines before (line ∷ run) = change_line before line.output ++ change_lines line.output run

-- what a relay is given in a run of events: the output at the start, and the changes
abbrev pub relay_text : World → List Event → List ℕ
relay_text w events = output_line (is_on w) ++ change_lines (is_on w) (lines_of events w)

-- whether the supply is on after a number of changes, each to the other value
abbrev pub output_after : (first : Bool) → ℕ → Bool
output_after first zero = first
output_after first (suc n) = output_after (not first) n

-- the lines for a number of changes, each to the other value
abbrev pub switch_text : (first : Bool) → ℕ → List ℕ
switch_text first zero = []
switch_text first (suc n) = output_line (not first) ++ switch_text (not first) n

-- whether an output was given a front of these bytes: all, some or none
abbrev pub AppendsFront : (old new : Option (List ℕ)) → List ℕ → Type 0
AppendsFront old new bytes =
    (front rest : List ℕ) × (bytes ≡ front ++ rest) × Appends old new front

-- whether a relay was given this number of changes, since it was `began` and had been given none
pub record Follows {W : Type 0} (contents : W → Option (List ℕ)) (began : Relay W) (n : ℕ)
    (now : Relay W) : Type 0 where
  pub count : now.given ≡ n
  pub output_is : now.is_on ≡ output_after began.is_on n
  pub text : Appends (contents began.output) (contents now.output) (switch_text began.is_on n)

-- whether a relay was given the changes that it counts, since it was `began` and had been given
-- none, and a front of the line for one more
pub record StopsAt {W : Type 0} (contents : W → Option (List ℕ)) (began now : Relay W) : Type 0
  where
    pub part : List ℕ
    pub rest : List ℕ
    pub split : output_line (output_after began.is_on (now.given + 1)) ≡ part ++ rest
    pub text : Appends (contents began.output) (contents now.output)
        (switch_text began.is_on now.given ++ part)

-- whether a fact holds of a relay before and after, if there is one; none is added, none dropped
abbrev pub OnRelay : {R : Type 0} → (R → R → Type 0) → Option R → Option R → Type 0
OnRelay P None None = ⊤
OnRelay P (Some before) (Some after) = P before after
OnRelay P _ _ = ⊥

-- Whether a relay, which had been given no change, was given the first changes of the supply output
-- by these calls, in order, each once, and no more than the calls make whose lines are on the disk.
-- After a failure it may also have been given a front of the line for one more; otherwise it was
-- given all changes.
pub record IsRelayed {W T E : Type 0} (contents : W → Option (List ℕ))
    (IsOnDisk : Calls → ℕ → Type 0) (origin : Opening) (calls : Calls) (end : Result T E)
    (began ended : Relay W) : Type 0 where
  pub front : Calls
  pub begins : StartsWith calls front
  pub on_disk : IsOnDisk front (length (lines_of_calls front))
  pub within : ended.given ≤ switches_of origin front
  pub given : StopsAt contents began ended
  pub all : OnOk end (Follows contents began (switches_of origin calls) ended)
