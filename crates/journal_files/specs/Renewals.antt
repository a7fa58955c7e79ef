-- The renewal of a journal: its file is replaced by one that begins later.
--     last_of         the last items of a list
--     AnswerAlike     meters that no event distinguishes
--     IsLaterTrace    a trace that begins later in the same run
--     IsRenewalOf     the text of a journal after its renewal
--     IsRenewedOver   the text of a journal that is renewed if it is long
--     IsRenewedAs     the text of a journal that is renewed while its meter runs
use Rattle.std.specs.Prelude.{◌≡◌, ◌⊎◌, ℕ, ◌-◌, ◌<◌, ◌≤◌, List, Ok, length, take, drop}
use Rattle.durable_lines.specs.Lines.{IsText}
use Rattle.relay_core.specs.Agreeing.{Agree}
use Rattle.relay_core.specs.Opening.{IsFitOpening, world_of_opening}
use Rattle.relay_core.specs.Runs.{world_after}
use Rattle.relay_core.specs.World.{World}
use Rattle.relay_events.specs.declared.event.Event.{Event}
use Rattle.relay_recorder.specs.Histories.{replies_from}
use Rattle.relay_recorder.specs.declared.trace.Trace.{Trace}
use Rattle.trace_player.specs.Journals.{IsJournal, journal_text}
use Rattle.trace_player.specs.Resuming.{world_of}
use Rattle.trace_player.specs.Traces.{trace_of}

-- the last items, at most n
abbrev pub last_of : {X : Type 0} → ℕ → List X → List X
last_of n items = drop (length items - n) items

-- the items before the last n
abbrev pub before_last : {X : Type 0} → ℕ → List X → List X
before_last n items = take (length items - n) items

-- whether the meters in these worlds give the same replies, whatever events come next
abbrev pub AnswerAlike : World → World → Type 0
AnswerAlike v w = (further : List Event) → replies_from v further ≡ replies_from w further

-- Whether the later trace begins later in the run of the earlier one. It has the last events of the
-- earlier one, at most `depth`, and the state of the meter before them. After both traces the meter
-- is the same, except for the samples that its limiters have counted, which no reply shows.
pub record IsLaterTrace (depth : ℕ) (earlier later : Trace) : Type 0 where
  pub fit : IsFitOpening later.opening
  pub kept : later.events ≡ last_of depth earlier.events
  pub opening : Agree (world_of_opening later.opening)
      (world_after (before_last depth earlier.events) (world_of_opening earlier.opening))
  pub meter : Agree (world_of later) (world_of earlier)
  pub answers : AnswerAlike (world_of later) (world_of earlier)

-- whether the new text is that of a journal of the same meter, and is read as a trace that begins
-- later than the one of the old text
pub record IsRenewalOf (depth : ℕ) (old new : List ℕ) : Type 0 where
  pub earlier : Trace
  pub told : trace_of old ≡ Ok earlier
  pub later : Trace
  pub begins_later : IsLaterTrace depth earlier later
  pub device : later.opening.device ≡ earlier.opening.device
  pub written : new ≡ journal_text later
  pub read_back : trace_of new ≡ Ok later
  pub journal : IsJournal new

-- Whether `new` follows from `old` by this limit: a journal of more than `limit` bytes is renewed,
-- any other is unchanged.
abbrev pub IsRenewedOver : (limit depth : ℕ) → List ℕ → List ℕ → Type 0
IsRenewedOver limit depth old new = ((length old ≤ limit) × (new ≡ old))
    ⊎ ((limit < length old) × IsRenewalOf depth old new)

-- whether a journal of whole lines was renewed as one of whole lines, with some number of events
pub record IsRenewedAs (old new : List ℕ) : Type 0 where
  pub depth : ℕ
  pub renewal : IsRenewalOf depth old new
  pub old_text : IsText old
  pub new_text : IsText new
