-- Consecutive turns, from the first read to the last.
use Rattle.std.proofs.Common.{◌≡◌, ◌≢◌, ℕ, zero, suc, ◌+◌, ◌-◌, ◌<◌, ◌≤◌, arith, true, false, List, ◌++◌, length, take, Option, Some, None, Ok, Err, refl, sym, ap, subst, ◌∙◌, append_assoc}
use Rattle.counted_io.specs.declared.fault.StreamFault.{StreamFault}
use Rattle.client_core.specs.declared.client.Client.{Client}
use Rattle.client_core.specs.declared.job.Verb.{Verb}
use Rattle.client_core.specs.declared.job.Outcome.{Outcome}
use Rattle.client_core.specs.Outcomes.{outcome_of}
use Rattle.client_core.specs.Standing.{Feeds, Tells}
use Rattle.head_end.specs.Connections.{Forecast, GivesPiece, ReadTells}
use Rattle.head_end.proofs.Steps.{all_fed}
use Rattle.head_end.specs.Conversations.{At, AtTurn, GivesUp, SendsAll, Turns, Converses}

-- a client was fed the bytes of one more read
pub record Feeding (old : Client) (before : Option Forecast) (new : Client)
    (after : Option Forecast) : Type 0 where
  pub on : (start : Forecast) (verb : Verb) (password : List ℕ) (left : ℕ)
      → At start verb password (suc left) old before → At start verb password left new after

-- a read that returned bytes
read_now : (start : Forecast) (left count : ℕ) (rest buffer : List ℕ)
    (before after : Option Forecast) → before
    ≡ Some (record { reads = suc left; bytes = rest; stop = start.stop })
    → length buffer ≡ 1024 → count ≢ 0 → ReadTells before (Ok count) buffer after
    → GivesPiece (record { reads = suc left; bytes = rest; stop = start.stop }) left
    (take count buffer) after
read_now start left zero rest buffer before after is size some tells = absurd (some refl)
read_now start left (suc count) rest buffer before after is size some tells =
    let told = rw is at tells in
    told size

at_fed : (start : Forecast) (verb : Verb) (password : List ℕ) (left count : ℕ) (old new : Client)
    (bytes buffer : List ℕ) (before after : Option Forecast)
    → length buffer ≡ 1024 → count ≢ 0 → bytes ≡ take count buffer
    → ReadTells before (Ok count) buffer after → Feeds old bytes new
    → At start verb password (suc left) old before → At start verb password left new after
at_fed start verb password left count old new bytes buffer before after size some bytes_are
    tells feeds at =
    let piece = read_now start left count at.follows.rest buffer before after at.follows.now_is size
    some tells in
    record {
      fed = at.fed ++ bytes;
      given = at.given;
      stands = feeds.stands verb password at.fed at.given false at.stands;
      follows = record {
        rest = piece.rest;
        now_is = piece.new_is;
        bytes_are =
            at.follows.bytes_are ∙ ap (λ (t : List ℕ). at.fed ++ t) piece.bytes_are
            ∙ ap (λ (t : List ℕ). at.fed ++ (t ++ piece.rest)) (sym bytes_are)
            ∙ sym (append_assoc at.fed bytes piece.rest);
        last = piece.last;
      };
    }

pub feeding : (old new : Client) (count : ℕ) (bytes buffer : List ℕ)
    (before after : Option Forecast) → length buffer ≡ 1024 → count ≢ 0 → bytes ≡ take count buffer
    → ReadTells before (Ok count) buffer after → Feeds old bytes new → Feeding old before new after
feeding old new count bytes buffer before after size some bytes_are tells feeds = record {
  on = λ start verb password left at. at_fed start verb password left count old new bytes buffer
      before after size some bytes_are tells feeds at;
}

-- ---- a turn

-- the connection has ended, or failed
pub turn_ended : (old new : Client) (buffer : List ℕ) (before told after : Option Forecast)
    (outcome : Outcome) → length buffer ≡ 1024 → ReadTells before (Ok 0) buffer told
    → GivesUp old outcome → Turns old before (Some outcome) new after
turn_ended old new buffer before told after outcome size tells gives = record {
  on = λ start verb password left at.
      let none = rw at.follows.now_is at tells in
      gives.outcome_is start verb password (all_fed start verb password (suc left) at.given old
      before at.fed at.follows at.stands (none size).0);
}

pub turn_failed : (old new : Client) (buffer : List ℕ) (before told after : Option Forecast)
    (fault : StreamFault) (outcome : Outcome) → length buffer ≡ 1024
    → ReadTells before (Err fault) buffer told → GivesUp old outcome
    → Turns old before (Some outcome) new after
turn_failed old new buffer before told after fault outcome size tells gives = record {
  on = λ start verb password left at.
      let none = rw at.follows.now_is at tells in
      gives.outcome_is start verb password (all_fed start verb password (suc left) at.given old
      before at.fed at.follows at.stands (none size).0);
}

-- a message could not be written
pub turn_cut : (old mid last new : Client) (before between cut after : Option Forecast)
    (outcome : Outcome) → Feeding old before mid between
    → SendsAll mid between false last cut → GivesUp last outcome
    → Turns old before (Some outcome) new after
turn_cut old mid last new before between cut after outcome fed sends gives = record {
  on = λ start verb password left at. gives.outcome_is start verb password
      (sends.on start verb password left (fed.on start verb password left at));
}

-- the outcome is settled, or it is not
settled_at : (start : Forecast) (verb : Verb) (password : List ℕ) (left : ℕ) (client : Client)
    (now : Option Forecast) (result : Option Outcome) → Tells client result
    → At start verb password left client now → AtTurn result start verb password left client now
settled_at start verb password left client now None tells at = at
settled_at start verb password left client now (Some outcome) tells at =
    sym (tells.stays verb password at.fed at.given false at.stands outcome
    (sym (tells.told verb password at.fed at.given false at.stands)) at.follows.rest)
    ∙ ap (outcome_of verb) (sym at.follows.bytes_are)

pub turn_on : (old mid new : Client) (before between after : Option Forecast)
    (result : Option Outcome) → Feeding old before mid between
    → SendsAll mid between true new after → Tells new result → Turns old before result new after
turn_on old mid new before between after result fed sends tells = record {
  on = λ start verb password left at.
      settled_at start verb password left new after result tells
      (sends.on start verb password left (fed.on start verb password left at));
}

-- ---- all turns

-- the given number of turns has not settled the outcome
pub record Goes (first : Client) (before : Option Forecast) (turns : ℕ) (client : Client)
    (now : Option Forecast) : Type 0 where
  pub on : (start : Forecast) (verb : Verb) (password : List ℕ) (left : ℕ) → left + turns ≡ 65536
      → At start verb password 65536 first before
      → At start verb password left client now

-- the messages before the first turn were written
pub goes_first : (old client : Client) (before now : Option Forecast)
    → SendsAll old before true client now → Goes old before 0 client now
goes_first old client before now sends = record {
  on = λ start verb password left all at.
      let same : 65536 ≡ left = omega arith in
      subst (λ (n : ℕ). At start verb password n client now) same
      (sends.on start verb password 65536 at);
}

pub goes_on : (first old new : Client) (begun before after : Option Forecast) (turns : ℕ)
    → Goes first begun turns old before → Turns old before None new after
    → Goes first begun (turns + 1) new after
goes_on first old new begun before after turns goes turn = record {
  on = λ start verb password left all at. turn.on start verb password left
      (goes.on start verb password (suc left) (omega arith) at);
}

-- a write failed before the first turn
pub converses_cut : (old last : Client) (before now : Option Forecast) (outcome : Outcome)
    → SendsAll old before false last now → GivesUp last outcome → Converses old before outcome
converses_cut old last before now outcome sends gives = record {
  outcome_is = λ start verb password at. gives.outcome_is start verb password
      (sends.on start verb password 65536 at);
}

-- a turn settled the outcome
pub converses_turn : (first old new : Client) (begun before after : Option Forecast) (turns : ℕ)
    (outcome : Outcome) → turns < 65536 → Goes first begun turns old before
    → Turns old before (Some outcome) new after → Converses first begun outcome
converses_turn first old new begun before after turns outcome few goes turn = record {
  outcome_is = λ start verb password at.
      let left : ℕ = 65535 - turns in
      turn.on start verb password left (goes.on start verb password (suc left) (omega arith) at);
}

-- no turn settled the outcome
pub converses_last : (first old : Client) (begun before : Option Forecast) (turns : ℕ)
    (outcome : Outcome) → 65536 ≤ turns → Goes first begun turns old before → turns ≤ 65536
    → GivesUp old outcome → Converses first begun outcome
converses_last first old begun before turns outcome many goes most gives = record {
  outcome_is = λ start verb password at.
      let here = goes.on start verb password 0 (omega arith) at in
      gives.outcome_is start verb password
      (all_fed start verb password 0 here.given old before here.fed here.follows here.stands
      (here.follows.last refl));
}
