-- A client follows the initially predicted reads of its connection.
use Rattle.std.proofs.Common.{◌≡◌, ℕ, suc, Bool, true, false, List, [], ◌++◌, Option, Some, None, Ok, Err, sym, ap, subst, ◌∙◌, append-nil}
use Rattle.std.specs.Prelude.{unwrap_or}
use Rattle.counted_io.specs.declared.fault.StreamFault.{StreamFault}
use Rattle.client_core.specs.declared.client.Client.{Client}
use Rattle.client_core.specs.declared.job.Verb.{Verb}
use Rattle.client_core.specs.declared.job.Outcome.{Outcome}
use Rattle.client_core.specs.declared.job.Outcome.TheVariants.{Unknown}
use Rattle.client_core.specs.Standing.{Stands, GivesNextMessage, Ends, Tells}
use Rattle.head_end.specs.Connections.{Forecast, WriteTells, failed}
use Rattle.head_end.specs.Conversations.{Follows, At, AtEnd, GivesUp, SendsAll}

-- the outcome of a client whose connection is over is that of the bytes it was fed
pub gives_up : (old mid : Client) (told : Option Outcome) → Ends old mid → Tells mid told
    → GivesUp old (unwrap_or told Unknown)
gives_up old mid told ends tells = record {
  outcome_is = λ start verb password end.
      ap (λ (o : Option Outcome). unwrap_or o Unknown)
      (tells.told verb password start.bytes end.given true
      (ends.stands verb password start.bytes end.given false end.stands));
}

-- if no predicted bytes are left, all of them were fed
pub all_fed : (start : Forecast) (verb : Verb) (password : List ℕ) (left given : ℕ)
    (client : Client) (now : Option Forecast) (fed : List ℕ) (follows : Follows start now fed left)
    → Stands verb password fed given false client → follows.rest ≡ []
    → AtEnd start verb password client
all_fed start verb password left given client now fed follows stands none =
    let bytes : fed ≡ start.bytes = sym (append-nil fed)
    ∙ ap (λ (rest : List ℕ). fed ++ rest) (sym none) ∙ sym follows.bytes_are in
    record {
      given = given;
      stands = subst (λ (all : List ℕ). Stands verb password all given false
          client) bytes stands;
    }

-- ---- writing

at_written : (start : Forecast) (verb : Verb) (password text : List ℕ) (left : ℕ) (old new : Client)
    (before after : Option Forecast) → GivesNextMessage old (Some text) new
    → WriteTells {X = Unit {0}} before (Ok tt) after → At start verb password left old before
    → At start verb password left new after
at_written start verb password text left old new before after gives writes at =
    let same = rw at.follows.now_is at writes in
    record {
      fed = at.fed;
      given = suc at.given;
      stands = gives.stands verb password at.fed at.given false at.stands;
      follows = record {
        rest = at.follows.rest;
        now_is = same;
        bytes_are = at.follows.bytes_are;
        last = at.follows.last;
      };
    }

at_cut : (start : Forecast) (verb : Verb) (password text : List ℕ) (left : ℕ) (old new : Client)
    (before after : Option Forecast) (fault : StreamFault) → GivesNextMessage old (Some text) new
    → WriteTells {X = Unit {0}} before (Err fault) after → At start verb password left old before
    → AtEnd start verb password new
at_cut start verb password text left old new before after fault gives writes at =
    let none : (at.follows.rest ≡ []) × (start.stop ≡ failed) = rw at.follows.now_is at writes in
    all_fed start verb password left (suc at.given) new before at.fed at.follows
    (gives.stands verb password at.fed at.given false at.stands) none.0

-- no message is written yet
pub all_none : (client : Client) (now : Option Forecast) → SendsAll client now true client now
all_none client now = record { on = λ start verb password left at. at }

pub all_twice : (old mid new : Client) (before between after : Option Forecast) (goes_on : Bool)
    → SendsAll old before true mid between
    → SendsAll mid between goes_on new after → SendsAll old before goes_on new after
all_twice old mid new before between after goes_on first second = record {
  on = λ start verb password left at. second.on start verb password left
      (first.on start verb password left at);
}

pub all_text : (old new : Client) (text : List ℕ) (before after : Option Forecast)
    → GivesNextMessage old (Some text) new → WriteTells {X = Unit {0}} before (Ok tt) after
    → SendsAll old before true new after
all_text old new text before after gives writes = record {
  on = λ start verb password left at. at_written start verb password text left old new before after
      gives writes at;
}

pub all_cut : (old new : Client) (text : List ℕ) (before after : Option Forecast)
    (fault : StreamFault) → GivesNextMessage old (Some text) new
    → WriteTells {X = Unit {0}} before (Err fault) after → SendsAll old before false new after
all_cut old new text before after fault gives writes = record {
  on = λ start verb password left at. at_cut start verb password text left old new before after
      fault gives writes at;
}

pub all_nothing : (old new : Client) (now : Option Forecast) → GivesNextMessage old None new
    → SendsAll old now true new now
all_nothing old new now gives = record {
  on = λ start verb password left at. record {
    fed = at.fed;
    given = at.given;
    stands = gives.stands verb password at.fed at.given false at.stands;
    follows = at.follows;
  };
}
