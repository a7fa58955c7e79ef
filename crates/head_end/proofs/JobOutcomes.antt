-- The outcome of a job is that of the predicted reads of its meter's connection.
use Rattle.std.proofs.Common.{◌≡◌, ℕ, List, [], Option, Some, None, Ok, Err, refl, ap, ◌∙◌, false}
use Rattle.std.specs.Prelude.{Result, IfOk, unwrap_or}
use Rattle.client_core.specs.declared.client.Client.{Client}
use Rattle.client_core.specs.declared.job.Verb.{Verb}
use Rattle.client_core.specs.declared.job.Outcome.{Outcome}
use Rattle.client_core.specs.declared.job.Job.{Job}
use Rattle.client_core.specs.declared.job.Outcome.TheVariants.{Unknown}
use Rattle.client_core.specs.declared.progress.Progress.{Progress}
use Rattle.client_core.specs.Outcomes.{outcome_of}
use Rattle.client_core.proofs.Lookups.{nothing_said}
use Rattle.client_core.specs.Standing.{Stands}
use Rattle.head_end.specs.declared.connection.ConnectFault.{ConnectFault}
use Rattle.head_end.specs.Connections.{Forecast, ConnectTells}
use Rattle.head_end.specs.Conversations.{At, GivesUp, Converses, Speaks, outcome_in}
use Rattle.head_end.specs.Logs.{Happening, IsNewLog}
use Rattle.head_end.specs.Wires.{HasConversed}
use Rattle.head_end.specs.Attempts.{refused, closed, HasRow, IsTried, row_in}
use Rattle.head_end.specs.declared.row.Row.TheVariants.{Came}
use Rattle.head_end.proofs.Talking.{gives_at}
use Rattle.head_end.specs.Rows.{IsOutcome}

-- no connection was made
pub unconnected : {K : Type 0} (told : Option Forecast) (told_of : K → Option Forecast)
    (fault : ConnectFault) (verb : Verb) (password : List ℕ) (client : Client) (outcome : Outcome)
    → ConnectTells told told_of (Err fault) → Stands verb password [] 0 false client
    → GivesUp client outcome → IsOutcome told verb outcome
unconnected None told_of fault verb password client outcome tells stands gives = tt
unconnected (Some told) told_of fault verb password client outcome tells stands gives =
    gives.outcome_is told verb password (record { given = 0; stands = rw tells.0 stands })

-- a client at the start of its connection
at_start : (told : Forecast) (verb : Verb) (password : List ℕ) (client : Client)
    (now : Option Forecast) → now ≡ Some told → told.reads ≡ 65536
    → Stands verb password [] 0 false client → At told verb password 65536 client now
at_start told verb password client now is reads stands = record {
  fed = [];
  given = 0;
  stands = stands;
  follows = record {
    rest = told.bytes;
    now_is = is ∙ ap (λ (n : ℕ). Some (let t : Forecast = record {
      reads = n;
      bytes = told.bytes;
      stop = told.stop;
    } in t)) reads;
    bytes_are = refl;
    last = λ none. absurd cc;
  };
}

outcome_by : {K : Type 0} (told : Option Forecast) (told_of : K → Option Forecast) (connection : K)
    (verb : Verb) (password : List ℕ) (client : Client) (outcome : Outcome)
    → ConnectTells told told_of (Ok connection) → Stands verb password [] 0 false client
    → Converses client (told_of connection) outcome → IsOutcome told verb outcome
outcome_by None told_of connection verb password client outcome tells stands converses = tt
outcome_by (Some told) told_of connection verb password client outcome tells stands converses =
    converses.outcome_is told verb password (at_start told verb password client
    (told_of connection) tells.0 tells.1 stands)

pub connected : {K E : Type 0} (told : Option Forecast) (told_of : K → Option Forecast)
    (connection : K) (verb : Verb) (password : List ℕ) (client : Client)
    (result : Result Outcome E) → ConnectTells told told_of (Ok connection)
    → Stands verb password [] 0 false client
    → IfOk result (Converses client (told_of connection)) → IfOk result (IsOutcome told verb)
connected told told_of connection verb password client (Ok outcome) tells stands converses =
    outcome_by told told_of connection verb password client outcome tells stands converses
connected told told_of connection verb password client (Err error) tells stands converses = tt

-- ---- the attempt

-- the outcome of no bytes is unknown
nothing_unknown : (verb : Verb) → outcome_of verb [] ≡ Unknown
unfolding outcome_of
nothing_unknown verb = ap (λ (p : Progress). unwrap_or p.outcome Unknown) (nothing_said verb)

spoken : {E : Type 0} (verb : Verb) (password : List ℕ) (result : Result Outcome E)
    (after : Option (List Happening))
    → HasConversed verb password (outcome_in result) after
    → HasRow verb password (row_in result) after
spoken verb password result None said = tt
spoken verb password (Ok outcome) (Some log) said = said
spoken verb password (Err error) (Some log) said = said

has_row : {E : Type 0} (verb : Verb) (password : List ℕ) (client : Client) (before after : Option
    (List Happening)) (result : Result Outcome E)
    → Stands verb password [] 0 false client → IsNewLog before
    → Speaks client before result after → HasRow verb password (row_in result) after
has_row verb password client None after result stands new speaks = rw (speaks.unknown refl) tt
has_row verb password client (Some log) after result stands new speaks =
    spoken verb password result after (speaks.on verb password stands (ap (λ
    (l : List Happening). Some l) new))

-- the connection was closed
pub tried_closed : {E : Type 0} (job : Job) (password : List ℕ) (client : Client)
    (before after : Option (List Happening)) (result : Result Outcome E)
    → Stands job.verb password [] 0 false client → IsNewLog before
    → Speaks client before result after
    → IsTried job password (row_in result) (closed job.address after)
tried_closed job password client before after result stands new speaks =
    (refl, has_row job.verb password client before after result stands new speaks)

-- no connection was made
pub tried_refused : (job : Job) (password : List ℕ) (client : Client) (outcome : Outcome)
    → Stands job.verb password [] 0 false client
    → GivesUp client outcome → IsTried job password (Came outcome) (refused job.address)
tried_refused job password client outcome stands gives = (
  refl,
  ap Came (gives_at job.verb password [] 0 client outcome gives stands
      ∙ nothing_unknown job.verb),
)
