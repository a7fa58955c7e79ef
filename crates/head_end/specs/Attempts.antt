-- The states of an attempt to reach a meter.
--     IsTried           the use of its attempt by a job
--     State             unused; refused; with an open connection; with a closed one and its log
use Rattle.std.specs.Prelude.{◌≡◌, ℕ, Bool, true, false, List, Option, Some, None, Result, Ok, Err, ⊤}
use Rattle.std.specs.declared.snapshot.Snapshot.{Snapshot}
use Rattle.client_core.specs.declared.job.Job.{Job}
use Rattle.client_core.specs.declared.job.Outcome.{Outcome}
use Rattle.client_core.specs.declared.job.Outcome.TheVariants.{Unknown}
use Rattle.client_core.specs.declared.job.Verb.{Verb}
use Rattle.head_end.specs.declared.connection.ConnectFault.{ConnectFault}
use Rattle.head_end.specs.declared.row.Row.{Row}
use Rattle.head_end.specs.declared.row.Row.TheVariants.{Came, Memory}
use Rattle.head_end.specs.Logs.{Happening}
use Rattle.head_end.specs.Wires.{HasConversed}

-- unused; used for an address, with a connect that was refused, a connection that is open, or one
-- that is closed, with this log
pub data State : Type 0 where
  unused : State
  refused : List ℕ → State
  connected : List ℕ → State
  closed : List ℕ → Option (List Happening) → State

-- whether the connection of the attempt is open
abbrev pub is_connected : State → Type 0
is_connected unused = ⊥
is_connected (refused address) = ⊥
is_connected (connected address) = ⊤
is_connected (closed address log) = ⊥

-- the state after a connect to an address
abbrev pub connect_state : {K : Type 0} → List ℕ → Result K ConnectFault → State
connect_state address (Ok connection) = connected address
connect_state address (Err fault) = refused address

-- the state after the open connection is closed, with this log
abbrev pub close_state : Option (List Happening) → State → State
close_state log unused = unused
close_state log (refused address) = refused address
close_state log (connected address) = closed address log
close_state log (closed address before) = closed address before

-- the state of an attempt that was used for an address, from its parts
abbrev pub used_state : {K : Type 0} → (K → Option (List Happening)) → List ℕ → Bool
    → Option (Snapshot K) → State
used_state log_of address true connection = refused address
used_state log_of address false None = connected address
used_state log_of address false (Some connection) = closed address (log_of connection.value)

-- the state of an attempt from its parts: the address that it was used for, whether the connect was
-- refused, and the closed connection
abbrev pub state_of : {K : Type 0} → (K → Option (List Happening)) → Option (Snapshot (List ℕ))
    → Bool → Option (Snapshot K) → State
state_of log_of None is_refused connection = unused
state_of log_of
    (Some address) is_refused connection = used_state log_of address.value is_refused connection

-- ---- the use of an attempt by a job

-- the outcome in a row, if the job did not run out of memory
abbrev pub row_outcome : Row → Option Outcome
row_outcome (Came outcome) = Some outcome
row_outcome Memory = None

-- whether the log of a connection, if it is known, is a conversation whose outcome is the row
abbrev pub HasRow : Verb → List ℕ → Row → Option (List Happening) → Type 0
HasRow verb password row None = ⊤
HasRow verb password row (Some log) = HasConversed verb password (row_outcome row) (Some log)

-- whether an attempt is that of its job: unused, if out of memory before the connect; a refused
-- connect to the job's address; or one connection to this address, closed after a conversation with
-- the job's verb and this password, whose outcome is the row
abbrev pub IsTried : Job → List ℕ → Row → State → Type 0
IsTried job password row unused = row ≡ Memory
IsTried job password row (refused address) = (address ≡ job.address) × (row ≡ Came Unknown)
IsTried job password row (connected address) = ⊥
IsTried job password row (closed address log) = (address ≡ job.address)
    × HasRow job.verb password row log

-- the row of a job with this result
abbrev pub row_in : {E : Type 0} → Result Outcome E → Row
row_in (Ok outcome) = Came outcome
row_in (Err error) = Memory
