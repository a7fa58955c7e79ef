-- The clients of a listener.
--     setup_failures_in    the number of clients that were closed because they have no streams
--     HaveReasons          each client that was turned away had a reason
use Rattle.std.specs.Prelude.{ℕ, ◌<◌, Option, Some, None}
use Rattle.meter_server.specs.declared.serving_all.Served.{Served}
use Rattle.port_threads.specs.Listening.{IsCounted}

-- the number of clients that the listener closed because their streams could not be set up: one if
-- there are no streams, else none
abbrev pub setup_failures_in : {S : Type 0} → Option S → ℕ
setup_failures_in (Some streams) = 0
setup_failures_in None = 1

-- Whether each client that was turned away had a reason, if none was out of memory, a port or a
-- thread. If fewer than eight were served, all of them are those whose streams could not be set up,
-- as the listener counts them.
abbrev pub HaveReasons : (before : Option ℕ) (served : Served) (after : Option ℕ) → Type 0
HaveReasons before served after = served.served < 8
    → IsCounted before served.turned_away after
