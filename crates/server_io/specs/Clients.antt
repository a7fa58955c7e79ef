-- The view that contracts have of a listening socket.
--     has_failed           the listener has failed
--     limits_of            the time limits of its clients
--     is_logged            each client is reported on standard error
--     accepted_of          the number of clients that it has accepted
--     setup_failures_of    the number of those whose stream could not be set up
use Rattle.std.specs.Prelude.{Bool, ℕ, ◌+◌}
use Rattle.server_io.specs.declared.limits.StreamLimits.{StreamLimits}
use Rattle.server_io.specs.declared.listening.Sockets.{Sockets}

-- whether the listener has failed
abbrev pub has_failed : {R : Type 0} → Sockets R → Bool
has_failed s = s.arrivals.has_failed

-- the time limits of its clients
abbrev pub limits_of : {R : Type 0} → Sockets R → StreamLimits
limits_of s = s.limits

-- whether each client is reported on standard error
abbrev pub is_logged : {R : Type 0} → Sockets R → Bool
is_logged s = s.is_verbose

-- the number of clients that it has accepted
abbrev pub accepted_of : {R : Type 0} → Sockets R → ℕ
accepted_of s = s.set_up + s.setup_failures

-- the number of those whose stream could not be set up
abbrev pub setup_failures_of : {R : Type 0} → Sockets R → ℕ
setup_failures_of s = s.setup_failures
