-- What the errors of accept(2) mean for a listener, by their numbers in Linux (errno, on x86-64 and
-- aarch64).
--     transient_errors  the errors of one client, or a signal: the next call may succeed at once
--     passing_errors    the errors that pass by themselves: a later call may succeed
--     error_meaning     what an error means for the listener
use Rattle.std.specs.Prelude.{ℕ, List, [], ◌∷◌, ◌==◌, if◌then◌else◌}
use Rattle.std.specs.List.{list_any}
use Rattle.server_io.specs.declared.accepting.AcceptError.{AcceptError}
use Rattle.server_io.specs.declared.accepting.AcceptError.TheVariants.{Transient, Passing, Final}

-- EINTR, ECONNABORTED
abbrev pub transient_errors : List ℕ
transient_errors = 4 ∷ 103 ∷ []

-- no descriptors or memory (ENOMEM, ENFILE, EMFILE, ENOBUFS), a firewall (EPERM), and the network
-- errors after which accept(2) says to try again (ENONET, EPROTO, ENOPROTOOPT, EOPNOTSUPP,
-- ENETDOWN, ENETUNREACH, EHOSTDOWN, EHOSTUNREACH)
abbrev pub passing_errors : List ℕ
passing_errors = 12 ∷ 23 ∷ 24 ∷ 105 ∷ 1 ∷ 64 ∷ 71 ∷ 92 ∷ 95 ∷ 100 ∷ 101 ∷ 112 ∷ 113 ∷ []

-- what the error of this number means for the listener
abbrev pub error_meaning : ℕ → AcceptError
error_meaning code = if list_any (λ n. n == code) transient_errors then Transient
    else if list_any (λ n. n == code) passing_errors then Passing
    else Final
