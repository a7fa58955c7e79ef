-- The view that contracts have of a std stream whose failures are counted.
use Rattle.std.specs.Prelude.{◌≡◌, ℕ, Bool, false, if◌then◌else◌}
use Rattle.counted_io.specs.declared.counted.Counted.{Counted}

-- the stream whose failures are counted
abbrev pub stream_of : {T : Type 0} → Counted T → T
stream_of c = c.stream

-- the number of successful reads
abbrev pub reads_of : {T : Type 0} → Counted T → ℕ
reads_of c = c.reads

-- whether a read or a write has failed
abbrev pub has_failed : {T : Type 0} → Counted T → Bool
has_failed c = c.has_failed

-- the number of failures, 0 or 1: after the first the stream cannot be used
abbrev pub failures_of : {T : Type 0} → Counted T → ℕ
failures_of c = if c.has_failed then 1 else 0

-- whether no read or write has failed
abbrev pub IsWhole : {T : Type 0} → Counted T → Type 0
IsWhole c = c.has_failed ≡ false
