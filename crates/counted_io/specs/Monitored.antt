-- The view that contracts have of a std stream that records a failed read.
use Rattle.std.specs.Prelude.{Bool}
use Rattle.counted_io.specs.declared.monitored.Monitored.{Monitored}

-- the stream whose failed reads are recorded
abbrev pub stream_of : {T : Type 0} → Monitored T → T
stream_of m = m.stream

-- whether a read has failed
abbrev pub has_failed : {T : Type 0} → Monitored T → Bool
has_failed m = m.has_failed
