-- The bytes before the rest were written.
use Rattle.meter_journal.proofs.OutputLemmas.{GivenTo}
use Rattle.meter_journal.proofs.relay.write_bytes.Given as goal

abbrev pub invariant-writes : goal.invariant-writes
invariant-writes g l =
    GivenTo (g.W.Write.contents l.initial.output) (g.W.Write.contents l.output) l.bytes l.rest
