use Rattle.wire_bytes.proofs.OutcomeLemmas.{gives_found, gives_only}
use Rattle.acse_ber.specs.Reading.{aarq_of}
use Rattle.acse_ber.specs.Spelling.{SpellsAarq}
use Rattle.acse_ber.specs.declared.aarq.Aarq.{Aarq}
use Rattle.acse_ber.specs.declared.fault.AcseFault.TheVariants.{Memory}
use Rattle.acse_ber.proofs.Aarqs.{aarq_found, aarq_again}
use Rattle.acse_ber.proofs.aarq_reading.read_aarq.Goals as goal

pub returns-clause-found : goal.returns-clause-found
returns-clause-found c =
    gives_found (SpellsAarq c.args.bytes.now) Memory (λ (a : Aarq). a) c.read_whole.result
    (aarq_of c.args.bytes.now) c.read_whole.ensures (aarq_found c.args.bytes.now)

pub returns-clause-unique : goal.returns-clause-unique
returns-clause-unique c = λ a s.
    gives_only Memory (λ (r : Aarq). r) c.read_whole.result (aarq_of c.args.bytes.now) a
    c.read_whole.ensures (aarq_again c.args.bytes.now a s)
