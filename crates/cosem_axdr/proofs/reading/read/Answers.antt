use Rattle.wire_bytes.proofs.OutcomeLemmas.{gives_found}
use Rattle.cosem_axdr.specs.Reading.{first_data}
use Rattle.cosem_axdr.specs.declared.fault.DataFault.TheVariants.{Memory}
use Rattle.cosem_axdr.proofs.Values.{IsFound, data_found, read_only}
use Rattle.cosem_axdr.proofs.reading.read.Goals as goal

pub returns-clause-found : goal.returns-clause-found
returns-clause-found c =
    gives_found (IsFound c.args.bytes.now) Memory (λ read. read) c.read_first.result
    (first_data c.args.bytes.now) c.read_first.ensures (data_found c.args.bytes.now)

pub returns-clause-unique : goal.returns-clause-unique
returns-clause-unique c = read_only c.args.bytes.now c.read_first.result c.read_first.ensures
