use Rattle.std.proofs.Common.{ap, ◌∙◌}
use Rattle.cosem_datetime.specs.Reading.{date_of}
use Rattle.cosem_datetime.proofs.Spelled.{date_again}
use Rattle.cosem_datetime.proofs.date.DatePattern.bytes.Goals as goal

pub returns-clause-read_back : goal.returns-clause-read_back
returns-clause-read_back c = ap date_of c.spelling.ensures.bytes
    ∙ date_again c.args.self.now c.spelling.ensures.within
