use Rattle.std.proofs.Common.{ap, ◌∙◌}
use Rattle.cosem_datetime.specs.Reading.{time_of}
use Rattle.cosem_datetime.proofs.Spelled.{time_again}
use Rattle.cosem_datetime.proofs.time.TimePattern.bytes.Goals as goal

pub returns-clause-read_back : goal.returns-clause-read_back
returns-clause-read_back c = ap time_of c.spelling.ensures.bytes
    ∙ time_again c.args.self.now c.spelling.ensures.within
