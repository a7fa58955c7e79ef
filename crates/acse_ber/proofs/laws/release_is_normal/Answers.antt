use Rattle.acse_ber.proofs.Releases.{request_spelled}
use Rattle.acse_ber.proofs.laws.release_is_normal.Goals as goal

pub returns-clause-spelled : goal.returns-clause-spelled
returns-clause-spelled c = request_spelled
