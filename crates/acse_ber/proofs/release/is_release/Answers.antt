use Rattle.acse_ber.proofs.OneValue.{is_release_spelled}
use Rattle.acse_ber.proofs.release.is_release.Goals as goal

pub returns-clause-spelled : goal.returns-clause-spelled
returns-clause-spelled c = is_release_spelled c.args.bytes.now c.is_whole_release.result
    c.is_whole_release.ensures
