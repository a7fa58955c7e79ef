use Rattle.std.proofs.Common.{refl, ap, Some}
use Rattle.client_core.proofs.Clients.{starts}
use Rattle.client_core.proofs.client.Client.start.Goals as goal

pub returns : goal.returns
returns c =
    starts c.args.job.now.verb c.args.password.now _ refl c.new_progress.ensures c.new.ensures
    refl (
      ap Some c.in_ok-aarq.ensures,
      ap Some c.in_ok-request.ensures.text,
      ap Some c.in_ok-release.ensures,
    )
