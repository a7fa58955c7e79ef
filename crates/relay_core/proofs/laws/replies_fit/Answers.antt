use Rattle.relay_core.proofs.Replies.{reply_fits}
use Rattle.relay_core.proofs.laws.replies_fit.Goals as goal

pub returns : goal.returns
returns c = reply_fits
