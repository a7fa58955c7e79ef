-- How a meter ends: the turn that prevents it.
use Rattle.std.specs.Prelude.{◌<◌, ◌≤◌, length}
use Rattle.relay_core.specs.declared.opening.Opening.{Opening}
use Rattle.relay_events.specs.declared.event.Event.{Event}
use Rattle.relay_events.specs.declared.reply.Reply.{Reply}
use Rattle.shared_meter.specs.Calls.{IsLegal}
use Rattle.turn_lock.specs.Calls.{Watches}
use Rattle.turn_lock.specs.declared.known.Known.{Known}

-- whether a turn had not ended: the port read how many had ended, at least one for each call that
-- it had seen before, and afterwards that more had been drawn
pub record IsStillOut {E R O : Type 0} (before after : Known E R O) : Type 0 where
  pub ended : length before.seen ≤ after.served
  pub drawn : after.served < after.drawn

-- whether a port that knew this before found, when its lock was to be closed, that a turn had not
-- ended
pub record FindsTurn (before : Known Event Reply Opening) : Type 0 where
  pub after : Known Event Reply Opening
  pub out : IsStillOut before after
  pub watches : Watches IsLegal before after
