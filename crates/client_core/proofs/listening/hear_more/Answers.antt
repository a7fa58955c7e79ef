use Rattle.client_core.proofs.Moving.{skips_version, skips_long}
use Rattle.client_core.proofs.listening.hear_more.Goals as goal

pub returns-in-Err-Version : goal.returns-in-Err-Version
returns-in-Err-Version c =
    rw c.or_unknown.ensures
    (skips_version c.args.verb c.args.progress c.args.deframer.now c.args.bytes.now c.feed.new.self
    (rw c.in-Err-Version.field-0-is at c.in-Err-Version.ensures.stops))

pub returns-in-Err-TooLong : goal.returns-in-Err-TooLong
returns-in-Err-TooLong c =
    rw c.or_unknown-in-Err-TooLong.ensures
    (skips_long c.args.verb c.args.progress c.args.deframer.now c.args.bytes.now c.feed.new.self
    (rw c.in-Err-TooLong.field-0-is at c.in-Err-TooLong.ensures.stops))
