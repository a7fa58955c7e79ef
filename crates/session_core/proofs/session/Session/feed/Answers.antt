use Rattle.session_core.proofs.Tasks.{not_over, feeds_any, feeds_after_end, feeds_after_over, feeds_behind_version, feeds_behind_length, bad_version, too_long}
use Rattle.session_core.proofs.session.Session.feed.Goals as goal

pub returns-then-self-clause-ok : goal.returns-then-self-clause-ok
returns-then-self-clause-ok c = feeds_after_end c.args.self.now c.args.bytes.now c.if-self.true

pub returns-in-Ok-clause-ok : goal.returns-in-Ok-clause-ok
returns-in-Ok-clause-ok c = feeds_any c.args.self.now c.args.bytes.now c.feed.new.self
    c.if-self.false c.in-Ok.ensures.ok

pub returns-in-Err-Version-clause-ok : goal.returns-in-Err-Version-clause-ok
returns-in-Err-Version-clause-ok c =
    feeds_behind_version c.args.self.now c.args.bytes.now c.feed.new.self c.if-self.false
    c.in-Err-Version.ensures.err (bad_version _ _ c.in-Err-Version.field-0-is
    c.in-Err-Version.ensures.stops)

pub returns-in-Err-TooLong-clause-ok : goal.returns-in-Err-TooLong-clause-ok
returns-in-Err-TooLong-clause-ok c =
    feeds_behind_length c.args.self.now c.args.bytes.now c.feed.new.self c.if-self.false
    c.in-Err-TooLong.ensures.err (too_long _ _ c.in-Err-TooLong.field-0-is
    c.in-Err-TooLong.ensures.stops)

pub returns-in-Over-clause-ok : goal.returns-in-Over-clause-ok
returns-in-Over-clause-ok c =
    feeds_after_over c.args.self.now c.args.bytes.now _ c.in-Over.is

pub returns-in-Ok-clause-over : goal.returns-in-Ok-clause-over
returns-in-Ok-clause-over c = not_over c.args.self.now _ c.in_default.not-Over

pub returns-in-Err-Memory-clause-over : goal.returns-in-Err-Memory-clause-over
returns-in-Err-Memory-clause-over c = not_over c.args.self.now _ c.in_default.not-Over
