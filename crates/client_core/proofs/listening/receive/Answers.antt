use Rattle.client_core.proofs.Moving.{fewer, moves_frame, moves_twice, hears_part, hears_version, hears_long}
use Rattle.client_core.proofs.listening.receive.Goals as goal

pub frames-smaller : goal.frames-smaller
frames-smaller c = fewer c.frames.deframer c.in-Ok-Some.frame c.take.new.self
    (rw c.in-Ok-Some.field-0-is at c.in-Ok-Some.ensures.taken)

pub frames-preserved : goal.frames-preserved
frames-preserved c =
    let goes_on = rw c.in-Ok-Some.field-0-is at c.in-Ok-Some.ensures.keeps_frames in
    rw c.progress_after_frame-progress.ensures
    (moves_twice c.args.verb c.args.progress c.args.deframer.now c.frames.progress c.frames.deframer
    _ c.take.new.self c.frames.invariant
    (moves_frame c.args.verb c.frames.progress c.frames.deframer c.in-Ok-Some.frame c.take.new.self
    goes_on))

pub returns-in-Ok-None : goal.returns-in-Ok-None
returns-in-Ok-None c =
    let taken = rw c.in-Ok-None.field-0-is at c.in-Ok-None.ensures.taken in
    rw taken.1 (hears_part c.args.verb c.args.progress c.args.deframer.now c.frames.progress
    c.frames.deframer c.frames.invariant taken.0)

pub returns-in-Err-Version : goal.returns-in-Err-Version
returns-in-Err-Version c =
    rw c.or_unknown.ensures
    (hears_version c.args.verb c.args.progress c.args.deframer.now c.frames.progress
    c.frames.deframer c.take.new.self c.frames.invariant
    (rw c.in-Err-Version.field-0-is at c.in-Err-Version.ensures.stops))

pub returns-in-Err-TooLong : goal.returns-in-Err-TooLong
returns-in-Err-TooLong c =
    rw c.or_unknown-in-Err-TooLong.ensures
    (hears_long c.args.verb c.args.progress c.args.deframer.now c.frames.progress c.frames.deframer
    c.take.new.self c.frames.invariant
    (rw c.in-Err-TooLong.field-0-is at c.in-Err-TooLong.ensures.stops))
