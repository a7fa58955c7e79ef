use Rattle.std.proofs.Common.{◌≡◌, ◌∙◌, ℕ, Bool, true, false, Option, inr, subst, sym}
use Rattle.std.specs.Prelude.{IfSome}
use Rattle.meter_server.proofs.JournalLemmas.{reply_seen}
use Rattle.meter_server.proofs.PortLemmas.{called_fits, is_same}
use Rattle.shared_meter.proofs.SettlingLemmas.{found_count, known_later}
use Rattle.shared_meter.specs.Settling.{AreDurable}
use Rattle.turn_lock.proofs.Watching.{watches_refl}
use Rattle.meter_server.proofs.journaled.ask.Goals.{else-not-is_read-via-then-not-is_read+else-has_failed, else-not-is_read-via-else-not-is_read}
use Rattle.meter_server.proofs.journaled.ask.Goals as goal

pub settle-requires-clause-known : goal.settle-requires-clause-known
settle-requires-clause-known g c =
    let before = c.args.port.now.known in
    let after = c.call_and_inspect.new.self.known in
    let D = g.D.Durability in
    known_later D.is_durable before.seen after.seen c.take-known.result
    (reply_seen before c.args.event c.in_ok-reply.reply after c.in_ok-reply.ensures.ok)
    (subst (λ (known : Option ℕ). IfSome known (AreDurable D.is_durable before.seen))
    (sym c.take-known.ensures.value) c.requires.settled)

-- an event is a read or not, and never both
never_both : (read : Bool) → read ≡ false → read ≡ true → ⊥
never_both read is_not is = absurd cc

pub returns-in_default : goal.returns-in_default
returns-in_default g c =
    let between = c.call_and_inspect.new.self in
    record {
      step = inr (
        c.in_ok-reply.reply,
        record {
          between = between;
          call = record {
            lock = c.in_ok-reply.ensures.lock.0;
            bound = c.in_ok-reply.ensures.lock.1;
            calls = c.in_ok-reply.ensures.ok;
          };
          same = is_same between;
          watches = watches_refl between.known c.in_ok-reply.ensures.ok.lawful;
        },
        λ changing. elim c.else-not-is_read.branch [
          | else-not-is_read-via-then-not-is_read+else-has_failed w ↦
              w.has_failed.ensures.running w.if-has_failed.false
          | else-not-is_read-via-else-not-is_read w ↦
              absurd (never_both c.is_read.result (c.is_read.ensures ∙ changing)
              w.if-not-is_read.false)
        ],
      );
      fits = tt;
      settled = subst (λ (known : Option ℕ). IfSome known
          (AreDurable g.D.Durability.is_durable between.known.seen))
          (sym c.take-known.ensures.after) tt;
    }

pub returns-then-settle-clause-step : goal.returns-then-settle-clause-step
returns-then-settle-clause-step g c =
    let between = c.call_and_inspect.new.self in (
      record {
        between = between;
        call = record {
          lock = c.in_ok-reply.ensures.lock.0;
          bound = c.in_ok-reply.ensures.lock.1;
          calls = c.in_ok-reply.ensures.ok;
        };
        same = c.settle.ensures.same;
        watches = c.settle.ensures.watches;
      },
      subst (λ (lines : ℕ). AreDurable g.D.Durability.is_durable c.settle.new.port.known.seen lines)
          (found_count c.in_ok-reply.ensures.finds.0 between.known.seen c.in_ok-reply.found
          c.in-Count.lines c.in-Count.is c.in_ok-reply.ensures.finds.2)
          (c.settle.ensures.durable c.if-settle.true),
      λ changing. elim c.else-not-is_read.branch [
        | else-not-is_read-via-then-not-is_read+else-has_failed w ↦
            w.has_failed.ensures.running w.if-has_failed.false
        | else-not-is_read-via-else-not-is_read w ↦
            absurd (never_both c.is_read.result (c.is_read.ensures ∙ changing)
            w.if-not-is_read.false)
      ],
    )

pub returns-then-settle-clause-fits : goal.returns-then-settle-clause-fits
returns-then-settle-clause-fits g c =
    called_fits c.args.port.now.known c.args.event c.in_ok-reply.reply
    c.call_and_inspect.new.self.known c.in_ok-reply.ensures.ok
