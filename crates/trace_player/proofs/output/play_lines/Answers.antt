use Rattle.std.proofs.Common.{subst}
use Rattle.std.specs.Prelude.{IfErr, IfOk}
use Rattle.wire_bytes.specs.Outcome.{Fails}
use Rattle.trace_words.specs.declared.fault.TraceFault.TheVariants as trace_fault
use Rattle.trace_player.specs.Playing.{PlaysTrace}
use Rattle.trace_player.proofs.Held.{held_behind, count_fails}
use Rattle.trace_player.proofs.output.play_lines.Goals as goal
use Rattle.trace_player.proofs.output.play_lines.Goals.{in-Ok, in-Err}

pub play_held-played-requires-clause-within : goal.play_held-played-requires-clause-within
play_held-played-requires-clause-within c =
    let held = held_behind c.args.text.items c.as_slice.result.now c.rest.result.now
    c.in_ok-version.version c.in_ok-version.opening c.in-Ok.counted c.number-number.result
    c.new-lines.result
    c.read_opening.new.lines c.read_stated_count-stated.new.lines
    c.requires c.new-lines.ensures c.as_slice.ensures.value c.in_ok-version.ensures.reads
    c.in-Ok.ensures.reads c.number-number.ensures c.rest.ensures in
    held.within

pub play_held-played-requires-clause-counted : goal.play_held-played-requires-clause-counted
play_held-played-requires-clause-counted c =
    let held = held_behind c.args.text.items c.as_slice.result.now c.rest.result.now
    c.in_ok-version.version c.in_ok-version.opening c.in-Ok.counted c.number-number.result
    c.new-lines.result
    c.read_opening.new.lines c.read_stated_count-stated.new.lines
    c.requires c.new-lines.ensures c.as_slice.ensures.value c.in_ok-version.ensures.reads
    c.in-Ok.ensures.reads c.number-number.ensures c.rest.ensures in
    held.few

pub returns-clause-ok : goal.returns-clause-ok
returns-clause-ok c =
    elim c.match-stated.branch [
      | in-Ok w ↦
          let held = held_behind c.args.text.items c.as_slice.result.now c.rest.result.now
          c.in_ok-version.version c.in_ok-version.opening w.in-Ok.counted c.number-number.result
          c.new-lines.result
          c.read_opening.new.lines c.read_stated_count-stated.new.lines
          c.requires c.new-lines.ensures c.as_slice.ensures.value c.in_ok-version.ensures.reads
          w.in-Ok.ensures.reads c.number-number.ensures c.rest.ensures in
          rw w.played-is (subst (λ given. IfOk w.play_held-played.result
          (λ output. PlaysTrace given output.lines.items output.count)) held.is
          w.play_held-played.ensures.ok)
      | in-Err w ↦ rw w.played-is tt
    ]

pub returns-clause-err : goal.returns-clause-err
returns-clause-err c =
    elim c.match-stated.branch [
      | in-Ok w ↦
          let held = held_behind c.args.text.items c.as_slice.result.now c.rest.result.now
          c.in_ok-version.version c.in_ok-version.opening w.in-Ok.counted c.number-number.result
          c.new-lines.result
          c.read_opening.new.lines c.read_stated_count-stated.new.lines
          c.requires c.new-lines.ensures c.as_slice.ensures.value c.in_ok-version.ensures.reads
          w.in-Ok.ensures.reads c.number-number.ensures c.rest.ensures in
          rw w.played-is (subst (λ given. IfErr w.play_held-played.result
          (λ fault. Fails trace_fault.Memory fault given)) held.is
          w.play_held-played.ensures.err)
      | in-Err w ↦
          rw w.played-is (count_fails c.args.text.items c.as_slice.result.now
          c.in_ok-version.version c.in_ok-version.opening c.new-lines.result
          c.read_opening.new.lines w.in-Err.fault c.new-lines.ensures
          c.as_slice.ensures.value c.in_ok-version.ensures.reads w.in-Err.ensures.reads)
    ]
