use Rattle.std.proofs.Common.{None, Some, sym, subst, rules}
use Rattle.std.proofs.lemmas.Grind.{common_steps}
use Rattle.relay_recorder.specs.Recording.{Recording, recording}
use Rattle.relay_recorder.specs.Histories.{Continues}
use Rattle.relay_recorder.proofs.HistoryLemmas.{applied, goes_on}
use Rattle.relay_recorder.proofs.recorder.Recorder.apply.Goals as goal
use Rattle.relay_recorder.proofs.recorder.Recorder.apply.Goals.{in-Some, in_default}

pub invariant_of-self-in-Some : goal.invariant_of-self-in-Some
invariant_of-self-in-Some c =
    let inside = c.self.inside in
    let reply = c.in_ok-reply.reply in
    let told = c.in_ok-reply.ensures in
    let old = recording inside.core inside.opening inside.kept in
    let new =
    recording c.step_with_parts.new.self c.advance.new.core c.push_back.new.self in (
      Prim.search (rules, common_steps),
      goes_on old new c.args.event reply
          (applied inside.core inside.opening c.step_with_parts.new.self c.advance.new.core
          inside.kept c.push_back.new.self c.args.event reply (Some c.in-Some.oldest)
          told.world told.reply c.self.invariant.0.within c.push_back.ensures.items
          c.in-Some.ensures.value c.advance.ensures)
          c.self.invariant.1,
    )

pub invariant_of-self-in_default : goal.invariant_of-self-in_default
invariant_of-self-in_default c =
    let inside = c.self.inside in
    let reply = c.in_ok-reply.reply in
    let told = c.in_ok-reply.ensures in
    let old = recording inside.core inside.opening inside.kept in
    let new = recording c.step_with_parts.new.self inside.opening c.push_back.new.self in (
      Prim.search (rules, common_steps),
      goes_on old new c.args.event reply
          (applied inside.core inside.opening c.step_with_parts.new.self inside.opening
          inside.kept c.push_back.new.self c.args.event reply None
          told.world told.reply c.self.invariant.0.within c.push_back.ensures.items
          c.in_default.ensures.value (λ w stands. stands))
          c.self.invariant.1,
    )

pub returns-clause-history : goal.returns-clause-history
returns-clause-history c =
    let inside = c.self.inside in
    let reply = c.in_ok-reply.reply in
    let told = c.in_ok-reply.ensures in
    let next = c.step_with_parts.new.self in
    let ring = c.push_back.new.self in
    subst (λ (r : Recording). Continues r c.match-push_back.self c.args.event reply) c.self.view_is
    (elim c.match-push_back.branch [
      | in-Some w ↦ subst (λ (r : Recording).
          Continues (recording inside.core inside.opening inside.kept) r c.args.event reply)
          (sym w.self-is)
          (applied inside.core inside.opening next w.advance.new.core inside.kept ring c.args.event
          reply (Some w.in-Some.oldest) told.world told.reply c.self.invariant.0.within
          c.push_back.ensures.items w.in-Some.ensures.value w.advance.ensures)
      | in_default w ↦ subst (λ (r : Recording).
          Continues (recording inside.core inside.opening inside.kept) r c.args.event reply)
          (sym w.self-is)
          (applied inside.core inside.opening next inside.opening inside.kept ring c.args.event
          reply None told.world told.reply c.self.invariant.0.within
          c.push_back.ensures.items w.in_default.ensures.value (λ w stands. stands))
    ])
