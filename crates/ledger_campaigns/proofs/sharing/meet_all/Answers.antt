use Rattle.std.proofs.Common.{arith, ◌∙◌}
use Rattle.std.proofs.lemmas.List.{set-get_or}
use Rattle.ledger_campaigns.proofs.CampaignLemmas.{seen_here, seen_more}
use Rattle.ledger_campaigns.proofs.sharing.meet_all.Goals as goal

pub loop-i-preserved : goal.loop-i-preserved
loop-i-preserved g c =
    let meets = c.meet.ensures.meets in (
      rw c.tell-note.ensures.unchanged
          (set-get_or c.loop-i.places c.loop-i.i c.index-places-i.result
          ∙ c.loop-i.invariant.0),
      c.meet.ensures.lock.0 ∙ c.loop-i.invariant.1,
      meets.watches.sees.origin ∙ c.loop-i.invariant.2,
      seen_more c.args.places.now (λ place. place.port.known.seen) c.loop-i.port.known.seen
          c.meet.new.self.known.seen c.loop-i.i meets.watches.sees.seen c.loop-i.invariant.3
          (λ place. seen_here c.loop-i.places c.args.places.now (λ p. p.port.known.seen)
          c.tell-note.result.seen c.meet.new.self.known.seen c.loop-i.i c.index-places-i.result
          place c.loop-i.invariant.0 (omega (arith, c.loop-i-test.true)) c.tell-note.ensures.note.2
          meets.note_seen),
    )

pub returns-clause-seen : goal.returns-clause-seen
returns-clause-seen g c = λ i place below. c.loop-i.invariant.3 i place
    (omega (arith, c.loop-i-test.false))
