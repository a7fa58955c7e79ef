use Rattle.std.proofs.Common.{arith, ◌≡◌, ◌∙◌, sym, Some, length, map, ap}
use Rattle.std.proofs.lemmas.List.{length-map}
use Rattle.ledger_campaigns.proofs.RunLemmas.{written, told_all, seen_kept, run_by, run_safe}
use Rattle.ledger_campaigns.proofs.RunLemmas.{locks_kept, run_stored, taken_run}
use Rattle.ledger_campaigns.proofs.run.run_ledgered_campaign.Goals as goal

pub returns-clause-lines : goal.returns-clause-lines
returns-clause-lines g c =
    let long : c.in_ok-lines.lines.len ≡ length c.run_places.new.lines = omega
    (arith, c.run_places.ensures.len, c.as_mut_slice-2.ensures.len) in
    let whole : c.from_vec.result ≡ c.run_places.new.lines =
    c.from_vec.ensures ∙ written c.in_ok-lines.lines.len c.run_places.new.lines _ long in
    let found : c.as_slice-3.result.now ≡ c.args.ledger.entries =
    c.as_slice-3.ensures.value ∙ (c.in_ok-found.ensures.items ∙ c.entries.ensures) in
    rw whole (rw found at (c.run_places.ensures.lines (g.C.Connector.tells c.args.connector.now)
    (rw c.as_mut_slice.ensures.value (told_all c.in_ok-places.places.items
    (λ p. p.attempt.source.value) c.args.connector.now g.C.Connector.tells
    c.in_ok-places.ensures.source))))

pub returns-clause-run : goal.returns-clause-run
returns-clause-run g c =
    let long : c.in_ok-lines.lines.len ≡ length c.run_places.new.lines = omega
    (arith, c.run_places.ensures.len, c.as_mut_slice-2.ensures.len) in
    let whole : c.from_vec.result ≡ c.run_places.new.lines =
    c.from_vec.ensures ∙ written c.in_ok-lines.lines.len c.run_places.new.lines _ long in
    let found : c.as_slice-3.result.now ≡ c.args.ledger.entries =
    c.as_slice-3.ensures.value ∙ (c.in_ok-found.ensures.items ∙ c.entries.ensures) in
    let count : c.in_ok-places.places.len ≡ length c.run_places.new.places = omega
    (arith, c.run_places.auto.places, c.as_mut_slice.ensures.len) in
    let met : c.as_mut_slice-3.result.now ≡ c.run_places.new.places =
    c.as_mut_slice-3.ensures.value ∙ written c.in_ok-places.places.len c.run_places.new.places _
    count in
    let same : c.meet_all.new.places ≡ c.run_places.new.places =
    c.meet_all.ensures.unchanged ∙ met in
    let origin : c.meet_all.new.port.known.origin ≡ Some c.args.ledger =
    c.meet_all.ensures.origin ∙ (c.in_ok-places.ensures.origin
    ∙ ap (λ k. k.origin) c.in_ok-shared.ensures.known) in
    taken_run g.B.Book.is_honest g.B.Book.is_marked g.B.Book.keeps c.in_ok-places.places.len
    c.meet_all.new.places _ (λ p. p.attempt.stage) (λ p. p.port) c.args.plan.now.jobs.now
    c.args.plan.now.passwords.now c.args.ledger c.close-ledger.result c.from_vec.result
    (omega (arith, count, ap length same))
    (rw (whole, same) (run_by g.B.Book.is_honest g.B.Book.is_marked g.B.Book.keeps
    c.args.plan.now.jobs.now c.args.plan.now.passwords.now c.args.ledger c.close-ledger.result
    c.run_places.new.lines (map (λ p. p.attempt.stage) c.run_places.new.places)
    (map (λ p. p.port) c.run_places.new.places) c.meet_all.new.port.known
    (length-map c.run_places.new.places (λ p. p.port)
    ∙ omega (arith, count, c.in_ok-places.ensures.count, c.len.ensures.count))
    origin (rw found at c.run_places.ensures.uses)
    (λ port i below. seen_kept c.run_places.new.places (λ p. p.port)
    c.meet_all.new.port.known.seen (rw met at c.meet_all.ensures.seen) port i
    (omega (arith, count, below, c.in_ok-places.ensures.count, c.len.ensures.count)))
    c.history_is_legal.ensures c.close-ledger.ensures))

pub returns-clause-stored : goal.returns-clause-stored
returns-clause-stored g c =
    run_stored g.B.Book.is_honest g.B.Book.is_marked g.B.Book.keeps c.args.plan.now.jobs.now
    c.args.plan.now.passwords.now c.args.ledger c.close-ledger.result c.from_vec.result _ _
    c.requires (returns-clause-run g c)

pub returns-clause-safe : goal.returns-clause-safe
returns-clause-safe g c =
    run_safe g.B.Book.is_honest g.B.Book.is_marked g.B.Book.keeps g.B.Book.may_leave
    c.grants_add_up.ensures.runs c.args.plan.now.jobs.now c.args.plan.now.passwords.now
    c.args.ledger c.close-ledger.result c.from_vec.result _ _
    (returns-clause-lines g c).count (returns-clause-run g c)

pub meet_all-requires-after_bounds : goal.meet_all-requires-after_bounds
meet_all-requires-after_bounds g c κs within =
    let count : c.in_ok-places.places.len ≡ length c.run_places.new.places = omega
    (arith, c.run_places.auto.places, c.as_mut_slice.ensures.len) in
    let met : c.as_mut_slice-3.result.now ≡ c.run_places.new.places =
    c.as_mut_slice-3.ensures.value ∙ written c.in_ok-places.places.len c.run_places.new.places _
    count in
    rw met (locks_kept c.as_mut_slice.result.now c.run_places.new.places (λ p. p.port)
    c.ledgered_places_for.new.port (omega (arith, c.run_places.auto.places))
    c.run_places.ensures.ports
    (rw c.as_mut_slice.ensures.value (λ i place below. c.in_ok-places.ensures.ports i place below
    ∙ sym c.in_ok-places.ensures.lock)))
