use Rattle.std.proofs.Common.{◌∙◌}
use Rattle.std.proofs.lemmas.Bool.{false≢true}
use Rattle.port_threads.specs.Sessions.{port_of, terms_of}
use Rattle.port_threads.proofs.Counting.{count_on, counted_on, counted_still, few_on, reasons_still}
use Rattle.port_threads.proofs.PortsKept.{keeps_trans, keeps_by}
use Rattle.port_threads.proofs.serving.accept_all.Goals as goal

pub returns-in_default-clause-keeps_ports : goal.returns-in_default-clause-keeps_ports
returns-in_default-clause-keeps_ports g c =
    let conn = g.L.Connection.PortConnection in
    keeps_trans port_of (terms_of conn.terms) conn.hands_back _ _ _ _ _ _ _
    c.connections.invariant.keeps_ports (keeps_by port_of (terms_of conn.terms) conn.hands_back _ _
    _
    _ _ _ c.connections.invariant.terms c.take_next.ensures.keeps_ports)

pub connections-preserved : goal.connections-preserved
connections-preserved g c =
    record {
      can_next = tt;
      is_finite = tt;
      keeps_ports = let conn = g.L.Connection.PortConnection in
          keeps_trans port_of (terms_of conn.terms) conn.hands_back _ _ _ _ _ _ _
          c.connections.invariant.keeps_ports (keeps_by port_of
          (terms_of conn.terms) conn.hands_back
          _ _ _ _ _ _ c.connections.invariant.terms c.take_next.ensures.keeps_ports);
      terms = c.take_next.ensures.terms ∙ c.connections.invariant.terms;
      served = c.count.ensures.served _ _ _ c.connections.invariant.served
          c.in-Some-take_next.ensures.splits;
      going = c.count.ensures.failed ∙ c.connections.invariant.going;
      borrowed = c.take_next.ensures.borrowed ∙ c.connections.invariant.borrowed;
      counted = counted_on _ _ _ _ _ c.connections.invariant.counted
          c.in-Some-take_next.ensures.accepted c.count.ensures.counted c.count.ensures.rises;
      few = few_on _ _ _ _ _ _ _ _ c.connections.invariant.few c.in-Some-take_next.ensures.crowded
          c.in-Some-take_next.ensures.count c.in-Some-take_next.ensures.setup_failures
          c.count.ensures.added;
      within = count_on c.args.limit _ _ c.ranges.limit.fits
          (λ reached. false≢true (c.if-has_reached.ensures.1 reached)) c.count.ensures.counted;
    }

pub returns-in_default-clause-counted : goal.returns-in_default-clause-counted
returns-in_default-clause-counted g c =
    counted_still _ _ _ _ c.connections.invariant.counted c.in_default.ensures.accepted_none

pub take_next-requires-clause-fits : goal.take_next-requires-clause-fits
take_next-requires-clause-fits g c κs within = λ p same.
    c.requires.fits p (same ∙ c.connections.invariant.keeps_ports.goes.lock)

pub returns-in_default-clause-reasons : goal.returns-in_default-clause-reasons
returns-in_default-clause-reasons g c = reasons_still _ _ _ _ _ _ _ c.connections.invariant.few
    c.in_default.ensures.setup_failures_none
