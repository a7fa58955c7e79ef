use Rattle.std.proofs.Common.{◌≡◌, ◌-◌, List, length, take, drop, ap, ◌∙◌}
use Rattle.journal_files.proofs.RenewalLemmas as lemma
use Rattle.relay_events.specs.declared.event.Event.{Event}
use Rattle.journal_files.proofs.renewing.shorten_trace.Goals as goal

pub returns-in-Ok : goal.returns-in-Ok
returns-in-Ok c =
    let depth = c.args.depth in
    let earlier = c.args.trace.now in
    let events : c.as_slice-events.result.now ≡ earlier.events = c.as_slice-events.ensures in
    let count : c.saturating_sub.result ≡ length earlier.events - depth =
    c.saturating_sub.ensures ∙ ap (λ (es : List Event). length es - depth) events in
    let state = c.in_ok-opening.ensures in
    lemma.shorten_trace depth earlier
    (record { opening = c.in_ok-opening.opening; events = c.in-Ok.events })
    c.split_at.result.0.now state.fit state.range state.agrees
    (c.split_at.ensures.front ∙ (λ i. take (count i) (events i)))
    (c.in-Ok.ensures ∙ c.split_at.ensures.back ∙ (λ i. drop (count i) (events i)))
