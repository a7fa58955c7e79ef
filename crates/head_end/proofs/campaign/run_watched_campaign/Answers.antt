use Rattle.std.proofs.Common.{arith, rules, ◌≡◌, ◌∙◌, length}
use Rattle.head_end.specs.Campaigns.{turns_for}
use Rattle.head_end.proofs.CampaignLemmas.{written}
use Rattle.head_end.proofs.campaign.run_watched_campaign.Goals as goal

pub returns-clause-lines : goal.returns-clause-lines
returns-clause-lines g c = λ tells all.
    let long : c.in_ok-lines.lines.len ≡ length c.fill.new.lines = omega
    (arith, c.fill.ensures.len, c.as_mut_slice.ensures.len) in
    let whole : c.from_vec.result ≡ c.fill.new.lines =
    c.from_vec.ensures ∙ written c.in_ok-lines.lines.len c.fill.new.lines _ long in
    rw whole (rw c.as_slice-3.ensures.jobs at (c.fill.ensures.lines tells all))

pub returns-clause-tried : goal.returns-clause-tried
returns-clause-tried g c =
    let long : c.in_ok-lines.lines.len ≡ length c.fill.new.lines = omega
    (arith, c.fill.ensures.len, c.as_mut_slice.ensures.len) in
    let whole : c.from_vec.result ≡ c.fill.new.lines = c.from_vec.ensures
    ∙ written c.in_ok-lines.lines.len c.fill.new.lines _ long in
    let turns : c.in_ok-turns.turns ≡ turns_for
    (length c.args.jobs.now) c.args.workers = search rules in
    let workers : c.from-workers.result ≡ c.args.workers = search rules in
    rw whole (rw (c.as_slice-3.ensures.jobs, turns, workers) at c.fill.ensures.tried)

pub returns-clause-names : goal.returns-clause-names
returns-clause-names g c =
    let long : c.in_ok-lines.lines.len ≡ length c.fill.new.lines = omega
    (arith, c.fill.ensures.len, c.as_mut_slice.ensures.len) in
    let whole : c.from_vec.result ≡ c.fill.new.lines = c.from_vec.ensures
    ∙ written c.in_ok-lines.lines.len c.fill.new.lines _ long in
    rw whole (rw c.as_slice-3.ensures.jobs at c.fill.ensures.names)
