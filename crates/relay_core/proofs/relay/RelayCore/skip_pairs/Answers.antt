use Rattle.std.proofs.Common.{◌-◌, ℕ, length, get_or, arith, refl, sym, ap, ◌∙◌}
use Rattle.limiter_core.specs.State.{limits_of}
use Rattle.relay_core.proofs.SampleLemmas.{kind_at, skipped_pairs, last_of_some}
use Rattle.relay_core.proofs.relay.RelayCore.skip_pairs.Goals as goal

pub skip_run-requires-clause-last : goal.skip_run-requires-clause-last
skip_run-requires-clause-last c = λ some.
    kind_at c.args.kind (limits_of c.args.self.now.import).threshold c.args.values.now
    (length c.args.values.now - 1) 0 (omega (arith, some)) c.requires.kind

pub skip_run-requires-2-clause-last : goal.skip_run-requires-2-clause-last
skip_run-requires-2-clause-last c = λ some.
    kind_at c.args.other_kind (limits_of c.args.self.now.export).threshold c.args.others.now
    (length c.args.values.now - 1) 0
    (omega (arith, some, c.requires.same_length)) c.requires.other_kind

pub returns : goal.returns
returns c =
    let values = c.args.values.now in
    let others = c.args.others.now in
    let run = c.skip_run.ensures in
    let other_run = c.skip_run-2.ensures in
    let at : ℕ → ℕ = λ n. get_or others (n - 1) 0 in
    skipped_pairs c.args.self.now c.skip_run.new.self c.skip_run-2.new.self values others _ _
    c.requires.non_empty c.requires.same_length
    run.settings run.moment (last_of_some (length values) _ _ _ c.requires.non_empty run.last)
    other_run.settings other_run.moment (last_of_some (length values) _ _ _ c.requires.non_empty
    other_run.last ∙ ap at (sym c.requires.same_length))
    (λ rows keeps. run.rows rows values keeps c.requires.kind refl)
    (λ rows keeps. other_run.rows rows others keeps c.requires.other_kind c.requires.same_length)
    (λ rows keeps. run.quiet rows values keeps c.requires.kind refl)
    (λ rows keeps. other_run.quiet rows others keeps c.requires.other_kind c.requires.same_length)
