use Rattle.std.proofs.Common.{◌-◌, length, arith, refl}
use Rattle.limiter_core.specs.State.{limits_of}
use Rattle.relay_core.proofs.SampleLemmas.{kind_at, skipped_values, last_of_some}
use Rattle.relay_core.proofs.relay.RelayCore.skip_values.Goals as goal

pub skip_run-requires-clause-last : goal.skip_run-requires-clause-last
skip_run-requires-clause-last c = λ some.
    kind_at c.args.kind (limits_of c.args.self.now.import).threshold c.args.values.now
    (length c.args.values.now - 1) 0 (omega (arith, some)) c.requires.kind

pub returns : goal.returns
returns c =
    let values = c.args.values.now in
    let run = c.skip_run.ensures in
    skipped_values c.args.self.now c.skip_run.new.self values _ _ c.requires.non_empty run.settings
    run.moment
    (last_of_some (length values) _ _ _ c.requires.non_empty run.last)
    (λ rows keeps. run.rows rows values keeps c.requires.kind refl)
    (λ rows keeps. run.quiet rows values keeps c.requires.kind refl)
