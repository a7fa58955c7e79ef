use Rattle.std.proofs.Common.{◌≤◌, subst, length}
use Rattle.durable_lines.specs.CrashModel.{Follows, TornCut}
use Rattle.durable_lines.specs.RawModel.{raw_bytes, LeftOfRaw}
use Rattle.durable_lines.specs.StoredFile.{StoredState}
use Rattle.durable_lines.proofs.StateLemmas.{same_cuts}
use Rattle.durable_lines.proofs.stored_file.StoredFile.cut_to.Goals as goal

pub returns-then-self-clause-crash : goal.returns-then-self-clause-crash
returns-then-self-clause-crash g c le = same_cuts c.args.len _

pub returns-clause-crash : goal.returns-clause-crash
returns-clause-crash g c =
    let model = g.R.RawFile.model in
    subst (λ (f : StoredState _). (model.acts → c.args.len ≤ length (raw_bytes model f.raw))
    → Follows (TornCut c.args.len) (LeftOfRaw model f.raw)
    (LeftOfRaw model c.cut_to-call.new.raw)) c.self.view_is c.cut_to-call.ensures.crash
