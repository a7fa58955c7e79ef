use Rattle.std.proofs.Common.{subst}
use Rattle.durable_lines.specs.CrashModel.{Follows, TornAppend}
use Rattle.durable_lines.specs.RawModel.{LeftOfRaw}
use Rattle.durable_lines.specs.StoredFile.{StoredState}
use Rattle.durable_lines.proofs.RawLemmas.{append_leaves}
use Rattle.durable_lines.proofs.stored_file.StoredFileDurableFile.append.Goals as goal

pub returns-clause-crash : goal.returns-clause-crash
returns-clause-crash g c =
    let model = g.R.RawFile.model in
    subst (λ (f : StoredState _). Follows (TornAppend c.args.bytes.now) (LeftOfRaw model f.raw)
    (LeftOfRaw model c.append_within-call.new.raw)) c.self.view_is
    (append_leaves _ c.args.bytes.now _ _ c.append_within-call.ensures.front)
