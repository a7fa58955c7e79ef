use Rattle.std.proofs.Common.{OnOk, subst}
use Rattle.durable_lines.specs.CrashModel.{Narrows, HasOneOutcome}
use Rattle.durable_lines.specs.RawModel.{raw_bytes, LeftOfRaw}
use Rattle.durable_lines.specs.StoredFile.{StoredState}
use Rattle.durable_lines.proofs.stored_file.StoredFileDurableFile.sync.Goals as goal

pub returns-clause-crash : goal.returns-clause-crash
returns-clause-crash g c =
    let model = g.R.RawFile.model in
    subst (λ (f : StoredState _). Narrows (LeftOfRaw model f.raw)
    (LeftOfRaw model c.sync_bytes-call.new.raw)) c.self.view_is c.sync_bytes-call.ensures.crash

pub returns-clause-durable : goal.returns-clause-durable
returns-clause-durable g c =
    let model = g.R.RawFile.model in
    subst (λ (f : StoredState _). OnOk c.record_failure.result (HasOneOutcome
    (raw_bytes model f.raw) (LeftOfRaw model c.sync_bytes-call.new.raw))) c.self.view_is
    (rw c.record_failure.ensures.call c.sync_bytes-call.ensures.durable)
