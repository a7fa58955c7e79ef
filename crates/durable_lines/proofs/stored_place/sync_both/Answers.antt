use Rattle.std.proofs.Common.{List, ℕ, sym, subst}
use Rattle.durable_lines.specs.CrashModel.{HasOneOutcome}
use Rattle.durable_lines.specs.RawModel.{LeftOfRaw}
use Rattle.durable_lines.proofs.FolderLemmas.{on_ok_any}
use Rattle.durable_lines.proofs.stored_place.sync_both.Goals as goal

pub returns-then-is_renamed-clause-file : goal.returns-then-is_renamed-clause-file
returns-then-is_renamed-clause-file g c =
    on_ok_any c.map_err.result
    (subst (λ (bytes : List ℕ). HasOneOutcome bytes
    (LeftOfRaw g.F.File.RawFile.model c.sync.new.self.raw))
    (sym c.in_ok-sync-in-Some.ensures.unchanged) c.in_ok-sync-in-Some.ensures.durable)

pub returns-clause-file : goal.returns-clause-file
returns-clause-file g c =
    subst (λ (bytes : List ℕ). HasOneOutcome bytes
    (LeftOfRaw g.F.File.RawFile.model c.sync.new.self.raw))
    (sym c.in_ok-sync-in-Some.ensures.unchanged) c.in_ok-sync-in-Some.ensures.durable
