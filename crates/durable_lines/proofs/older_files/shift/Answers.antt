use Rattle.durable_lines.proofs.FolderLemmas.{leaves_then}
use Rattle.durable_lines.proofs.older_files.shift.Goals as goal

pub returns-in_err-rename_older : goal.returns-in_err-rename_older
returns-in_err-rename_older g c acts = leaves_then _ _ _ _ (c.names.invariant acts)
    (c.rename_older.ensures acts)

pub names-preserved : goal.names-preserved
names-preserved g c acts = leaves_then _ _ _ _ (c.names.invariant acts)
    (c.rename_older.ensures acts)
