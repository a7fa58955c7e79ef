-- The renames so far are of other names.
use Rattle.durable_lines.specs.RawFolder.{LeavesName}
use Rattle.durable_lines.proofs.older_files.shift.Given as goal

abbrev pub invariant-names : goal.invariant-names
invariant-names g l =
    let folder = g.F.RawFolder in
    folder.acts → LeavesName l.kept (folder.calls l.initial.folder) (folder.calls l.folder)
