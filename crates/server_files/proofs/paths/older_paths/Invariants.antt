-- The first paths have the first numbers.
use Rattle.std.proofs.Common.{◌≡◌, map}
use Rattle.std.specs.Prelude.{string_bytes}
use Rattle.server_files.specs.Paths.{older_names}
use Rattle.server_files.proofs.paths.older_paths.Given as goal

abbrev pub invariant-paths : goal.invariant-paths
invariant-paths l = map string_bytes l.paths.items ≡ older_names l.path l.index
