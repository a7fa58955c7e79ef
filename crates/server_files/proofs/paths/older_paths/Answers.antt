use Rattle.std.specs.Prelude.{string_bytes}
use Rattle.server_files.proofs.PathLemmas.{one_more}
use Rattle.server_files.proofs.paths.older_paths.Goals as goal

pub paths-preserved : goal.paths-preserved
paths-preserved c = one_more string_bytes c.paths.paths.items c.in_ok-format.field-0
    c.push.new.self.items c.args.path.now c.paths.index c.paths.invariant
    c.in_ok-push.ensures.items c.in_ok-format.ensures.ok
