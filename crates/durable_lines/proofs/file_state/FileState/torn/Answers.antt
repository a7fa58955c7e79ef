use Rattle.std.proofs.Common.{rules}
use Rattle.durable_lines.proofs.StateLemmas.{torn_possible}
use Rattle.durable_lines.proofs.file_state.FileState.torn.Goals as goal

pub returns-clause-bytes : goal.returns-clause-bytes
returns-clause-bytes c = search rules

pub returns-clause-possible : goal.returns-clause-possible
returns-clause-possible c = torn_possible c.args.self.now c.args.fates.now
    c.append_torn.new.left.items (returns-clause-bytes c)
