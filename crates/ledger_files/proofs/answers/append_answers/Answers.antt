use Rattle.ledger_files.proofs.AppendedStates.{recorded}
use Rattle.ledger_files.proofs.answers.append_answers.Goals as goal

pub returns-in-Ok : goal.returns-in-Ok
returns-in-Ok g c = recorded _ _ c.args.answers.now c.append_to_file.result
    c.append_to_file.ensures
