use Rattle.saving_tests.proofs.runs.append_line.Goals as goal

pub append_and_renew-requires-clause-settled : goal.append_and_renew-requires-clause-settled
append_and_renew-requires-clause-settled c = c.in_ok-recover.ensures.settled
