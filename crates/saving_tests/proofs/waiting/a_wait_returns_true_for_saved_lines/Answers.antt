use Rattle.saving_tests.proofs.waiting.a_wait_returns_true_for_saved_lines.Goals as goal

pub waits_after-requires-clause-settled : goal.waits_after-requires-clause-settled
waits_after-requires-clause-settled g c within = c.in_ok-recover.ensures.settled tt
