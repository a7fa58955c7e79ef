use Rattle.saving_tests.proofs.waiting.a_wait_returns_false_if_the_sync_fails.Goals as goal

pub waits_after-requires-clause-settled : goal.waits_after-requires-clause-settled
waits_after-requires-clause-settled g c within = c.in_ok-recover.ensures.settled tt
