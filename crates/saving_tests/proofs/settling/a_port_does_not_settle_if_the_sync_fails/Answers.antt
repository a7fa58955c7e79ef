use Rattle.saving_tests.proofs.settling.a_port_does_not_settle_if_the_sync_fails.Goals as goal

pub settle_asked-requires : goal.settle_asked-requires
settle_asked-requires g c = c.in_ok-recover.ensures.settled tt
