use Rattle.saving_tests.proofs.settling.a_port_settles_once_its_lines_are_on_the_disk.Goals as goal

pub settle_asked-requires : goal.settle_asked-requires
settle_asked-requires g c = c.in_ok-recover.ensures.settled tt
