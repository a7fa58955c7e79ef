use Rattle.crashed_runs.proofs.laws.save_as_one_of_the_saves.Goals as goal

pub returns : goal.returns
returns g c = λ acts first saved.
    c.each_call_of_save_is_a_save.ensures first c.args.file.now c.save.new.file c.args.port.now
    c.save.new.port c.args.taken c.save.result c.save.ensures.watches c.save.ensures.count saved
    (c.save.ensures.any_moment acts first saved)
