use Rattle.std.proofs.Common.{rules, ◌∙◌}
use Rattle.std.specs.Result.{result_map_both}
use Rattle.cosem_names.proofs.Judged.{told_of_faults}
use Rattle.script_steps.specs.Reading.{script_of}
use Rattle.script_steps.proofs.reading.judge_each_script.Goals as goal

pub returns-clause-exact : goal.returns-clause-exact
returns-clause-exact c = c.judge_each.ensures.fault
    (λ item. result_map_both (λ script. tt {0}) (λ fault. fault) (script_of item)) (search rules)
    ∙ told_of_faults script_of c.args.items.now
