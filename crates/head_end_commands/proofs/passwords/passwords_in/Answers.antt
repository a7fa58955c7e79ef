use Rattle.std.proofs.Common.{List, subst}
use Rattle.std.specs.Option.{option_copied}
use Rattle.client_core.specs.declared.job.Job.{Job}
use Rattle.head_end_commands.specs.Faults.{passwords_fault}
use Rattle.head_end_commands.specs.PlanFaults.{IsTextFault}
use Rattle.head_end_commands.proofs.Plans.{text_of_list}
use Rattle.head_end_commands.proofs.passwords.passwords_in.Goals as goal

pub returns-in-Err-clause-err : goal.returns-in-Err-clause-err
returns-in-Err-clause-err c =
    rw c.report_passwords_fault.ensures
    (subst (λ (jobs : List Job). IsTextFault c.args.text.now (option_copied c.args.common) jobs
    (passwords_fault c.in-Err.fault)) c.as_slice.ensures.jobs
    (text_of_list c.args.text.now (option_copied c.args.common) c.as_slice.result.now c.in-Err.fault
    c.in-Err.ensures.given))
