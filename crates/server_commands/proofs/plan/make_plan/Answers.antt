use Rattle.std.proofs.Common.{rules}
use Rattle.server_commands.proofs.PlanFaults.{no_plan, wrong_device, wrong_password}
use Rattle.server_commands.proofs.plan.make_plan.Goals as goal

pub returns-in_err-password-clause-err : goal.returns-in_err-password-clause-err
returns-in_err-password-clause-err g c = wrong_password c.from_residual.result
    c.in_err-password.field-0.0 _ _ _ c.args.options.now.bounds _ c.from_residual.ensures.1
    (search rules) c.in_err-password.ensures.err

pub returns-in_err-device-clause-err : goal.returns-in_err-device-clause-err
returns-in_err-device-clause-err g c = wrong_device c.from_residual-in_err-device.result
    c.in_err-device.field-0.0 c.in_ok-password.password _ _ _ c.args.options.now.bounds _
    c.from_residual-in_err-device.ensures.1 (search rules) (search rules)
    c.in_ok-password.ensures.fits c.in_err-device.ensures.err

pub returns-in-Err-clause-err : goal.returns-in-Err-clause-err
returns-in-Err-clause-err g c = no_plan c.in_ok-password.password c.in_ok-device.device _ _
    c.args.options.now.bounds _ _ _
    c.in-Err.fault (search rules) (search rules) (search rules) c.in_ok-password.ensures.fits
    c.in_ok-device.ensures.fits c.in-Err.ensures.err
