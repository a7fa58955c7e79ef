use Rattle.std.proofs.Common.{inl}
use Rattle.head_end.proofs.JobOutcomes.{unconnected, tried_refused}
use Rattle.ledger_campaigns.proofs.RunningLemmas.{told_outcome, closed_use}
use Rattle.ledger_campaigns.proofs.running.try_new_job.Goals as goal

pub returns-in-Ok-clause-outcome : goal.returns-in-Ok-clause-outcome
returns-in-Ok-clause-outcome g c =
    told_outcome
    (g.C.Connector.tells c.args.attempt.now.source.value c.args.task.now.job.now.address)
    g.C.Connection.Connection.forecast c.in-Ok.connection c.args.task.now.job.now.verb
    c.args.task.now.password.now c.in_ok-client.client c.converse_if_given-outcome.result
    c.in-Ok.ensures.forecast c.in_ok-client.ensures c.converse_if_given-outcome.ensures.forecast

pub returns-in-Ok-clause-attempt : goal.returns-in-Ok-clause-attempt
returns-in-Ok-clause-attempt g c =
    rw (c.close.ensures.closed, c.in-Ok.ensures.used)
    (closed_use _ c.args.task.now.job.now c.args.task.now.password.now c.in_ok-client.client _ _
    c.converse_if_given-outcome.result c.in_ok-client.ensures
    c.in-Ok.ensures.log c.converse_if_given-outcome.ensures.log)

pub returns-clause-outcome : goal.returns-clause-outcome
returns-clause-outcome g c = inl
    (unconnected
    (g.C.Connector.tells c.args.attempt.now.source.value c.args.task.now.job.now.address)
    g.C.Connection.Connection.forecast c.in-Err.field-0 c.args.task.now.job.now.verb
    c.args.task.now.password.now c.in_ok-client.client c.give_up.result
    c.in-Err.ensures.forecast c.in_ok-client.ensures c.give_up.ensures)

pub returns-clause-attempt : goal.returns-clause-attempt
returns-clause-attempt g c =
    rw c.in-Err.ensures.used
    (tried_refused c.args.task.now.job.now c.args.task.now.password.now c.in_ok-client.client
    c.give_up.result c.in_ok-client.ensures c.give_up.ensures)
