use Rattle.head_end.proofs.JobOutcomes.{connected, unconnected, tried_closed, tried_refused}
use Rattle.head_end.proofs.running.try_job.Goals as goal

pub returns-in-Ok-clause-outcome : goal.returns-in-Ok-clause-outcome
returns-in-Ok-clause-outcome g c =
    connected (g.C.Connector.tells c.args.attempt.now.source.value c.args.job.now.address)
    g.C.Connection.Connection.forecast c.in-Ok.connection c.args.job.now.verb
    c.args.password.now c.in_ok-client.client c.converse-outcome.result c.in-Ok.ensures.forecast
    c.in_ok-client.ensures c.converse-outcome.ensures.forecast

pub returns-in-Ok-clause-tried : goal.returns-in-Ok-clause-tried
returns-in-Ok-clause-tried g c =
    rw (c.close.ensures.closed, c.in-Ok.ensures.used)
    (tried_closed c.args.job.now c.args.password.now c.in_ok-client.client _ _
    c.converse-outcome.result c.in_ok-client.ensures
    c.in-Ok.ensures.log c.converse-outcome.ensures.log)

pub returns-clause-outcome : goal.returns-clause-outcome
returns-clause-outcome g c =
    unconnected (g.C.Connector.tells c.args.attempt.now.source.value c.args.job.now.address)
    g.C.Connection.Connection.forecast c.in-Err.field-0 c.args.job.now.verb
    c.args.password.now c.in_ok-client.client c.give_up.result c.in-Err.ensures.forecast
    c.in_ok-client.ensures c.give_up.ensures

pub returns-clause-tried : goal.returns-clause-tried
returns-clause-tried g c =
    rw c.in-Err.ensures.used
    (tried_refused c.args.job.now c.args.password.now c.in_ok-client.client c.give_up.result
    c.in_ok-client.ensures c.give_up.ensures)
