use Rattle.session_tests.proofs.SentLemmas.{conversed}
use Rattle.session_tests.proofs.recording.talk.Goals as goal

pub returns-clause-outcome : goal.returns-clause-outcome
returns-clause-outcome g c =
    conversed c.args.job.now.verb c.args.password.now _ c.in_ok-client.client _ _ c.converse.result
    c.in_ok-client.ensures c.requires.new c.converse.ensures.log
