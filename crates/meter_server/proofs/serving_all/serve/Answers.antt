use Rattle.meter_server.proofs.ServingAllLemmas.{serves_sources}
use Rattle.meter_server.proofs.serving_all.serve.Goals as goal

pub returns-clause-serves : goal.returns-clause-serves
returns-clause-serves g c =
    serves_sources c.into_sources-blocks.ensures c.serve_with_three-served.ensures.serves
    c.new-blocks.ensures (λ events can. can) (λ events can. can)
