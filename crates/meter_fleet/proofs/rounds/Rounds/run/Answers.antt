use Rattle.std.proofs.Common.{◌∙◌}
use Rattle.meter_fleet.proofs.Rounding.{round_next}
use Rattle.meter_fleet.proofs.rounds.Rounds.run.Goals as goal

pub returns-in-Ok-clause-round : goal.returns-in-Ok-clause-round
returns-in-Ok-clause-round g c = round_next _ _ _ _ _ _ _ _ _ _ _ _ _ _ _ _ _ _ _ _ _ _
    c.may_wait.ensures c.in-Ok.ensures.4 c.clear.ensures.items
    (c.as_slice.ensures.value ∙ c.in-Ok.ensures.3)
    c.close_idle.ensures c.operate.ensures.gives c.operate.ensures.log
    c.accept_clients-self.ensures c.serve.ensures.clients c.in-Ok.ensures.2
    c.serve.ensures.serves
