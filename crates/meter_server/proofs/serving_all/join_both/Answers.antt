use Rattle.meter_server.proofs.serving_all.join_both.Goals as goal

pub returns : goal.returns
returns g c = record {
  end = c.join_worker-end.result;
  back = c.join_worker-end.ensures;
  first = c.first_fault.ensures;
}
