use Rattle.cosem_datetime.proofs.date_time.DateTimeField.spelling.Goals as goal

pub returns-clause-within : goal.returns-clause-within
returns-clause-within c =
    rw (← c.self.view_is) (record {
      date = c.bytes.ensures.within;
      time = c.bytes-2.ensures.within;
      deviation = c.self.invariant.0;
      status = c.self.invariant.1;
    })
