use Rattle.std.proofs.Common.{◌∙◌, ap}
use Rattle.cosem_datetime.specs.Reading.{time_of}
use Rattle.cosem_datetime.proofs.Spelled.{time_takes, time_again}
use Rattle.cosem_datetime.proofs.Faults.{if_ok, time_length, time_no_season}
use Rattle.cosem_datetime.proofs.time.read_time.Goals as goal

pub returns-clause-found : goal.returns-clause-found
returns-clause-found c =
    rw c.time_fields.ensures (if_ok (time_of c.args.bytes.now) _
    (λ p e. time_takes c.args.bytes.now p e))

pub returns-clause-unique : goal.returns-clause-unique
returns-clause-unique c = λ p h e. c.time_fields.ensures ∙ ap time_of e ∙ time_again p h

pub returns-clause-length : goal.returns-clause-length
returns-clause-length c = rw c.time_fields.ensures (time_length c.args.bytes.now)

pub returns-clause-no_season : goal.returns-clause-no_season
returns-clause-no_season c = rw c.time_fields.ensures (time_no_season c.args.bytes.now)
