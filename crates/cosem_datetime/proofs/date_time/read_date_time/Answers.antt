use Rattle.std.proofs.Common.{◌∙◌, ap, arith}
use Rattle.cosem_datetime.specs.Reading.{date_time_of}
use Rattle.cosem_datetime.proofs.Spelled.{date_time_takes, date_time_again}
use Rattle.cosem_datetime.proofs.Faults.{if_ok, date_time_length, date_time_season}
use Rattle.cosem_datetime.proofs.date_time.read_date_time.Goals as goal

pub returns-clause-found : goal.returns-clause-found
returns-clause-found c =
    rw c.date_time_fields.ensures (if_ok (date_time_of c.args.bytes.now) _
    (λ p e. date_time_takes c.args.bytes.now p (λ i. omega (arith, c.type_inv.bytes i)) e))

pub returns-clause-unique : goal.returns-clause-unique
returns-clause-unique c = λ p h e. c.date_time_fields.ensures ∙ ap date_time_of e
    ∙ date_time_again p h

pub returns-clause-length : goal.returns-clause-length
returns-clause-length c = rw c.date_time_fields.ensures (date_time_length c.args.bytes.now)

pub returns-clause-season : goal.returns-clause-season
returns-clause-season c = rw c.date_time_fields.ensures (date_time_season c.args.bytes.now)
