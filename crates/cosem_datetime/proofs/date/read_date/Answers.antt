use Rattle.std.proofs.Common.{◌∙◌, ap, arith}
use Rattle.cosem_datetime.specs.Reading.{date_of}
use Rattle.cosem_datetime.proofs.Spelled.{date_takes, date_again}
use Rattle.cosem_datetime.proofs.Faults.{if_ok, date_length, date_season}
use Rattle.cosem_datetime.proofs.date.read_date.Goals as goal

pub returns-clause-found : goal.returns-clause-found
returns-clause-found c =
    rw c.date_fields.ensures (if_ok (date_of c.args.bytes.now) _
    (λ p e. date_takes c.args.bytes.now p (λ i. omega (arith, c.type_inv.bytes i)) e))

pub returns-clause-unique : goal.returns-clause-unique
returns-clause-unique c = λ p h e. c.date_fields.ensures ∙ ap date_of e ∙ date_again p h

pub returns-clause-length : goal.returns-clause-length
returns-clause-length c = rw c.date_fields.ensures (date_length c.args.bytes.now)

pub returns-clause-season : goal.returns-clause-season
returns-clause-season c = rw c.date_fields.ensures (date_season c.args.bytes.now)
