use Rattle.std.proofs.Common.{◌≡◌, ◌+◌, ◌*◌, refl}
use Rattle.cosem_datetime.proofs.Jiff.{first_day_is}
use Rattle.cosem_datetime.proofs.MomentFacts.{written_is}
use Rattle.cosem_datetime.proofs.moment.written_seconds.Goals as goal

pub returns-clause-value : goal.returns-clause-value
returns-clause-value c =
    let sum : c.from.result * c.from-2.result + c.from-3.result ≡ 86400 * c.args.day
    + c.args.second = rw (c.from.ensures, c.from-2.ensures, c.from-3.ensures) refl in
    written_is _ c.args.day c.args.second _ sum c.requires.day c.requires.second first_day_is
