use Rattle.std.proofs.Common.{arith, ◌<◌, length}
use Rattle.acse_ber.proofs.Passwords.{same_further, none_further, is_compared}
use Rattle.acse_ber.proofs.judging.is_same.Goals as goal

pub bytes-preserved : goal.bytes-preserved
bytes-preserved c =
    let given = c.args.given.now in
    let password = c.args.password.now in
    let within : c.bytes.i < length password =
    omega (arith, c.bytes-test.true, c.if-given-password.false) in (
      same_further given password c.bytes.i c.bytes.differing c.bytes-test.true
          within c.bytes.invariant.0,
      none_further given password c.bytes.i c.bytes.differing
          c.bytes.invariant.1,
    )

pub returns : goal.returns
returns c = is_compared c.args.given.now c.args.password.now c.bytes.i c.bytes.differing
    c.if-given-password.false c.bytes-test.false c.bytes.invariant.0 c.bytes.invariant.1
