-- A fault that all meters have is that of each draw.
use Rattle.std.proofs.Common.{◌≡◌, ◌<◌, ◌≤◌, ◌+◌, ℕ, Option, Some, refl, arith}
use Rattle.std.proofs.lemmas.Bool.{lt-ltb, le-ltb}
use Rattle.fleet_faults.specs.Shares.{Shares, share_of, total}
use Rattle.fleet_faults.specs.Draws.{fault_drawn, stream_shares}
use Rattle.fleet_faults.specs.declared.fault.InjectedFault.{InjectedFault}
use Rattle.fleet_faults.specs.declared.fault.InjectedFault.TheVariants.{Silent, Slow, Vanishes, Closes}
use Rattle.fleet_faults.specs.declared.fault.InjectedFault.TheVariants.{WrongPassword, Refuses}

-- all meters have this fault
pub certain : (shares : Shares) (draw : ℕ) → draw < 100 → total shares ≤ 100
    → (kind : InjectedFault) → share_of shares kind ≡ 100 → fault_drawn shares draw ≡ Some kind
certain shares draw low within Silent all =
    rw (lt-ltb draw shares.silent (omega (arith, low, all))) refl
certain shares draw low within Slow all =
    rw (
      le-ltb draw shares.silent (omega (arith, within, all)),
      lt-ltb draw (shares.silent + shares.slow) (omega (arith, low, all)),
    ) refl
certain shares draw low within Vanishes all =
    rw (
      le-ltb draw shares.silent (omega (arith, within, all)),
      le-ltb draw (shares.silent + shares.slow) (omega (arith, within, all)),
      lt-ltb draw (shares.silent + shares.slow + shares.vanishes) (omega (arith, low, all)),
    ) refl
certain shares draw low within Closes all =
    rw (
      le-ltb draw shares.silent (omega (arith, within, all)),
      le-ltb draw (shares.silent + shares.slow) (omega (arith, within, all)),
      le-ltb draw (shares.silent + shares.slow + shares.vanishes) (omega (arith, within, all)),
      lt-ltb draw (stream_shares shares) (omega (arith, low, all)),
    ) refl
certain shares draw low within WrongPassword all =
    rw (
      le-ltb draw shares.silent (omega (arith, within, all)),
      le-ltb draw (shares.silent + shares.slow) (omega (arith, within, all)),
      le-ltb draw (shares.silent + shares.slow + shares.vanishes) (omega (arith, within, all)),
      le-ltb draw (stream_shares shares) (omega (arith, within, all)),
      lt-ltb draw (stream_shares shares + shares.wrong_password) (omega (arith, low, all)),
    ) refl
certain shares draw low within Refuses all =
    rw (
      le-ltb draw shares.silent (omega (arith, within, all)),
      le-ltb draw (shares.silent + shares.slow) (omega (arith, within, all)),
      le-ltb draw (shares.silent + shares.slow + shares.vanishes) (omega (arith, within, all)),
      le-ltb draw (stream_shares shares) (omega (arith, within, all)),
      le-ltb draw (stream_shares shares + shares.wrong_password) (omega (arith, within, all)),
      lt-ltb draw (total shares) (omega (arith, low, all)),
    ) refl

-- a share is at most all shares together
pub share_within : (shares : Shares) (kind : InjectedFault) → share_of shares kind ≤ total shares
share_within shares Silent = omega arith
share_within shares Slow = omega arith
share_within shares Vanishes = omega arith
share_within shares Closes = omega arith
share_within shares WrongPassword = omega arith
share_within shares Refuses = omega arith

-- no draw is above all shares if all meters have a fault
pub never_above : (shares : Shares) (draw : ℕ) (kind : InjectedFault) (drawn : Option InjectedFault)
    → draw < 100 → total shares ≤ draw → share_of shares kind ≡ 100 → drawn ≡ Some kind
never_above shares draw kind drawn low above all =
    let within = share_within shares kind in
    absurd (omega (arith, low, above, all, within))
