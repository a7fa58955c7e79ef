-- The shares of the meters that have each fault, in percent.
--     Shares           the shares
--     no_shares        no meter has a fault
--     share_of         the share of a fault
--     total            all shares together
--     fault_named      the fault that a name means
--     shares_after     the shares after a word of the command line
use Rattle.std.specs.Prelude.{ℕ, ◌+◌, ◌==◌, if◌then◌else◌, nat_le, codes, List, Option, Some, None}
use Rattle.std.specs.Prelude.{Result, Ok, Err}
use Rattle.std.specs.List.{before_first, after_first}
use Rattle.std.specs.Str.{bytes_eq}
use Rattle.text_lines.specs.Numbers.{number_of}
use Rattle.fleet_faults.specs.declared.fault.InjectedFault.{InjectedFault}
use Rattle.fleet_faults.specs.declared.fault.InjectedFault.TheVariants.{Silent, Slow, Vanishes, Closes}
use Rattle.fleet_faults.specs.declared.fault.InjectedFault.TheVariants.{WrongPassword, Refuses}
use Rattle.fleet_faults.specs.declared.shares.ShareFault.{ShareFault}
use Rattle.fleet_faults.specs.declared.shares.ShareFault.TheVariants as fault

-- the share of each fault, in percent
pub record Shares : Type 0 where
  pub silent : ℕ
  pub slow : ℕ
  pub vanishes : ℕ
  pub closes : ℕ
  pub wrong_password : ℕ
  pub refuses : ℕ

-- no meter has a fault
abbrev pub no_shares : Shares
no_shares = record {
  silent = 0;
  slow = 0;
  vanishes = 0;
  closes = 0;
  wrong_password = 0;
  refuses = 0;
}

-- the share of a fault
abbrev pub share_of : Shares → InjectedFault → ℕ
share_of shares Silent = shares.silent
share_of shares Slow = shares.slow
share_of shares Vanishes = shares.vanishes
share_of shares Closes = shares.closes
share_of shares WrongPassword = shares.wrong_password
share_of shares Refuses = shares.refuses

-- all shares together
abbrev pub total : Shares → ℕ
total shares = shares.silent + shares.slow + shares.vanishes + shares.closes
    + shares.wrong_password + shares.refuses

-- the shares with another share of this fault
abbrev pub with_share : Shares → InjectedFault → ℕ → Shares
with_share shares Silent percent = record shares { silent = percent }
with_share shares Slow percent = record shares { slow = percent }
with_share shares Vanishes percent = record shares { vanishes = percent }
with_share shares Closes percent = record shares { closes = percent }
with_share shares WrongPassword percent = record shares { wrong_password = percent }
with_share shares Refuses percent = record shares { refuses = percent }

-- the fault that a name means
unfoldable pub fault_named : List ℕ → Option InjectedFault
fault_named name =
    if bytes_eq name (codes "silent") then Some Silent else
    if bytes_eq name (codes "slow") then Some Slow else
    if bytes_eq name (codes "vanishes") then Some Vanishes else
    if bytes_eq name (codes "closes") then Some Closes else
    if bytes_eq name (codes "wrong-password") then Some WrongPassword else
    if bytes_eq name (codes "refuses") then Some Refuses else None

-- the byte between a name and its percentage
abbrev pub equals_sign : ℕ
equals_sign = 61

-- these shares, unless they are more than 100 percent together
abbrev pub at_most_all : Shares → Result Shares ShareFault
at_most_all shares = if nat_le (total shares) 100 then Ok shares else Err fault.Total

-- the shares with this percentage of a fault, if there is a fault and a percentage
abbrev pub shares_with : Shares → Option InjectedFault → Option ℕ → Result Shares ShareFault
shares_with shares None percent = Err fault.Name
shares_with shares (Some kind) None = Err fault.Percent
shares_with shares (Some kind) (Some percent) = at_most_all (with_share shares kind percent)

-- The shares after a word of the command line: a name, the byte `=` and a percentage of 0 to 100 in
-- decimal digits. It replaces the share of this fault.
abbrev pub shares_after : Shares → List ℕ → Result Shares ShareFault
shares_after shares word = shares_with shares
    (fault_named (before_first (λ byte. byte == equals_sign) word))
    (number_of 100 (after_first (λ byte. byte == equals_sign) word))
