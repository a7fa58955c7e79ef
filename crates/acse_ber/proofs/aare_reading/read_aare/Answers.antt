use Rattle.std.proofs.Common.{◌≡◌, Result, Ok, Err, IfOk, sym, ◌∙◌}
use Rattle.acse_ber.specs.Reading.{aare_of}
use Rattle.acse_ber.specs.Spelling.{SpellsAare}
use Rattle.acse_ber.specs.declared.aare.Aare.{Aare}
use Rattle.acse_ber.specs.declared.fault.AcseFault.{AcseFault}
use Rattle.acse_ber.proofs.Aares.{aare_found, aare_again}
use Rattle.acse_ber.proofs.aare_reading.read_aare.Goals as goal

-- a result equal to the definition's has every property that holds of each value of the definition
found_by : (P : Aare → Type 0) (r given : Result Aare AcseFault) → r ≡ given
    → ((a : Aare) → given ≡ Ok a → P a) → IfOk r P
found_by P (Ok a) given e all = all a (sym e)
found_by P (Err fault) given e all = tt

pub returns-clause-found : goal.returns-clause-found
returns-clause-found c = found_by (SpellsAare c.args.bytes.now) c.read_whole.result
    (aare_of c.args.bytes.now) c.read_whole.ensures (aare_found c.args.bytes.now)

pub returns-clause-unique : goal.returns-clause-unique
returns-clause-unique c = λ a s. c.read_whole.ensures ∙ aare_again c.args.bytes.now a s
