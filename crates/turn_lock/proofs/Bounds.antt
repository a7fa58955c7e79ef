-- The constants of the code equal those of the specification.
use Rattle.std.proofs.Common.{◌≡◌, refl}
use Rattle.turn_lock.specs.declared.board.TheConstants.{MAX_TURNS}
use Rattle.turn_lock.specs.Rule.{max_turns}

-- the code's largest bound on turns is the specification's
pub max_turns_are : MAX_TURNS ≡ max_turns
max_turns_are = refl
