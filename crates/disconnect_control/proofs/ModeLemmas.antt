use Rattle.std.proofs.Common.{◌≡◌, Some, refl}
use Rattle.disconnect_control.specs.Transitions.{mode_of, mode_number}
use Rattle.disconnect_control.specs.declared.state.ControlMode.{ControlMode}
use Rattle.disconnect_control.specs.declared.state.ControlMode.TheVariants.{Mode0, Mode1, Mode2, Mode3, Mode4, Mode5, Mode6}

-- each mode is found by its number
pub mode_found : (mode : ControlMode) → mode_of (mode_number mode) ≡ Some mode
mode_found Mode0 = refl
mode_found Mode1 = refl
mode_found Mode2 = refl
mode_found Mode3 = refl
mode_found Mode4 = refl
mode_found Mode5 = refl
mode_found Mode6 = refl
