-- The eight transitions of the switch and which of them each mode allows (IEC 62056-6-2, class
-- 70); the result of each trigger.
use Rattle.std.specs.Prelude.{◌≡◌, ℕ, Bool, true, false, Option, Some, None, List, [], ◌∷◌, ◌==◌, ◌&&◌, ◌||◌, find, option_map, unwrap_or, is_some, if◌then◌else◌}
use Rattle.cosem_names.specs.declared.result_code.ResultCode.{ResultCode}
use Rattle.cosem_names.specs.declared.result_code.ResultCode.TheVariants.{Success, TemporaryFailure}
use Rattle.disconnect_control.specs.declared.state.ControlState.{ControlState}
use Rattle.disconnect_control.specs.declared.state.ControlState.TheVariants.{Disconnected, Connected, ReadyForReconnection}
use Rattle.disconnect_control.specs.declared.state.ControlMode.{ControlMode}
use Rattle.disconnect_control.specs.declared.state.ControlMode.TheVariants.{Mode0, Mode1, Mode2, Mode3, Mode4, Mode5, Mode6}
use Rattle.disconnect_control.specs.declared.state.Trigger.{Trigger}
use Rattle.disconnect_control.specs.declared.state.Trigger.TheVariants.{RemoteDisconnect, RemoteReconnect, ManualDisconnect, ManualReconnect, LocalDisconnect, LocalReconnect}

-- a transition: on this trigger, from one state to another
pub record Row : Type 0 where
  pub trigger : Trigger
  pub from : ControlState
  pub to : ControlState

-- transition a of the standard's figure of states and transitions (IEC 62056-6-2, class 70): a
-- remote reconnection closes the switch
abbrev pub a : Row
a = record { trigger = RemoteReconnect; from = Disconnected; to = Connected }

-- transition b of the figure: a remote disconnection opens the closed switch
abbrev pub b : Row
b = record { trigger = RemoteDisconnect; from = Connected; to = Disconnected }

-- transition c of the figure: a remote disconnection revokes the readiness for reconnection
abbrev pub c : Row
c = record { trigger = RemoteDisconnect; from = ReadyForReconnection; to = Disconnected }

-- transition d of the figure: a remote reconnection makes the open switch ready for reconnection
abbrev pub d : Row
d = record { trigger = RemoteReconnect; from = Disconnected; to = ReadyForReconnection }

-- transition e of the figure: a manual reconnection closes the switch that is ready for it
abbrev pub e : Row
e = record { trigger = ManualReconnect; from = ReadyForReconnection; to = Connected }

-- transition f of the figure: a manual disconnection opens the switch, which is then ready for
-- reconnection
abbrev pub f : Row
f = record { trigger = ManualDisconnect; from = Connected; to = ReadyForReconnection }

-- transition g of the figure: a local disconnection opens the switch, which is then ready for
-- reconnection
abbrev pub g : Row
g = record { trigger = LocalDisconnect; from = Connected; to = ReadyForReconnection }

-- transition h of the figure: a local reconnection closes the switch that is ready for it
abbrev pub h : Row
h = record { trigger = LocalReconnect; from = ReadyForReconnection; to = Connected }

-- the given transitions, with one more before them if it is allowed
abbrev pub only_if : Bool → Row → List Row → List Row
only_if true row rest = row ∷ rest
only_if false row rest = rest

-- the transitions that have `true` in their column, a to h
abbrev pub columns : Bool → Bool → Bool → Bool → Bool → Bool → Bool → Bool → List Row
columns has_a has_b has_c has_d has_e has_f has_g has_h =
    only_if has_a a (only_if has_b b
    (only_if has_c c (only_if has_d d
    (only_if has_e e (only_if has_f f (only_if has_g g (only_if has_h h [])))))))

-- yes, in the table below: the mode has the transition
abbrev pub y : Bool
y = true

-- no, in the table below: the mode does not have the transition
abbrev pub n : Bool
n = false

-- which transitions each mode has (IEC 62056-6-2, class 70, control_mode); mode 0 has none
abbrev pub rows_of : ControlMode → List Row
--                      a b c d e f g h
rows_of Mode0 = columns n n n n n n n n
rows_of Mode1 = columns n y y y y y y n
rows_of Mode2 = columns y y y n y y y n
rows_of Mode3 = columns n y y y y n y n
rows_of Mode4 = columns y y y n y n y n
rows_of Mode5 = columns n y y y y y y y
rows_of Mode6 = columns n y y y y n y y

-- the numbers of the states, as attribute 3 shows them (IEC 62056-6-2, class 70, control_state)
abbrev pub state_number : ControlState → ℕ
state_number Disconnected = 0
state_number Connected = 1
state_number ReadyForReconnection = 2

-- the numbers of the modes, as attribute 4 shows them (IEC 62056-6-2, class 70, control_mode)
abbrev pub mode_number : ControlMode → ℕ
mode_number Mode0 = 0
mode_number Mode1 = 1
mode_number Mode2 = 2
mode_number Mode3 = 3
mode_number Mode4 = 4
mode_number Mode5 = 5
mode_number Mode6 = 6

-- the mode of a number, if the number is from 0 to 6
abbrev pub mode_of : ℕ → Option ControlMode
mode_of number = if number == 0 then Some Mode0 else if number == 1 then Some Mode1
    else if number == 2 then Some Mode2 else if number == 3 then Some Mode3
    else if number == 4 then Some Mode4 else if number == 5 then Some Mode5 else if number == 6
    then Some Mode6 else None

-- a number for each trigger, to tell them apart
abbrev pub trigger_number : Trigger → ℕ
trigger_number RemoteDisconnect = 0
trigger_number RemoteReconnect = 1
trigger_number ManualDisconnect = 2
trigger_number ManualReconnect = 3
trigger_number LocalDisconnect = 4
trigger_number LocalReconnect = 5

-- whether two states are the same
abbrev pub is_state : ControlState → ControlState → Bool
is_state one other = state_number one == state_number other

-- the transition that a mode allows on a trigger in a state
unfoldable pub allowed_transition : ControlMode → Trigger → ControlState → Option Row
allowed_transition mode trigger state =
    find (λ row. trigger_number row.trigger == trigger_number trigger && is_state row.from state)
    (rows_of mode)

-- the state after a trigger
unfoldable pub control_state_after : ControlMode → Trigger → ControlState → ControlState
control_state_after mode trigger state = unwrap_or (option_map (λ row. row.to)
    (allowed_transition mode trigger state)) state

-- whether a remote reconnection in this mode waits for the button
abbrev pub waits_for_button : ControlMode → Bool
waits_for_button Mode0 = false
waits_for_button Mode1 = true
waits_for_button Mode2 = false
waits_for_button Mode3 = true
waits_for_button Mode4 = false
waits_for_button Mode5 = true
waits_for_button Mode6 = true

-- whether a state is what a trigger asks for, so that nothing is left to do
abbrev pub is_target : ControlMode → Trigger → ControlState → Bool
is_target _ RemoteDisconnect state = is_state state Disconnected
is_target mode RemoteReconnect state =
    is_state state Connected || (waits_for_button mode && is_state state ReadyForReconnection)
is_target _ ManualDisconnect state =
    is_state state Disconnected || is_state state ReadyForReconnection
is_target _ ManualReconnect state = is_state state Connected
is_target _ LocalDisconnect state =
    is_state state Disconnected || is_state state ReadyForReconnection
is_target _ LocalReconnect state = is_state state Connected

-- the result of a trigger, a rule of this meter: success if a transition is allowed or nothing is
-- left to do
unfoldable pub result_of : ControlMode → Trigger → ControlState → ResultCode
result_of mode trigger state =
    if is_some (allowed_transition mode trigger state) || is_target mode trigger state then Success
    else TemporaryFailure
