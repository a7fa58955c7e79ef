-- A session whose bytes are written in hexadecimal.
use Rattle.std.proofs.Common.{◌≡◌, ℕ, List, [], ◌∷◌, Result, Ok, Err, refl, ap₂, subst, inl, inr}
use Rattle.std.proofs.Common.{append-nil}
use Rattle.std.specs.List.{flat_map}
use Rattle.std.specs.Io.KnownBytes.{Appends}
use Rattle.session_io.proofs.Reaching.{pair, reached_new, reached_fed, does_all_on, stops_on}
use Rattle.session_io.specs.Hexadecimal.{hex_line, replies_of, PlaysNew, PlaysOn}
use Rattle.session_io.specs.Meters.{RepliesTo, CoreSteps}
use Rattle.session_io.specs.Serving.{DoesAll, StopsShort, Stops, Work, plan_of, remaining_plan}
use Rattle.session_io.specs.Serving.{work_for}
use Rattle.session_io.specs.Sides.{Output, Outlets}
use Rattle.session_io.specs.Settling.{HasDone}
use Rattle.session_io.specs.declared.fault.HexFault.{HexFault}
use Rattle.session_io.specs.declared.fault.HexFault.TheVariants as hex_fault
use Rattle.session_io.specs.declared.fault.ServeFault.{ServeFault}
use Rattle.session_io.specs.declared.fault.ServeFault.TheVariants as fault
use Rattle.relay_events.specs.declared.event.Event.{Event}
use Rattle.relay_events.specs.declared.reply.Reply.{Reply}
use Rattle.relay_core.specs.declared.relay.RelayCore.{RelayCore}
use Rattle.relay_core.specs.Machine.{at_event}
use Rattle.relay_core.specs.Stands.{StandsFor}
use Rattle.relay_core.specs.World.{World, new_world}
use Rattle.session_core.specs.Backwards.{Asks, Answers}
use Rattle.session_core.specs.Progress.{Owes, Feeds}
use Rattle.session_core.specs.declared.session.Session.{Session}

-- a core's replies are those of the run of its world
replies_are : (old new : RelayCore) (events : List Event) (replies : List Reply) (w : World)
    → RepliesTo CoreSteps old events replies new → StandsFor old w → replies ≡ replies_of events w
replies_are old new [] [] w ran stands = refl
replies_are old new [] (r ∷ replies) w ran stands = absurd ran
replies_are old new (e ∷ events) [] w ran stands = absurd ran
replies_are old new (e ∷ events) (r ∷ replies) w (next, one, ran) stands =
    ap₂ (λ (reply : Reply) (later : List Reply). reply ∷ later) (one.reply_of w stands)
    (replies_are next new events replies (at_event e w).world ran (one.world w stands))

-- a session that was fed the whole input
fed_all : (password input : List ℕ) (s fed : Session) (before : Outlets RelayCore)
    → Owes password s → Feeds s input fed
    → HasDone CoreSteps hex_line (plan_of password) before input fed before
fed_all password input s fed before owes feeds =
    reached_fed [] input s fed before (reached_new password s before owes) feeds

-- everything was written
pub on_all : (password input : List ℕ) (s fed : Session) (before after : Outlets RelayCore)
    → Owes password s → Feeds s input fed
    → DoesAll CoreSteps hex_line (work_for (remaining_plan fed) []) before after
    → DoesAll CoreSteps hex_line (work_for (plan_of password) input) before after
on_all password input s fed before after owes feeds all =
    subst (λ (seen : List ℕ). DoesAll CoreSteps hex_line (work_for (plan_of password) seen) before
    after) (append-nil input)
    (does_all_on input [] fed before after (fed_all password input s fed before owes feeds) all)

-- the session ran out of memory
on_short : (password input : List ℕ) (s fed : Session) (before after : Outlets RelayCore)
    → Owes password s → Feeds s input fed
    → StopsShort CoreSteps hex_line (work_for (remaining_plan fed) []) before after
    → StopsShort CoreSteps hex_line (work_for (plan_of password) input) before after
on_short password input s fed before after owes feeds stops =
    subst (λ (seen : List ℕ). StopsShort CoreSteps hex_line (work_for (plan_of password) seen)
    before after) (append-nil input)
    (stops_on input [] fed before after fault.Memory
    (fed_all password input s fed before owes feeds) refl stops)

-- a fault that is out of memory, in the session
pub on_short_by : (password input : List ℕ) (s fed : Session) (before after : Outlets RelayCore)
    (f : ServeFault)
    → f ≡ fault.Memory → Owes password s → Feeds s input fed
    → Stops CoreSteps hex_line (work_for (remaining_plan fed) []) before f after
    → StopsShort CoreSteps hex_line (work_for (plan_of password) input) before after
on_short_by password input s fed before after f is owes feeds stops =
    on_short password input s fed before after owes feeds
    (subst (λ (g : ServeFault). Stops CoreSteps hex_line (work_for (remaining_plan fed) []) before g
    after) is stops)

-- the result for a meter that was new
pub played_new : (device password input : List ℕ) (core core' : RelayCore) (before after : Output)
    (result : Result (Unit {0}) HexFault)
    → StandsFor core (new_world device) → PlaysOn password input (pair before core) result
    (pair after core')
    → PlaysNew device password input before result after
played_new device password input core core' before after (Ok done) is_new all =
    subst (λ (replies : List Reply). Appends before.written after.written
    (flat_map hex_line (Answers password input replies)))
    (replies_are core core' (Asks password input) all.replies (new_world device) all.replied is_new)
    all.wrote
played_new device password input core core' before after (Err hex_fault.Digits) is_new none = absurd
    none
played_new device password input core core' before after (Err hex_fault.TooLong) is_new
    none = absurd none
played_new device password input core core' before after (Err hex_fault.Read) is_new none = absurd
    none
played_new device password input core core' before after (Err hex_fault.Write) is_new fails = fails
played_new device password input core core' before after (Err hex_fault.Memory) is_new
    (inl nothing) = inl nothing
played_new device password input core core' before after (Err hex_fault.Memory) is_new (inr stops) =
    inr (record { core = core; core' = core'; is_new = is_new; stops = stops })
