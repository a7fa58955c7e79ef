-- A text is too long by its length alone: its lines never give that fault.
use Rattle.std.proofs.Common.{◌≡◌, ℕ, zero, suc, if◌then◌else◌, ◌<◌, Bool, true, false, nat_lt, List, [], ◌∷◌, length, Result, Ok, Err, refl, arith}
use Rattle.std.proofs.lemmas.Bool.Decides.{nat_tests}
use Rattle.wire_bytes.specs.Outcome.{◌>>=◌}
use Rattle.cosem_names.specs.declared.objects.Which.{Which}
use Rattle.cosem_names.specs.declared.objects.Which.TheVariants.{Import, Export}
use Rattle.trace_lines.specs.OpenCount.{count_at}
use Rattle.trace_openings.specs.OpeningReading.{settings_from, limiter_from, export_from, schedules_from, opening_with, opening_in, opening_from}
use Rattle.trace_words.specs.Places.{Place, place_of, line_as, line_result, first_as, value_at_end, ended_at}
use Rattle.trace_words.specs.Rows.{Row}
use Rattle.trace_words.specs.declared.fault.RowFault.{RowFault}
use Rattle.trace_words.specs.declared.fault.TraceFault.{TraceFault}
use Rattle.trace_words.specs.declared.fault.TraceFault.TheVariants.{TooLong}
use Rattle.trace_words.specs.declared.version.Version.{Version}
use Rattle.trace_words.specs.declared.version.Version.TheVariants.{One, Two}
use Rattle.trace_player.specs.Traces.{max_bytes, events_at, trace_from, trace_of}

-- a result other than that a text is too long
abbrev IsOther : {X : Type 0} → Result X TraceFault → Type 0
IsOther r = r ≡ Err TooLong → ⊥

-- an `Err` of this type of values
abbrev failed : (X : Type 0) → TraceFault → Result X TraceFault
failed X fault = Err fault

-- two equal faults are equal whatever the type of the values
fault_is : (X Y : Type 0) (f g : TraceFault) → failed X f ≡ failed X g → failed Y f ≡ failed Y g
fault_is X Y f g e = cc

-- two steps with other results, one after the other
then_other : {X Y : Type 0} (r : Result X TraceFault) (next : X → Result Y TraceFault) → IsOther r
    → ((x : X) → IsOther (next x)) → IsOther (r >>= next)
then_other (Ok x) next first others e = others x e
then_other {X = X} {Y = Y} (Err fault) next first others e = first (fault_is Y X fault TooLong e)

-- a value is not a fault
value_other : {X : Type 0} (x : X) → IsOther (Ok x)
value_other x e = absurd cc

-- the result of a line
passed_other : {X : Type 0} (r : Result X RowFault) (number : ℕ) (rows : List Row)
    (unended : List ℕ) → IsOther (line_result r number rows unended)
passed_other (Ok x) number rows unended e = absurd cc
passed_other (Err fault) number rows unended e = absurd cc

first_other : {X : Type 0} (value_in : Row → Result X RowFault) (number : ℕ) (rows : List Row)
    (unended : List ℕ) → IsOther (first_as value_in number rows unended)
first_other value_in number [] unended e = absurd cc
first_other value_in number (row ∷ rows) unended e =
    passed_other (value_in row) number rows unended e

line_other : {X : Type 0} (value_in : Row → Result X RowFault) (place : Place)
    → IsOther (line_as value_in place)
unfolding line_as
line_other value_in place e = first_other value_in place.number place.rows place.unended e

-- the result of the end
left_other : {X : Type 0} (number : ℕ) (rows : List Row) (unended : List ℕ) (x : X)
    → IsOther (value_at_end number rows unended x)
left_other number [] [] x e = absurd cc
left_other number [] (byte ∷ bytes) x e = absurd cc
left_other number (row ∷ rows) unended x e = absurd cc

ended_other : {X : Type 0} (place : Place) (x : X) → IsOther (ended_at place x)
unfolding ended_at
ended_other place x e = left_other place.number place.rows place.unended x e

-- the result of the opening
settings_other : (which : Which) (place : Place) → IsOther (settings_from which place)
unfolding settings_from
settings_other which place =
    then_other _ _ (line_other _ place) (λ normal. then_other _ _ (line_other _ normal.1)
    (λ emergency. then_other _ _ (line_other _ emergency.1) (λ min_over.
    then_other _ _ (line_other _ min_over.1) (λ min_under. then_other _ _ (line_other _ min_under.1)
    (λ profile. then_other _ _ (line_other _ profile.1) (λ groups.
    then_other _ _ (line_other _ groups.1) (λ actions. value_other _)))))))

limiter_other : (which : Which) (last : ℕ) (place : Place) → IsOther (limiter_from which last place)
unfolding limiter_from
limiter_other which last place =
    then_other _ _ (settings_other which place)
    (λ settings. then_other _ _ (line_other _ settings.1)
    (λ over. then_other _ _ (line_other _ over.1) (λ under. value_other _)))

export_other : (version : Version) (place : Place) → IsOther (export_from version place)
unfolding export_from
export_other One place = value_other _
export_other Two place = then_other _ _ (line_other _ place)
    (λ last. limiter_other Export last.0 last.1)

schedules_other : (place : Place) → IsOther (schedules_from place)
unfolding schedules_from
schedules_other place =
    then_other _ _ (line_other _ place) (λ first. then_other _ _ (line_other _ first.1)
    (λ second. then_other _ _ (line_other _ second.1) (λ third.
    then_other _ _ (line_other _ third.1) (λ fourth. value_other _))))

behind_version_other : (version : Version) (place : Place) → IsOther (opening_in version place)
unfolding opening_in opening_with
behind_version_other version place =
    then_other _ _ (line_other _ place) (λ device. then_other _ _ (line_other _ device.1)
    (λ state. then_other _ _ (line_other _ state.1) (λ mode.
    then_other _ _ (line_other _ mode.1) (λ last. then_other _ _ (line_other _ last.1) (λ moment.
    then_other _ _ (limiter_other Import last.0 moment.1)
    (λ import. then_other _ _ (export_other version import.1)
    (λ export. then_other _ _ (line_other _ export.1) (λ scripts.
    then_other _ _ (schedules_other scripts.1) (λ schedules. value_other _)))))))))

opening_other : (place : Place) → IsOther (opening_from place)
unfolding opening_from
opening_other place = then_other _ _ (line_other _ place)
    (λ version. then_other _ _ (behind_version_other version.0 version.1)
    (λ opening. value_other _))

-- the result of the events
events_other : (version : Version) (count : ℕ) (place : Place)
    → IsOther (events_at version count place)
unfolding events_at
events_other version zero place = value_other _
events_other version (suc count) place =
    then_other _ _ (line_other _ place) (λ event. then_other _ _
    (events_other version count event.1) (λ others. value_other _))

-- the result of the line of the number of events
count_other : (place : Place) → IsOther (count_at place)
unfolding count_at
count_other place = then_other _ _ (line_other _ place) (λ counted. value_other _)

-- the result of the lines of a trace
trace_other : (place : Place) → IsOther (trace_from place)
unfolding trace_from
trace_other place =
    then_other _ _ (opening_other place) (λ opening. then_other _ _ (count_other opening.1)
    (λ count. then_other _ _ (events_other opening.0.0 count.0 count.1)
    (λ events. ended_other events.1 _)))

-- the fault `TooLong` means that the text is too long
told_long : (text : List ℕ) (long : Bool) → nat_lt max_bytes (length text) ≡ long
    → IsOther (trace_from (place_of text)) → (if long then Err TooLong else trace_from
    (place_of text)) ≡ Err TooLong → max_bytes < length text
told_long text true is other e = grind (arith, nat_tests)
told_long text false is other e = absurd (other e)

pub told_too_long : (text : List ℕ) → trace_of text ≡ Err TooLong → max_bytes < length text
unfolding trace_of
told_too_long text e = told_long text (nat_lt max_bytes (length text)) refl
    (trace_other (place_of text)) e
