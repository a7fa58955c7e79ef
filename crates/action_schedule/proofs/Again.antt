-- An attribute that was written reads as itself.
use Rattle.std.proofs.Common.{◌≡◌, ℕ, true, nat_le, List, map, length, Some, ok_or, Result, Ok, Err, IfOk, refl, sym, ap, ap₂, subst, ◌∙◌, arith}
use Rattle.std.proofs.lemmas.Bool.Decides.{nat_tests}
use Rattle.std.proofs.lemmas.List.{length-map}
use Rattle.std.specs.Result.{result_ok}
use Rattle.wire_bytes.specs.Outcome.{◌>>=◌, ◌>>◌, guard}
use Rattle.wire_bytes.proofs.OutcomeLemmas.{done}
use Rattle.cosem_axdr.specs.declared.value.Data.{Data}
use Rattle.cosem_axdr.specs.declared.value.Data.TheVariants.{Enum}
use Rattle.cosem_axdr.proofs.OneTree.{list_of_trees}
use Rattle.cosem_datetime.specs.Fields.{time_bytes, date_bytes}
use Rattle.cosem_datetime.specs.Reading.{time_of, date_of}
use Rattle.cosem_datetime.proofs.Lengths.{five_bytes}
use Rattle.cosem_datetime.proofs.Spelled.{time_again, date_again}
use Rattle.cosem_datetime.specs.declared.entry.EntryPattern.{EntryPattern}
use Rattle.cosem_names.proofs.SeveralRead.{all_again, told_again}
use Rattle.action_schedule.proofs.Parts.{entry_parts_again}
use Rattle.action_schedule.specs.Kinds.{number_of, type_of_number}
use Rattle.cosem_names.specs.WriteFault.{values}
use Rattle.action_schedule.specs.Reading.{max_entries, selector_of, kind_of, entry_of, judged_entries, entries_of}
use Rattle.action_schedule.specs.Schedule.{Schedule, IsEntry, AreEntries}
use Rattle.action_schedule.specs.Writing.{entry_data, entries_data, ReadsBack}
use Rattle.cosem_names.specs.Scripts.{script_at, script_data}
use Rattle.action_schedule.specs.declared.attribute.ScheduleAttribute.{ScheduleAttribute}
use Rattle.cosem_names.specs.declared.write_fault.WriteFault.{WriteFault}
use Rattle.cosem_names.specs.declared.write_fault.WriteFault.TheVariants.{Unmatched, Value}
use Rattle.action_schedule.specs.declared.kind.ScheduleType.{ScheduleType}
use Rattle.action_schedule.specs.declared.kind.ScheduleType.TheVariants.{Type1, Type2, Type3, Type4, Type5}

-- a written script reads as itself
selector_again : (selector : ℕ) → selector_of (script_data (script_at selector)) ≡ Ok selector
unfolding selector_of script_data
selector_again selector = refl

-- each type is found by its number
type_again : (kind : ScheduleType) → type_of_number (number_of kind) ≡ Some kind
type_again Type1 = refl
type_again Type2 = refl
type_again Type3 = refl
type_again Type4 = refl
type_again Type5 = refl

-- an entry from its parts
abbrev with_parts : List ℕ × List ℕ → Result EntryPattern WriteFault
with_parts parts = ok_or (result_ok (time_of parts.0)) Value
    >>= λ time. ok_or (result_ok (date_of parts.1)) Value
    >>= λ date. done WriteFault (record { time = time; date = date })

-- a written entry reads as itself
entry_again : (entry : EntryPattern) → IsEntry entry → entry_of (entry_data entry) ≡ Ok entry
unfolding entry_of entry_data
entry_again entry fits =
    ap (λ o. ok_or o Unmatched >>= with_parts)
    (entry_parts_again (time_bytes entry.time) (date_bytes entry.date) refl
    (five_bytes entry.date))
    ∙ ap₂ (λ t d. ok_or (result_ok t) Value >>= λ time. ok_or (result_ok d) Value
    >>= λ date. done WriteFault (record { time = time; date = date }))
    (time_again entry.time fits.time) (date_again entry.date fits.date)

-- judged entries, read
abbrev with_items : List Data → Result (List EntryPattern) WriteFault
with_items items = judged_entries items >> Ok (values entry_of items)

-- written entries read as themselves
entries_again : (entries : List EntryPattern) → AreEntries entries
    → entries_of (entries_data entries) ≡ Ok entries
unfolding entries_of entries_data judged_entries
entries_again entries fits =
    let items = map entry_data entries in
    let are = all_again entry_of entry_data IsEntry entry_again entries fits.fit in
    ap (λ read. with_items read) (list_of_trees items)
    ∙ ap (λ r. (r >> guard (nat_le (length items) max_entries) Value) >> done WriteFault
    (values entry_of items)) (told_again are)
    ∙ ap (λ b. guard b Value >> done WriteFault (values entry_of items)) few
    ∙ ap (λ xs. done WriteFault xs) are.are
  where
    few : nat_le (length (map entry_data entries)) max_entries ≡ true
    few = grind (arith, nat_tests, fits.few, length-map)

-- a script whose writing did not run out of memory reads as itself
pub selector_written : {E : Type 0} (result : Result Data E) (selector : ℕ)
    → IfOk result (λ value. value ≡ script_data (script_at selector))
    → IfOk result (λ value. selector_of value ≡ Ok selector)
selector_written (Ok value) selector is = ap selector_of is ∙ selector_again selector
selector_written (Err error) selector is = tt

pub kind_written : (number : ℕ) (kind : ScheduleType) → number ≡ number_of kind
    → kind_of (Enum number) ≡ Ok kind
unfolding kind_of
kind_written number kind is = ap (λ n. ok_or (type_of_number n) Value) is
    ∙ ap (λ o. ok_or o Value) (type_again kind)

pub entries_written : {E : Type 0} (result : Result Data E) (written entries : List EntryPattern)
    → AreEntries entries → written ≡ entries
    → IfOk result (λ value. value ≡ entries_data written)
    → IfOk result (λ value. entries_of value ≡ Ok entries)
entries_written (Ok value) written entries fits same is =
    ap entries_of is ∙ ap (λ xs. entries_of (entries_data xs)) same ∙ entries_again entries fits
entries_written (Err error) written entries fits same is = tt

-- an attribute reads as itself, given the attribute asked for and the schedule that a caller sees
pub reads_back : {E : Type 0} (result : Result Data E) (attribute asked : ScheduleAttribute)
    (inside schedule : Schedule) → asked ≡ attribute → inside ≡ schedule
    → IfOk result (λ value. ReadsBack attribute value inside)
    → IfOk result (λ value. ReadsBack asked value schedule)
reads_back result attribute asked inside schedule is view back =
    subst (λ a. IfOk result (λ value. ReadsBack a value schedule)) (sym is)
    (subst (λ s. IfOk result (λ value. ReadsBack attribute value s)) view back)
