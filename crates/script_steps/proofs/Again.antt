-- A table that was written reads as itself.
use Rattle.std.proofs.Common.{◌≡◌, ℕ, ◌==◌, true, not, ◌&&◌, nat_le, List, map, length, Some, ok_or, Result, Ok, Err, refl, ap, ap₂, ◌∙◌, arith}
use Rattle.std.proofs.lemmas.List.{length-map}
use Rattle.std.proofs.lemmas.Bool.Decides.{nat_tests}
use Rattle.std.specs.Prelude.{IfOk}
use Rattle.wire_bytes.specs.Outcome.{◌>>=◌, ◌>>◌, guard}
use Rattle.wire_bytes.proofs.OutcomeLemmas.{done}
use Rattle.cosem_axdr.specs.declared.value.Data.{Data}
use Rattle.cosem_axdr.proofs.OneTree.{list_of_trees}
use Rattle.disconnect_control.proofs.ModeLemmas.{mode_found}
use Rattle.disconnect_control.specs.Attributes.{mode_form}
use Rattle.limiter_attributes.proofs.Again.{number_again, profile_again}
use Rattle.script_steps.specs.Addresses.{action_at, address_of, action_of}
use Rattle.script_steps.specs.Forms.{step_parts_of, script_parts_of, identifier_of}
use Rattle.cosem_names.specs.WriteFault.{fault_of_items, values}
use Rattle.script_steps.specs.Reading.{max_scripts, max_steps, step_with, step_of, script_of, judged_script, judged_scripts, are_distinct, table_of}
use Rattle.script_steps.specs.Table.{IsStep, IsScript, IsTable}
use Rattle.script_steps.specs.Writing.{parameter_of, step_data, script_data, data_of}
use Rattle.script_steps.proofs.Listed.{action_again}
use Rattle.cosem_names.proofs.SeveralRead.{AreRead, all_again, told_again}
use Rattle.script_steps.proofs.Tables.{same_distinct}
use Rattle.script_steps.specs.declared.action.Address.{Address}
use Rattle.cosem_names.specs.declared.write_fault.WriteFault.{WriteFault}
use Rattle.cosem_names.specs.declared.write_fault.WriteFault.TheVariants.{Unmatched, Value}
use Rattle.script_steps.specs.declared.step.Script.{Script}
use Rattle.script_steps.specs.declared.step.Step.{Step}
use Rattle.script_steps.specs.declared.step.Step.TheVariants as step
use Rattle.cosem_names.specs.declared.objects.Which.TheVariants.{Import, Export}

-- the parts of a written step
parts_again : (s : Step) → step_parts_of (step_data s)
    ≡ Some (address_of (action_of s), parameter_of s)
unfolding step_data
parts_again (step.WriteMode mode) = refl
parts_again (step.WriteNormal Import watts) = refl
parts_again (step.WriteNormal Export watts) = refl
parts_again (step.WriteEmergency Import watts) = refl
parts_again (step.WriteEmergency Export watts) = refl
parts_again (step.WriteMinOver Import seconds) = refl
parts_again (step.WriteMinOver Export seconds) = refl
parts_again (step.WriteMinUnder Import seconds) = refl
parts_again (step.WriteMinUnder Export seconds) = refl
parts_again (step.WriteProfile Import profile) = refl
parts_again (step.WriteProfile Export profile) = refl
parts_again step.Disconnect = refl
parts_again step.Reconnect = refl

-- the parameter of a written step reads as that step
parameter_again : (s : Step) → IsStep s → step_with (action_of s) (parameter_of s) ≡ Ok s
unfolding step_with mode_form
parameter_again (step.WriteMode mode) fits = ap (λ o. ok_or o Value
    >>= λ m. done WriteFault (step.WriteMode m)) (mode_found mode)
parameter_again (step.WriteNormal which watts) fits =
    ap (λ r. r >>= λ n. done WriteFault (step.WriteNormal which n)) (number_again watts fits)
parameter_again (step.WriteEmergency which watts) fits =
    ap (λ r. r >>= λ n. done WriteFault (step.WriteEmergency which n)) (number_again watts fits)
parameter_again (step.WriteMinOver which seconds) fits =
    ap (λ r. r >>= λ n. done WriteFault (step.WriteMinOver which n)) (number_again seconds fits)
parameter_again (step.WriteMinUnder which seconds) fits =
    ap (λ r. r >>= λ n. done WriteFault (step.WriteMinUnder which n)) (number_again seconds fits)
parameter_again (step.WriteProfile which profile) fits =
    ap (λ r. r >>= λ p. done WriteFault (step.WriteProfile which p)) (profile_again profile fits)
parameter_again step.Disconnect fits = refl
parameter_again step.Reconnect fits = refl

-- a step from its parts
abbrev with_action : Address × Data → Result Step WriteFault
with_action parts = ok_or (action_at parts.0) Value >>= λ a. step_with a parts.1

-- a written step reads as itself
step_again : (s : Step) → IsStep s → step_of (step_data s) ≡ Ok s
unfolding step_of
step_again s fits =
    ap (λ o. ok_or o Unmatched >>= with_action) (parts_again s)
    ∙ ap (λ o. ok_or o Value >>= λ a. step_with a (parameter_of s)) (action_again (action_of s))
    ∙ parameter_again s fits

-- the parts of a written script
script_parts_again : (s : Script) → script_parts_of (script_data s)
    ≡ Some (s.identifier, map step_data s.steps)
unfolding script_data
script_parts_again s = ap (λ items. Some (s.identifier, items))
    (list_of_trees (map step_data s.steps))

-- a script's parts, judged
abbrev judged_with : ℕ × List Data → Result (ℕ × List Data) WriteFault
judged_with parts = fault_of_items step_of parts.1 >>
    (guard (not (parts.0 == 0) && nat_le (length parts.1) max_steps) Value >> Ok parts)

-- the limits of a script hold of its parts
within : (s : Script) → IsScript s → not (s.identifier == 0)
    && nat_le (length (map step_data s.steps)) max_steps ≡ true
within s fits = grind (arith, nat_tests, fits.named, fits.few, length-map)

-- a script from its parts
abbrev as_script : Result (ℕ × List Data) WriteFault → Result Script WriteFault
as_script judged = judged >>= λ parts. Ok (record {
  identifier = parts.0;
  steps = values step_of parts.1;
})

-- a written script reads as itself
script_again : (s : Script) → IsScript s → script_of (script_data s) ≡ Ok s
unfolding script_of judged_script
script_again s fits =
    let parts : ℕ × List Data = (s.identifier, map step_data s.steps) in
    let are = all_again step_of step_data IsStep step_again s.steps fits.fit in
    ap (λ o. as_script (ok_or o Unmatched >>= judged_with)) (script_parts_again s)
    ∙ ap (λ r. as_script (r >> (guard (not (parts.0 == 0) && nat_le (length parts.1) max_steps)
    Value >> done WriteFault parts))) (told_again are)
    ∙ ap (λ b. as_script (guard b Value >> done WriteFault parts)) (within s fits)
    ∙ ap (λ steps. done WriteFault (record { identifier = s.identifier; steps = steps })) are.are

-- the limits of a table hold of its Data
table_within : (scripts : List Script) → IsTable scripts
    → AreRead script_of (map script_data scripts) scripts
    → nat_le (length (map script_data scripts)) max_scripts
    && are_distinct identifier_of (map script_data scripts) ≡ true
table_within scripts fits are =
    ap₂ (λ a b. a && b) few (same_distinct (map script_data scripts) are.faultless
    ∙ ap (λ xs. are_distinct (λ script. script.identifier) xs) are.are ∙ fits.distinct)
  where
    few : nat_le (length (map script_data scripts)) max_scripts ≡ true
    few = grind (arith, nat_tests, fits.few, length-map)

-- a table's items, judged and read
abbrev with_items : List Data → Result (List Script) WriteFault
with_items items = judged_scripts items >> Ok (values script_of items)

-- a written table reads as itself
pub table_again : (scripts : List Script) → IsTable scripts → table_of (data_of scripts)
    ≡ Ok scripts
unfolding table_of data_of judged_scripts
table_again scripts fits =
    let items = map script_data scripts in
    let are = all_again script_of script_data IsScript script_again scripts fits.fit in
    ap (λ read. with_items read) (list_of_trees items)
    ∙ ap (λ r. (r >> guard (nat_le (length items) max_scripts && are_distinct identifier_of items)
    Value) >> done WriteFault (values script_of items)) (told_again are)
    ∙ ap (λ b. guard b Value >> done WriteFault (values script_of items))
    (table_within scripts fits are)
    ∙ ap (λ xs. done WriteFault xs) are.are

-- a table whose writing did not run out of memory reads as itself
pub written_again : {E : Type 0} (result : Result Data E) (written scripts table : List Script)
    → IsTable scripts → written ≡ scripts → scripts ≡ table
    → IfOk result (λ value. value ≡ data_of written)
    → IfOk result (λ value. table_of value ≡ Ok table)
written_again (Ok value) written scripts table fits same view is =
    ap table_of is ∙ ap (λ xs. table_of (data_of xs)) same ∙ table_again scripts fits
    ∙ ap (λ xs. Ok xs) view
written_again (Err error) written scripts table fits same view is = tt
