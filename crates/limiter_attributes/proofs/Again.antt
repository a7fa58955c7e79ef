-- An attribute that was written reads as itself.
use Rattle.std.proofs.Common.{◌≡◌, ℕ, ◌^◌, ◌<◌, ◌≤◌, true, nat_lt, nat_le, List, [], ◌∷◌, map, length, ok_or, Result, Ok, refl, ap, ap₂, ◌∙◌, arith}
use Rattle.std.proofs.lemmas.Bool.Decides.{nat_tests}
use Rattle.std.proofs.lemmas.List.{length-map}
use Rattle.std.specs.List.{filter_map}
use Rattle.std.specs.Result.{result_ok}
use Rattle.wire_bytes.specs.Outcome.{◌>>=◌, ◌>>◌, guard}
use Rattle.wire_bytes.proofs.OutcomeLemmas.{done, ok_is, bind_ok, guard_ok}
use Rattle.cosem_axdr.specs.Forms.{double_long_unsigned_of, long_unsigned_of}
use Rattle.cosem_axdr.specs.declared.value.Data.{Data}
use Rattle.cosem_axdr.specs.declared.value.Data.TheVariants.{DoubleLongUnsigned, LongUnsigned}
use Rattle.cosem_axdr.proofs.OneTree.{list_of_trees}
use Rattle.cosem_datetime.specs.Fields.{IsDateTimeFields, date_time_bytes}
use Rattle.cosem_datetime.specs.Reading.{date_time_of}
use Rattle.cosem_datetime.proofs.Lengths.{twelve_bytes}
use Rattle.cosem_datetime.proofs.Spelled.{date_time_again}
use Rattle.cosem_names.specs.declared.write_fault.WriteFault.{WriteFault}
use Rattle.cosem_names.specs.declared.write_fault.WriteFault.TheVariants.{Unmatched, Value}
use Rattle.cosem_names.specs.Scripts.{script_data}
use Rattle.limiter_core.specs.declared.settings.Actions.{Actions}
use Rattle.limiter_core.specs.declared.settings.Profile.{Profile}
use Rattle.limiter_attributes.specs.Reading.{number_of, profile_of, are_ids, max_groups, judged_groups, groups_of, actions_of}
use Rattle.limiter_attributes.specs.Writing.{profile_data, groups_data, actions_data}
use Rattle.limiter_attributes.proofs.Profiles.{profile_parts_again}

-- a number of 32 bits that is written
pub number_again : (number : ℕ) → number < 2 ^ 32
    → number_of (DoubleLongUnsigned number) ≡ Ok number
unfolding number_of
number_again number small = ap (λ b. guard b Unmatched >> done WriteFault number) below where
  below : nat_lt number (2 ^ 32) ≡ true
  below = grind (arith, nat_tests, small)

-- a number that is read
pub number_small : (value : Data) (number : ℕ) → number_of value ≡ Ok number → number < 4294967296
unfolding number_of
number_small value number e =
    let found = bind_ok (ok_or (double_long_unsigned_of value) Unmatched)
    (λ n. guard (nat_lt n (2 ^ 32)) Unmatched >> done WriteFault n) number e in
    let fits = guard_ok (nat_lt found.0 (2 ^ 32)) Unmatched (done WriteFault found.0) number found.2
    in
    let same : found.0 ≡ number = ok_is {F = WriteFault} found.0 number fits.1 in
    grind (arith, nat_tests, same, fits.0)

-- a profile of its parts
abbrev with_parts : ℕ × List ℕ × ℕ → Result Profile WriteFault
with_parts parts = ok_or (result_ok (date_time_of parts.1)) Value
    >>= λ start. done WriteFault (record { id = parts.0; start = start; duration = parts.2 })

-- a profile that was written reads as itself
pub profile_again : (profile : Profile) → IsDateTimeFields profile.start
    → profile_of (profile_data profile) ≡ Ok profile
unfolding profile_of
profile_again profile fits =
    ap (λ o. ok_or o Unmatched >>= with_parts) (profile_parts_again profile.id profile.duration
    (date_time_bytes profile.start) (twelve_bytes profile.start))
    ∙ ap (λ r. ok_or (result_ok r) Value >>= λ start. done WriteFault
    (record { id = profile.id; start = start; duration = profile.duration }))
    (date_time_again profile.start fits)

-- actions that were written read as themselves
pub actions_again : (actions : Actions) → actions_of (actions_data actions) ≡ Ok actions
unfolding actions_of actions_data script_data
actions_again actions = refl

-- each written id is a long-unsigned
ids_typed : (ids : List ℕ) → are_ids (map LongUnsigned ids) ≡ true
ids_typed [] = refl
ids_typed (id ∷ ids) = ids_typed ids

-- each written id reads as itself
ids_again : (ids : List ℕ) → filter_map long_unsigned_of (map LongUnsigned ids) ≡ ids
ids_again [] = refl
ids_again (id ∷ ids) = ap (λ xs. id ∷ xs) (ids_again ids)

-- a group id list from its items: judged, then read
abbrev with_items : List Data → Result (List ℕ) WriteFault
with_items items = judged_groups items >> Ok (filter_map long_unsigned_of items)

-- a group id list that was written reads as itself
pub groups_again : (ids : List ℕ) → length ids ≤ max_groups → groups_of (groups_data ids) ≡ Ok ids
unfolding groups_of groups_data judged_groups
groups_again ids few =
    let items = map LongUnsigned ids in
    ap (λ read. with_items read) (list_of_trees items)
    ∙ ap₂ (λ typed within. (guard typed Unmatched >> guard within Value) >> done WriteFault
    (filter_map long_unsigned_of items)) (ids_typed ids) within
    ∙ ap (λ xs. done WriteFault xs) (ids_again ids)
  where
    within : nat_le (length (map LongUnsigned ids)) max_groups ≡ true
    within = grind (arith, nat_tests, few, length-map)
