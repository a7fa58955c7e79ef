-- An opening is read from its own lines alone, whatever follows them, and they have no byte 0.
use Rattle.std.proofs.Common.{◌≡◌, ℕ, false, nat_eq, ◌==◌, codes}
use Rattle.std.proofs.Common.{Some, None, Ok, refl, sym, ap, subst, inl, inr}
use Rattle.std.specs.Cmp.Lexicographic.{pointwise}
use Rattle.wire_bytes.specs.Format.{◌&◌}
use Rattle.wire_bytes.specs.Outcome.{◌>>=◌}
use Rattle.wire_bytes.proofs.OutcomeLemmas.{bind_ok, chosen, done, guard_ok}
use Rattle.cosem_names.specs.declared.objects.Which.{Which}
use Rattle.cosem_names.specs.declared.objects.Which.TheVariants.{Import, Export}
use Rattle.limiter_core.specs.Counting.{cap}
use Rattle.limiter_core.specs.declared.count.Count.{Count}
use Rattle.trace_words.proofs.LabelsBack.{behind_back}
use Rattle.trace_words.proofs.LocalReads.{IsLocal, local_line, local_none, local_then}
use Rattle.trace_words.proofs.PlainReads.{IsPlainRow, IsPlainWord, PartIsPlain, ReadsPlain}
use Rattle.trace_words.proofs.PlainReads.{both_reads, bytes_in_plain, data_in_plain, iso_reads}
use Rattle.trace_words.proofs.PlainReads.{labelled_plain, labelled_reads, line_reads, next_as_plain}
use Rattle.trace_words.proofs.PlainReads.{next_plain, number_in_plain, row_plain, to_end_reads}
use Rattle.trace_words.proofs.PlainWords.{ArePlain}
use Rattle.trace_words.proofs.WordsBack.{last_read, same_is}
use Rattle.trace_words.specs.Labels.{words_after, labelled_value}
use Rattle.trace_words.specs.Parts.{flag_part, labelled_part, number_part}
use Rattle.trace_words.specs.Reading.{next_as, number_in, value_in}
use Rattle.trace_words.specs.Rows.{Word}
use Rattle.trace_words.specs.WholeLines.{has_zero}
use Rattle.trace_words.specs.declared.fault.RowFault.{RowFault}
use Rattle.trace_words.specs.declared.fault.RowFault.TheVariants.{Wrong}
use Rattle.trace_words.specs.declared.version.Version.{Version}
use Rattle.trace_words.specs.declared.version.Version.TheVariants.{One, Two}
use Rattle.trace_openings.specs.OpeningFields.{actions_from, actions_part, count_from, count_part}
use Rattle.trace_openings.specs.OpeningFields.{device_in, entries_in, groups_from, groups_part}
use Rattle.trace_openings.specs.OpeningFields.{mode_in, moment_in, over_from, profile_from}
use Rattle.trace_openings.specs.OpeningFields.{profile_part, schedule_from, start_in, start_part}
use Rattle.trace_openings.specs.OpeningFields.{label, state_in, table_in, type_in, under_from}
use Rattle.trace_openings.specs.OpeningFields.{version_in}
use Rattle.disconnect_control.specs.declared.state.ControlState.{ControlState}
use Rattle.trace_openings.specs.OpeningReading.{export_from, limiter_from, opening_from, opening_in}
use Rattle.trace_openings.specs.OpeningReading.{opening_with, schedules_from, settings_from}

-- ---- words

version_in_plain : IsPlainWord version_in
version_in_plain = next_plain (number_in 2) _ (number_in_plain 2)

state_in_plain : IsPlainWord state_in
state_in_plain = next_plain (number_in 2) _ (number_in_plain 2)

type_in_plain : IsPlainWord type_in
type_in_plain = next_plain (number_in 5) _ (number_in_plain 5)

value_in_plain : IsPlainWord value_in
value_in_plain = number_in_plain 4294967295

device_in_plain : IsPlainWord device_in
unfolding device_in
device_in_plain = next_plain _ _ bytes_in_plain

mode_in_plain : (state : ControlState) → IsPlainWord (mode_in state)
unfolding mode_in
mode_in_plain state = next_plain (number_in 6) _ (number_in_plain 6)

start_in_plain : IsPlainWord start_in
unfolding start_in
start_in_plain = next_plain _ _ bytes_in_plain

table_in_plain : IsPlainWord table_in
unfolding table_in
table_in_plain = next_plain _ _ data_in_plain

entries_in_plain : IsPlainWord entries_in
unfolding entries_in
entries_in_plain = next_plain _ _ data_in_plain

moment_in_plain : IsPlainWord moment_in
moment_in_plain word moment e =
    elim (chosen (pointwise nat_eq word (codes "-")) (done RowFault None)
    (value_in word >>= λ (m : ℕ). Ok (Some m)) (Ok moment) e) [
      | inl none ↦ ap has_zero (same_is word (codes "-") none.0)
      | inr some ↦
          let m = bind_ok (value_in word) (λ (m : ℕ). done RowFault (Some m)) moment some.1 in
          value_in_plain word m.0 m.1
    ]

-- ---- lines

named : (which : Which) (name : Word) → has_zero name ≡ false → has_zero (label which name) ≡ false
named Import name plain = plain
named Export name plain = plain

number_part_plain : (limit : ℕ) → PartIsPlain (number_part limit)
number_part_plain limit row x e left =
    next_as_plain (number_in limit) (number_in_plain limit) row x e left

flag_part_plain : PartIsPlain flag_part
flag_part_plain row x e left =
    next_as_plain _ (next_plain (number_in 1) _ (number_in_plain 1)) row x e left

start_part_plain : PartIsPlain start_part
start_part_plain row x e left = next_as_plain start_in start_in_plain row x e left

id_part_plain : PartIsPlain (number_part 65535)
id_part_plain = number_part_plain 65535

profile_part_plain : PartIsPlain profile_part
profile_part_plain = iso_reads (λ p. record { id = p.0; start = p.1.0; duration = p.1.1 })
    (λ p. (p.id, (p.start, p.duration)))
    (number_part 65535 & start_part & number_part 4294967295)
    (both_reads (number_part 65535) (start_part & number_part 4294967295) id_part_plain
    (both_reads start_part (number_part 4294967295) start_part_plain
    (number_part_plain 4294967295)))

actions_part_plain : PartIsPlain actions_part
actions_part_plain = iso_reads (λ p. record { over = p.0; under = p.1 }) (λ a. (a.over, a.under))
    (number_part 65535 & number_part 65535)
    (both_reads (number_part 65535) (number_part 65535) id_part_plain id_part_plain)

count_part_plain : PartIsPlain count_part
count_part_plain = iso_reads (λ p. record { run = p.0; fired = p.1 }) (λ c. (c.run, c.fired))
    (number_part cap & flag_part)
    (both_reads (number_part cap) flag_part (number_part_plain cap) flag_part_plain)

profile_plain : (which : Which) → ReadsPlain (profile_from which)
unfolding profile_from
profile_plain which =
    let name = label which (codes "profile") in
    line_reads (labelled_part name profile_part)
    (labelled_reads name profile_part (named which (codes "profile") refl) profile_part_plain)

groups_plain : (which : Which) → ReadsPlain (groups_from which)
unfolding groups_from
groups_plain which =
    let name = label which (codes "groups") in
    line_reads (labelled_part name groups_part)
    (labelled_reads name groups_part (named which (codes "groups") refl)
    (to_end_reads 32 (number_part 65535) id_part_plain))

actions_plain : (which : Which) → ReadsPlain (actions_from which)
unfolding actions_from
actions_plain which =
    let name = label which (codes "actions") in
    line_reads (labelled_part name actions_part)
    (labelled_reads name actions_part (named which (codes "actions") refl) actions_part_plain)

count_plain : (name : Word) → has_zero name ≡ false → ReadsPlain (count_from name)
unfolding count_from
count_plain name plain =
    line_reads (labelled_part name count_part)
    (labelled_reads name count_part plain count_part_plain)

over_plain : (which : Which) (last : ℕ) → ReadsPlain (over_from which last)
unfolding over_from
over_plain which last row over e =
    let b = bind_ok (count_from (label which (codes "over")) row) _ over e in
    count_plain (label which (codes "over")) (named which (codes "over") refl) row b.0 b.1

under_plain : (which : Which) (last : ℕ) (over : Count) → ReadsPlain (under_from which last over)
unfolding under_from
under_plain which last over row under e =
    let b = bind_ok (count_from (label which (codes "under")) row) _ under e in
    count_plain (label which (codes "under")) (named which (codes "under") refl) row b.0 b.1

schedule_plain : (number : ℕ) → ReadsPlain (schedule_from number)
unfolding schedule_from
schedule_plain number row schedule e =
    let words = bind_ok (words_after (codes "schedule") row) _ schedule e in
    let found = bind_ok (next_as (number_in 3) words.0.1) _ schedule words.2 in
    let same = guard_ok (found.0.0 == number) Wrong _ schedule found.2 in
    let selector = bind_ok (next_as (number_in 65535) found.0.1) _ schedule same.1 in
    let kind = bind_ok (next_as type_in selector.0.1) _ schedule selector.2 in
    let entries = bind_ok _ _ schedule kind.2 in
    let last = last_read _ entries_in kind.0.1 entries.0 entries.1 in
    let last_plain : ArePlain kind.0.1 =
    subst ArePlain (sym last.1) (entries_in_plain last.0 entries.0 last.2, tt) in
    let kind_plain = next_as_plain type_in type_in_plain selector.0.1 kind.0 kind.1 last_plain in
    let selector_plain = next_as_plain (number_in 65535) (number_in_plain 65535) found.0.1
    selector.0 selector.1 kind_plain in
    let found_plain = next_as_plain (number_in 3) (number_in_plain 3) words.0.1 found.0 found.1
    selector_plain in
    let is = behind_back (codes "schedule") row words.0.0 words.0.1 words.1 in
    row_plain row (subst ArePlain (sym is) (refl, found_plain))

-- ---- all of them

number_local : (which : Which) (name : Word) → has_zero name ≡ false
    → ReadsPlain (labelled_value (label which name) value_in)
number_local which name plain = labelled_plain (label which name) value_in (named which name plain)
    value_in_plain

settings_local : (which : Which) → IsLocal IsPlainRow (settings_from which)
unfolding settings_from
settings_local which =
    local_then _ _ _ (local_line _ _ (number_local which (codes "normal") refl))
    (λ normal. local_then _ _ _ (local_line _ _ (number_local which (codes "emergency") refl))
    (λ emergency. local_then _ _ _ (local_line _ _ (number_local which (codes "minover") refl))
    (λ min_over. local_then _ _ _ (local_line _ _ (number_local which (codes "minunder") refl))
    (λ min_under. local_then _ _ _ (local_line _ _ (profile_plain which))
    (λ profile. local_then _ _ _ (local_line _ _ (groups_plain which))
    (λ groups. local_then _ _ _ (local_line _ _ (actions_plain which))
    (λ actions. local_none _ _)))))))

limiter_local : (which : Which) (last : ℕ) → IsLocal IsPlainRow (limiter_from which last)
unfolding limiter_from
limiter_local which last =
    local_then _ _ _ (settings_local which)
    (λ settings. local_then _ _ _ (local_line _ _ (over_plain which last))
    (λ over. local_then _ _ _ (local_line _ _ (under_plain which last over))
    (λ under. local_none _ _)))

export_local : (version : Version) → IsLocal IsPlainRow (export_from version)
unfolding export_from
export_local One = local_none _ _
export_local Two = local_then _ _ _ (local_line _ _ (number_local Export (codes "value") refl))
    (λ last. limiter_local Export last)

schedules_local : IsLocal IsPlainRow schedules_from
unfolding schedules_from
schedules_local =
    local_then _ _ _ (local_line _ _ (schedule_plain 0))
    (λ first. local_then _ _ _ (local_line _ _ (schedule_plain 1))
    (λ second. local_then _ _ _ (local_line _ _ (schedule_plain 2))
    (λ third. local_then _ _ _ (local_line _ _ (schedule_plain 3))
    (λ fourth. local_none _ _))))

opening_in_local : (version : Version) → IsLocal IsPlainRow (opening_in version)
unfolding opening_in opening_with
opening_in_local version =
    local_then _ _ _
    (local_line _ _ (labelled_plain (codes "device") device_in refl device_in_plain))
    (λ device. local_then _ _ _
    (local_line _ _ (labelled_plain (codes "state") state_in refl state_in_plain))
    (λ state. local_then _ _ _
    (local_line _ _ (labelled_plain (codes "mode") (mode_in state) refl (mode_in_plain state)))
    (λ mode. local_then _ _ _ (local_line _ _ (number_local Import (codes "value") refl))
    (λ last. local_then _ _ _
    (local_line _ _ (labelled_plain (codes "now") moment_in refl moment_in_plain))
    (λ moment. local_then _ _ _ (limiter_local Import last)
    (λ import. local_then _ _ _ (export_local version)
    (λ export. local_then _ _ _
    (local_line _ _ (labelled_plain (codes "scripts") table_in refl table_in_plain))
    (λ scripts. local_then _ _ _ schedules_local
    (λ schedules. local_none _ _)))))))))

-- an opening is read from its lines whatever follows them, and they have no byte 0
pub opening_local : IsLocal IsPlainRow opening_from
unfolding opening_from
opening_local =
    local_then _ _ _ (local_line _ _ (labelled_plain (codes "RELAYTRACE") version_in refl
    version_in_plain))
    (λ version. local_then _ _ _ (opening_in_local version) (λ opening. local_none _ _))
