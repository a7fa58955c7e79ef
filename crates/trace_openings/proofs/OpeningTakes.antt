-- The number of lines that an opening has.
use Rattle.std.proofs.Common.{◌≡◌, ℕ, ◌+◌, List, [], ◌∷◌, ◌++◌, Ok}
use Rattle.wire_bytes.proofs.OutcomeLemmas.{bind_ok}
use Rattle.cosem_names.specs.declared.objects.Which.{Which}
use Rattle.cosem_names.specs.declared.objects.Which.TheVariants.{Import, Export}
use Rattle.relay_core.specs.declared.opening.Opening.{Opening}
use Rattle.trace_words.proofs.LinesTaken.{Takes, takes_then, takes_none, takes_line}
use Rattle.trace_words.proofs.PlacesBack.{Took, then, carried, line_read}
use Rattle.trace_words.specs.Places.{Place, line_as}
use Rattle.trace_words.specs.Rows.{Row}
use Rattle.trace_words.specs.declared.version.Version.{Version}
use Rattle.trace_words.specs.declared.version.Version.TheVariants.{One, Two}
use Rattle.trace_openings.specs.OpeningFields.{version_from}
use Rattle.trace_openings.specs.OpeningReading.{settings_from, limiter_from, export_from, schedules_from, opening_with, opening_in, opening_from}

settings_takes : (which : Which) (place : Place) → Takes 7 place (settings_from which place)
unfolding settings_from
settings_takes which place =
    takes_then 1 6 _ _ _ (takes_line _ place)
    (λ normal. takes_then 1 5 _ _ _ (takes_line _ normal.1)
    (λ emergency. takes_then 1 4 _ _ _ (takes_line _ emergency.1) (λ min_over.
    takes_then 1 3 _ _ _ (takes_line _ min_over.1)
    (λ min_under. takes_then 1 2 _ _ _ (takes_line _ min_under.1)
    (λ profile. takes_then 1 1 _ _ _ (takes_line _ profile.1) (λ groups.
    takes_then 1 0 _ _ _ (takes_line _ groups.1) (λ actions. takes_none _ _)))))))

limiter_takes : (which : Which) (last : ℕ) (place : Place)
    → Takes 9 place (limiter_from which last place)
unfolding limiter_from
limiter_takes which last place =
    takes_then 7 2 _ _ _ (settings_takes which place)
    (λ settings. takes_then 1 1 _ _ _ (takes_line _ settings.1)
    (λ over. takes_then 1 0 _ _ _ (takes_line _ over.1) (λ under. takes_none _ _)))

-- the number of lines of the export limiter, none in version 1
abbrev export_lines : Version → ℕ
export_lines One = 0
export_lines Two = 10

export_takes : (version : Version) (place : Place)
    → Takes (export_lines version) place (export_from version place)
unfolding export_from
export_takes One place = takes_none _ _
export_takes Two place = takes_then 1 9 _ _ _ (takes_line _ place)
    (λ last. limiter_takes Export last.0 last.1)

schedules_takes : (place : Place) → Takes 4 place (schedules_from place)
unfolding schedules_from
schedules_takes place =
    takes_then 1 3 _ _ _ (takes_line _ place) (λ first. takes_then 1 2 _ _ _ (takes_line _ first.1)
    (λ second. takes_then 1 1 _ _ _ (takes_line _ second.1) (λ third.
    takes_then 1 0 _ _ _ (takes_line _ third.1) (λ fourth. takes_none _ _))))

-- the number of lines of an opening after that of the version
abbrev pub lines_behind : Version → ℕ
lines_behind version = 1 + (1 + (1 + (1 + (1 + (9 + (export_lines version + (1 + (4 + 0))))))))

pub opening_in_takes : (version : Version) (place : Place)
    → Takes (lines_behind version) place (opening_in version place)
unfolding opening_in opening_with
opening_in_takes version place =
    takes_then 1 _ _ _ _ (takes_line _ place)
    (λ device. takes_then 1 _ _ _ _ (takes_line _ device.1)
    (λ state. takes_then 1 _ _ _ _ (takes_line _ state.1) (λ mode.
    takes_then 1 _ _ _ _ (takes_line _ mode.1) (λ last. takes_then 1 _ _ _ _ (takes_line _ last.1)
    (λ moment.
    takes_then 9 _ _ _ _ (limiter_takes Import last.0 moment.1)
    (λ import. takes_then (export_lines version) _ _ _ _
    (export_takes version import.1) (λ export.
    takes_then 1 _ _ _ _ (takes_line _ export.1)
    (λ scripts. takes_then 4 0 _ _ _ (schedules_takes scripts.1)
    (λ schedules. takes_none _ _)))))))))

-- the lines between the start of an opening and the place after it
pub opening_stands : (place : Place) (parts : Version × Opening) (behind : Place)
    → opening_from place ≡ Ok (parts, behind) → (rows : List Row) × Took rows place behind
unfolding opening_from
opening_stands place parts behind e =
    let version = bind_ok (line_as version_from place) _ (parts, behind) e in
    let line = line_read Version version_from place version.0.0 version.0.1 version.1 in
    let opening = bind_ok (opening_in version.0.0 version.0.1) _ (parts, behind) version.2 in
    let inner = opening_in_takes version.0.0 version.0.1 opening.0.0 opening.0.1 opening.1 in
    carried (Version × Opening) (λ _ q. (rows : List Row) × Took rows place q) (
      version.0.0,
      opening.0.0,
    ) parts opening.0.1 behind opening.2 (
      (line.row ∷ []) ++ inner.rows,
      then (line.row ∷ []) inner.rows place version.0.1 opening.0.1
          line.took inner.took,
    )
