-- The lines that a limiter is read from are the lines that are written for it.
use Rattle.std.proofs.Common.{◌≡◌, refl, ℕ, [], ◌∷◌, Ok, subst, codes}
use Rattle.limiter_core.specs.declared.settings.Settings.{Settings}
use Rattle.wire_bytes.proofs.OutcomeLemmas.{bind_ok}
use Rattle.cosem_names.specs.declared.objects.Which.{Which}
use Rattle.cosem_names.specs.declared.objects.Which.TheVariants.{Export}
use Rattle.relay_core.specs.declared.opening.LimiterOpening.{LimiterOpening}
use Rattle.trace_openings.proofs.LimiterLines.{profile_line, groups_line, actions_line, over_line, under_line}
use Rattle.trace_openings.proofs.OpeningFieldsBack.{value_back}
use Rattle.trace_openings.specs.OpeningFields.{label, profile_from, groups_from, actions_from, over_from, under_from}
use Rattle.trace_words.specs.Labels.{number_row}
use Rattle.trace_openings.specs.OpeningReading.{value_line, settings_from, limiter_from, export_from}
use Rattle.trace_openings.specs.OpeningRows.{actions_row, count_row, profile_row, groups_row, value_row, settings_rows, limiter_rows}
use Rattle.trace_words.specs.Places.{Place, line_as}
use Rattle.trace_words.specs.declared.version.Version.TheVariants.{Two}
use Rattle.trace_words.proofs.PlacesBack.{carried, Took, then, line_back}

-- the lines of the settings
settings_back : (which : Which) (place : Place) (settings : Settings) (behind : Place)
    → settings_from which place ≡ Ok (settings, behind)
    → Took (settings_rows which settings) place behind
unfolding settings_from
settings_back which place settings behind e =
    let normal = bind_ok (line_as _ place) _ (settings, behind) e in
    let emergency = bind_ok (line_as _ normal.0.1) _ (settings, behind) normal.2 in
    let over = bind_ok (line_as _ emergency.0.1) _ (settings, behind) emergency.2 in
    let under = bind_ok (line_as _ over.0.1) _ (settings, behind) over.2 in
    let profile = bind_ok (line_as (profile_from which) under.0.1) _ (settings, behind) under.2 in
    let groups = bind_ok (line_as (groups_from which) profile.0.1) _ (settings, behind) profile.2 in
    let actions = bind_ok (line_as (actions_from which) groups.0.1) _ (settings, behind) groups.2 in
    let made : Settings = record {
      threshold_normal = normal.0.0;
      threshold_emergency = emergency.0.0;
      min_over_threshold_duration = over.0.0;
      min_under_threshold_duration = under.0.0;
      profile = profile.0.0;
      groups = groups.0.0;
      actions = actions.0.0;
    } in
    carried Settings (λ one end. Took (settings_rows which one) place end) made settings actions.0.1
    behind actions.2
    (then _ _ place normal.0.1 actions.0.1 (value_back which (codes "normal") place normal.0.0
    normal.0.1 normal.1)
    (then _ _ normal.0.1 emergency.0.1 actions.0.1
    (value_back which (codes "emergency") normal.0.1 emergency.0.0 emergency.0.1 emergency.1)
    (then _ _ emergency.0.1 over.0.1 actions.0.1
    (value_back which (codes "minover") emergency.0.1 over.0.0 over.0.1 over.1)
    (then _ _ over.0.1 under.0.1 actions.0.1 (value_back which (codes "minunder") over.0.1 under.0.0
    under.0.1 under.1)
    (then _ _ under.0.1 profile.0.1 actions.0.1
    (line_back _ (profile_from which) (profile_row which) (profile_line which).back under.0.1
    profile.0.0 profile.0.1 profile.1)
    (then _ _ profile.0.1 groups.0.1 actions.0.1 (line_back _ (groups_from which) (groups_row which)
    (groups_line which).back profile.0.1 groups.0.0 groups.0.1 groups.1)
    (line_back _ (actions_from which) (actions_row which) (actions_line which).back groups.0.1
    actions.0.0 actions.0.1 actions.1)))))))

-- the lines after that of the last sample
pub limiter_back : (which : Which) (last : ℕ) (place : Place) (o : LimiterOpening) (behind : Place)
    → limiter_from which last place ≡ Ok (o, behind)
    → (Took (limiter_rows which o) place behind) × (last ≡ o.value)
unfolding limiter_from
limiter_back which last place o behind e =
    let settings = bind_ok (settings_from which place) _ (o, behind) e in
    let over = bind_ok (line_as (over_from which last) settings.0.1) _ (o, behind) settings.2 in
    let under = bind_ok (line_as (under_from which last over.0.0) over.0.1) _ (o, behind) over.2 in
    let made : LimiterOpening = record {
      settings = settings.0.0;
      value = last;
      over = over.0.0;
      under = under.0.0;
    } in
    carried LimiterOpening (λ one end. (Took (limiter_rows which one) place end)
    × (last ≡ one.value)) made o under.0.1 behind under.2 (
      then (settings_rows which settings.0.0) _ place settings.0.1 under.0.1
          (settings_back which place settings.0.0 settings.0.1 settings.1)
          (then _ _ settings.0.1 over.0.1 under.0.1
          (line_back _ (over_from which last) (count_row (label which (codes "over")))
          (over_line which last).back settings.0.1 over.0.0 over.0.1 over.1)
          (line_back _ (under_from which last over.0.0) (count_row (label which (codes "under")))
          (under_line which last over.0.0).back over.0.1 under.0.0 under.0.1 under.1)),
      refl,
    )

pub export_back : (place : Place) (o : LimiterOpening) (behind : Place) → export_from Two place
    ≡ Ok (o, behind) → Took (value_row Export o ∷ limiter_rows Export o) place behind
unfolding export_from
export_back place o behind e =
    let last = bind_ok (value_line Export place) _ (o, behind) e in
    let limiter = limiter_back Export last.0.0 last.0.1 o behind last.2 in
    then (value_row Export o ∷ []) (limiter_rows Export o) place last.0.1 behind
    (subst (λ (n : ℕ). Took (number_row (label Export (codes "value")) n ∷ []) place last.0.1)
    limiter.1 (value_back Export (codes "value") place last.0.0 last.0.1 last.1))
    limiter.0
