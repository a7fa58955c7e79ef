use Rattle.std.proofs.Common.{◌≡◌, ℕ, ◌<◌, ◌≤◌, Bool, true, false, ◌==◌, if◌then◌else◌, List, [], ◌∷◌, Option, Some, None, IfSome, unwrap_or, option_map, arith, refl, ap, sym, ◌∙◌, subst}
use Rattle.cosem_names.specs.declared.objects.Which.{Which}
use Rattle.cosem_names.specs.declared.objects.Which.TheVariants.{Import, Export}
use Rattle.disconnect_control.specs.Control.{Control, control_after}
use Rattle.disconnect_control.specs.declared.state.ControlMode.{ControlMode}
use Rattle.disconnect_control.specs.declared.state.Trigger.{Trigger}
use Rattle.limiter_attributes.specs.declared.setting.Setting.{Setting}
use Rattle.limiter_attributes.specs.declared.setting.Setting.TheVariants as setting
use Rattle.limiter_attributes.specs.Settings.{with_setting}
use Rattle.limiter_core.specs.declared.count.Count.{Count}
use Rattle.limiter_core.specs.declared.kinds.Fire.{Fire}
use Rattle.limiter_core.specs.declared.kinds.Fire.TheVariants.{Quiet, Over, Under}
use Rattle.limiter_core.specs.declared.settings.Actions.{Actions}
use Rattle.limiter_core.specs.declared.settings.Settings.{Settings}
use Rattle.limiter_core.specs.Counting.{cap, count_of, count_after, fires_at}
use Rattle.limiter_core.specs.Rows.{Row, Entry, OverThreshold, UnderThreshold, is_past, need, fire_of}
use Rattle.limiter_core.specs.Settings.{limits_at, row_of, need_of}
use Rattle.limiter_core.proofs.Firing.{counted as row_counted, fire_counted, count_of_entry}
use Rattle.relay_core.specs.declared.scripts.Origin.{Origin}
use Rattle.relay_core.specs.declared.scripts.Origin.TheVariants.{Local}
use Rattle.relay_core.specs.Agreeing.{AreCountedAlike, with_rows, Agree, AreInRange, IsSettingInRange, IsWorld}
use Rattle.script_steps.specs.Ranges.{IsStepInRange, AreStepsInRange, AreScriptsInRange}
use Rattle.relay_core.specs.Sampling.{Measurement, SamplingState, with_sample, fire_at, after_fire, after_sample, with_firing, sampling_after, after_samples}
use Rattle.relay_core.specs.Scripts.{at_step, at_script, is_success}
use Rattle.relay_core.specs.Switch.{with_entry, enters, with_entries_since, at_trigger}
use Rattle.relay_core.specs.World.{World, Outcome}
use Rattle.relay_core.specs.Writing.{at_mode, at_setting}
use Rattle.script_steps.specs.declared.step.Script.{Script}
use Rattle.script_steps.specs.declared.step.Step.{Step}
use Rattle.script_steps.specs.declared.step.Step.TheVariants as step
use Rattle.script_steps.specs.Table.{steps_at, script_at, running_steps}

-- Two calls with equal results that end in worlds which agree, the first of them in range.
pub record Alike (a b : Outcome) : Type 0 where
  pub code : a.code ≡ b.code
  pub world : Agree a.world b.world
  pub range : IsWorld a.world

-- what holds for every world with other rows holds for one that agrees
pub of_rows : (P : World → Type 0) (v w : World) → Agree v w
    → ((rows others : List Row) → AreCountedAlike v.import.rows rows
    → AreCountedAlike v.export.rows others → P (with_rows rows others v)) → P w
of_rows P v w agree all = subst P (sym agree.same)
    (all w.import.rows w.export.rows agree.import agree.export)

-- a world agrees with itself with other rows that are counted alike
pub rows_agree : (v : World) (rows others : List Row) → AreCountedAlike v.import.rows rows
    → AreCountedAlike v.export.rows others
    → Agree v (with_rows rows others v)
rows_agree v rows others i e = record { same = refl; import = i; export = e }

-- an entry into Connected ends the runs of any rows
entries_alike : (xs ys : List Row) → AreCountedAlike (Entry ∷ xs) (Entry ∷ ys)
entries_alike xs ys = record {
  over = count_of_entry OverThreshold xs ∙ sym (count_of_entry OverThreshold ys);
  under = count_of_entry UnderThreshold xs ∙ sym (count_of_entry UnderThreshold ys);
}

noted_alike : (before : Control) (v : World) (rows others : List Row)
    → AreCountedAlike v.import.rows rows
    → AreCountedAlike v.export.rows others → Agree (with_entries_since before v)
    (with_entries_since before (with_rows rows others v))
unfolding with_entries_since
noted_alike before v rows others i e =
    let noted : Bool → World → World = λ b w. if b then record w {
      import = with_entry w.import;
      export = with_entry w.export;
    } else w in
    let cases : (b : Bool) → Agree (noted b v) (noted b (with_rows rows others v)) =
    λ b. elim b as (λ b. Agree (noted b v) (noted b (with_rows rows others v))) [
      | true ↦ record {
        same = refl;
        import = entries_alike v.import.rows rows;
        export = entries_alike v.export.rows others;
      }
      | false ↦ rows_agree v rows others i e
    ] in
    cases (enters before v.control)

noted_in_range : (before : Control) (v : World) → IsWorld v → IsWorld (with_entries_since before v)
unfolding with_entries_since
noted_in_range before v range =
    let noted : Bool → World = λ b. if b then record v {
      import = with_entry v.import;
      export = with_entry v.export;
    } else v in
    let cases : (b : Bool) → IsWorld (noted b) =
    λ b. elim b as (λ b. IsWorld (noted b)) [
      | true ↦ record { import = range.import; export = range.export; scripts = range.scripts }
      | false ↦ range
    ] in
    cases (enters before v.control)

pub trigger_alike : (trigger : Trigger) (v w : World) → IsWorld v → Agree v w
    → Alike (at_trigger trigger v) (at_trigger trigger w)
unfolding at_trigger
trigger_alike trigger v w range agree = of_rows
    (λ w. Alike (at_trigger trigger v) (at_trigger trigger w)) v w agree
    (λ rows others i e.
    let pulled : World = record v { control = control_after trigger v.control } in
    let pulled_range : IsWorld pulled = record {
      import = range.import;
      export = range.export;
      scripts = range.scripts;
    } in
    record {
      code = refl;
      world = noted_alike v.control pulled rows others i e;
      range = noted_in_range v.control pulled pulled_range;
    })

pub mode_alike : (mode : ControlMode) (v w : World) → IsWorld v → Agree v w
    → Alike (at_mode mode v) (at_mode mode w)
unfolding at_mode
mode_alike mode v w range agree = of_rows (λ w. Alike (at_mode mode v) (at_mode mode w)) v w agree
    (λ rows others i e. record {
      code = refl;
      world = record { same = refl; import = i; export = e };
      range = record { import = range.import; export = range.export; scripts = range.scripts };
    })

setting_in_range : (one : Setting) (settings : Settings) → IsSettingInRange one
    → AreInRange settings → AreInRange (with_setting one settings)
setting_in_range (setting.ThresholdNormal watts) settings one range =
    record { over = range.over; under = range.under }
setting_in_range (setting.ThresholdEmergency watts) settings one range =
    record { over = range.over; under = range.under }
setting_in_range (setting.MinOverThresholdDuration seconds) settings one range =
    record { over = one; under = range.under }
setting_in_range (setting.MinUnderThresholdDuration seconds) settings one range =
    record { over = range.over; under = one }
setting_in_range (setting.Profile profile) settings one range =
    record { over = range.over; under = range.under }
setting_in_range (setting.Actions actions) settings one range =
    record { over = range.over; under = range.under }

pub setting_alike : (which : Which) (one : Setting) (v w : World) → IsSettingInRange one → IsWorld v
    → Agree v w
    → Alike (at_setting which one v) (at_setting which one w)
unfolding at_setting
setting_alike Import one v w small range agree =
    of_rows (λ w. Alike (at_setting Import one v) (at_setting Import one w)) v w agree
    (λ rows others i e. record {
      code = refl;
      world = record { same = refl; import = i; export = e };
      range = record {
        import = setting_in_range one v.import.settings small range.import;
        export = range.export;
        scripts = range.scripts;
      };
    })
setting_alike Export one v w small range agree =
    of_rows (λ w. Alike (at_setting Export one v) (at_setting Export one w)) v w agree
    (λ rows others i e. record {
      code = refl;
      world = record { same = refl; import = i; export = e };
      range = record {
        import = range.import;
        export = setting_in_range one v.export.settings small range.export;
        scripts =
            range.scripts;
      };
    })

pub step_alike : (origin : Origin) (one : Step) (v w : World) → IsStepInRange one
    → IsWorld v → Agree v w
    → Alike (at_step origin one v) (at_step origin one w)
unfolding at_step
step_alike origin (step.WriteMode mode) v w small range agree = mode_alike mode v w range agree
step_alike origin (step.WriteNormal which watts) v w small range agree =
    setting_alike which (setting.ThresholdNormal watts) v w tt range agree
step_alike origin (step.WriteEmergency which watts) v w small range agree =
    setting_alike which (setting.ThresholdEmergency watts) v w tt range agree
step_alike origin (step.WriteMinOver which seconds) v w small range agree =
    setting_alike which (setting.MinOverThresholdDuration seconds) v w small range agree
step_alike origin (step.WriteMinUnder which seconds) v w small range agree =
    setting_alike which (setting.MinUnderThresholdDuration seconds) v w small range agree
step_alike origin (step.WriteProfile which profile) v w small range agree =
    setting_alike which (setting.Profile profile) v w tt range agree
step_alike origin step.Disconnect v w small range agree = trigger_alike _ v w range agree
step_alike origin step.Reconnect v w small range agree = trigger_alike _ v w range agree

-- if two tests are equal and the choices are alike, what the tests choose is alike
pub either_alike : (p q : Bool) (a b c d : Outcome) → p ≡ q → Alike a b → Alike c d
    → Alike (if p then a else c) (if q then b else d)
either_alike p q a b c d is first second =
    let cases : (p : Bool) → Alike (if p then a else c) (if p then b else d) = λ p. elim p as
    (λ p. Alike (if p then a else c) (if p then b else d)) [ true ↦ first | false ↦ second ] in
    subst (λ (q : Bool). Alike (if p then a else c) (if q then b else d)) is (cases p)

pub script_alike : (origin : Origin) (steps : List Step) (v w : World) → AreStepsInRange steps
    → IsWorld v → Agree v w
    → Alike (at_script origin steps v) (at_script origin steps w)
unfolding at_script
script_alike origin [] v w small range agree = record { code = refl; world = agree; range = range }
script_alike origin (one ∷ steps) v w small range agree =
    let first = step_alike origin one v w small.0 range agree in
    either_alike _ _ _ _ _ _ (ap is_success first.code)
    (script_alike origin steps (at_step origin one v).world (at_step origin one w).world small.1
    first.range first.world) first

-- the steps of a selector's script are in range
found_in_range : (selector : ℕ) (scripts : List Script) → AreScriptsInRange scripts
    → IfSome (script_at selector scripts) (λ script. AreStepsInRange script.steps)
found_in_range selector [] range = tt
found_in_range selector (script ∷ scripts) range =
    let cases : (b : Bool) → IfSome (if b then Some script else script_at selector scripts)
    (λ script. AreStepsInRange script.steps) =
    λ b. elim b as (λ b. IfSome (if b then Some script else script_at selector scripts)
    (λ script. AreStepsInRange script.steps)) [
      | true ↦ range.0
      | false ↦ found_in_range selector scripts range.1
    ] in
    cases (script.identifier == selector)

pub steps_in_range : (selector : ℕ) (scripts : List Script) → AreScriptsInRange scripts
    → IfSome (steps_at selector scripts) AreStepsInRange
unfolding steps_at
steps_in_range selector scripts range =
    let found : (o : Option Script) → IfSome o (λ script. AreStepsInRange script.steps)
    → IfSome (option_map (λ script. script.steps) o) AreStepsInRange =
    λ o. elim o as (λ o. IfSome o (λ script. AreStepsInRange script.steps)
    → IfSome (option_map (λ script. script.steps) o) AreStepsInRange) [
      | None ↦ λ none. tt
      | Some script ↦ λ some. some
    ] in
    let rest = found (script_at selector scripts) (found_in_range selector scripts range) in
    let cases : (b : Bool) → IfSome (if b then Some [] else option_map (λ script. script.steps)
    (script_at selector scripts)) AreStepsInRange =
    λ b. elim b as (λ b. IfSome (if b then Some [] else option_map (λ script. script.steps)
    (script_at selector scripts)) AreStepsInRange) [
      | true ↦ tt
      | false ↦ rest
    ] in
    cases (selector == 0)

pub running_in_range : (selector : ℕ) (scripts : List Script) → AreScriptsInRange scripts
    → AreStepsInRange (running_steps selector scripts)
running_in_range selector scripts range =
    let of_some : (o : Option (List Step)) → IfSome o AreStepsInRange
    → AreStepsInRange (unwrap_or o []) =
    λ o. elim o as (λ o. IfSome o AreStepsInRange → AreStepsInRange (unwrap_or o []))
    [ None ↦ λ none. tt | Some steps ↦ λ some. some ] in
    of_some (steps_at selector scripts) (steps_in_range selector scripts range)

-- the number of samples for a duration in range is at most the cap
need_counted : (seconds : ℕ) → seconds < 4294967296 → need_of seconds ≤ cap
need_counted seconds small = grind (arith, small)

-- one more sample keeps rows counted alike
rows_alike : (settings : Settings) (now : Option ℕ) (value : ℕ) (xs ys : List Row)
    → AreInRange settings → AreCountedAlike xs ys
    → AreCountedAlike (row_of (limits_at settings now) value
    ∷ xs) (row_of (limits_at settings now) value ∷ ys)
rows_alike settings now value xs ys range alike =
    let row = row_of (limits_at settings now) value in
    record {
      over = row_counted OverThreshold row xs
          (λ _. need_counted settings.min_over_threshold_duration range.over)
          ∙ ap (count_after (is_past OverThreshold row) (need OverThreshold row)) alike.over
          ∙ sym (row_counted OverThreshold row ys
          (λ _. need_counted settings.min_over_threshold_duration range.over));
      under = row_counted UnderThreshold row xs
          (λ _. need_counted settings.min_under_threshold_duration range.under)
          ∙ ap (count_after (is_past UnderThreshold row) (need UnderThreshold row)) alike.under
          ∙ sym (row_counted UnderThreshold row ys
          (λ _. need_counted settings.min_under_threshold_duration range.under));
    }

fires_alike : (settings : Settings) (now : Option ℕ) (value : ℕ) (xs ys : List Row)
    → AreInRange settings → AreCountedAlike xs ys
    → fire_of (row_of (limits_at settings now) value ∷ xs)
    ≡ fire_of (row_of (limits_at settings now) value ∷ ys)
fires_alike settings now value xs ys range alike =
    let row = row_of (limits_at settings now) value in
    let fire : Count → Count → Fire = λ over under.
    if fires_at (is_past OverThreshold row) (need OverThreshold row) over then Over
    else if fires_at (is_past UnderThreshold row) (need UnderThreshold row) under then Under
    else Quiet in
    fire_counted row xs (λ _. need_counted settings.min_over_threshold_duration range.over)
    (λ _. need_counted settings.min_under_threshold_duration range.under)
    ∙ ap (λ (over : Count). fire over (count_of UnderThreshold xs)) alike.over
    ∙ ap (fire (count_of OverThreshold ys)) alike.under
    ∙ sym (fire_counted row ys (λ _. need_counted settings.min_over_threshold_duration range.over)
    (λ _. need_counted settings.min_under_threshold_duration range.under))

-- Worlds that agree, the first of them in range.
pub record AreAlike (v w : World) : Type 0 where
  pub world : Agree v w
  pub range : IsWorld v

same_scripts : (v w : World) → Agree v w → w.scripts ≡ v.scripts
same_scripts v w agree = ap (λ (u : World). u.scripts) agree.same

selected_alike : (selector : ℕ) (v w : World) → IsWorld v → Agree v w
    → AreAlike (at_script Local (running_steps selector v.scripts) v).world
    (at_script Local (running_steps selector w.scripts) w).world
selected_alike selector v w range agree =
    let after = script_alike Local (running_steps selector v.scripts) v w
    (running_in_range selector v.scripts range.scripts) range agree in
    let P : List Script → Type 0 = λ scripts.
    AreAlike (at_script Local (running_steps selector v.scripts) v).world
    (at_script Local (running_steps selector scripts) w).world in
    subst P (sym (same_scripts v w agree)) (record { world = after.world; range = after.range })

fire_alike : (fire : Fire) (actions : Actions) (v w : World) → IsWorld v → Agree v w
    → AreAlike (after_fire fire actions v) (after_fire fire actions w)
unfolding after_fire
fire_alike Quiet actions v w range agree = record { world = agree; range = range }
fire_alike Over actions v w range agree = selected_alike actions.over v w range agree
fire_alike Under actions v w range agree = selected_alike actions.under v w range agree

-- The effect of one sample on two worlds.
pub record AreMeasuredAlike (x : Measurement) (v w : World) : Type 0 where
  pub fire : fire_at x v ≡ fire_at x w
  pub after : AreAlike (after_sample x v) (after_sample x w)

sample_of_alike : (which : Which) (value : ℕ) (v : World) (rows others : List Row) → IsWorld v
    → AreCountedAlike v.import.rows rows
    → AreCountedAlike v.export.rows others → AreMeasuredAlike
    (record { which = which; value = value }) v (with_rows rows others v)
unfolding fire_at after_sample
sample_of_alike Import value v rows others range i e =
    let settings = v.import.settings in
    let taken_in : World = record v { import = with_sample v.moment value v.import } in
    let fires = fires_alike settings v.moment value v.import.rows rows range.import i in
    let taken_range : IsWorld taken_in = record {
      import = range.import;
      export = range.export;
      scripts = range.scripts;
    } in
    let agree : Agree taken_in (record (with_rows rows others v)
    { import = with_sample v.moment value (with_rows rows others v).import }) = record {
      same = refl;
      import = rows_alike settings v.moment value v.import.rows rows range.import i;
      export = e;
    } in
    let after = fire_alike (fire_of (row_of (limits_at settings v.moment) value ∷ v.import.rows))
    settings.actions taken_in _ taken_range agree in
    let P : Fire → Type 0 = λ fire. AreAlike (after_fire
    (fire_of (row_of (limits_at settings v.moment) value ∷ v.import.rows))
    settings.actions taken_in)
    (after_fire fire settings.actions (record (with_rows rows others v)
    { import = with_sample v.moment value (with_rows rows others v).import })) in
    record { fire = fires; after = subst P fires after }
sample_of_alike Export value v rows others range i e =
    let settings = v.export.settings in
    let taken_in : World = record v { export = with_sample v.moment value v.export } in
    let fires = fires_alike settings v.moment value v.export.rows others range.export e in
    let taken_range : IsWorld taken_in = record {
      import = range.import;
      export = range.export;
      scripts = range.scripts;
    } in
    let agree : Agree taken_in (record (with_rows rows others v)
    { export = with_sample v.moment value (with_rows rows others v).export }) = record {
      same = refl;
      import = i;
      export = rows_alike settings v.moment value v.export.rows others range.export e;
    } in
    let after = fire_alike (fire_of (row_of (limits_at settings v.moment) value ∷ v.export.rows))
    settings.actions taken_in _ taken_range agree in
    let P : Fire → Type 0 = λ fire. AreAlike (after_fire
    (fire_of (row_of (limits_at settings v.moment) value ∷ v.export.rows))
    settings.actions taken_in)
    (after_fire fire settings.actions (record (with_rows rows others v)
    { export = with_sample v.moment value (with_rows rows others v).export })) in
    record { fire = fires; after = subst P fires after }

-- The effect of several samples on two worlds.
pub record AreMetersAlike (a b : SamplingState) : Type 0 where
  pub firings : a.firings ≡ b.firings
  pub worlds : AreAlike a.world b.world

pub samples_alike : (xs : List Measurement) (a b : SamplingState) → AreMetersAlike a b
    → AreMetersAlike (after_samples xs a) (after_samples xs b)
unfolding after_samples sampling_after
samples_alike [] a b alike = alike
samples_alike (x ∷ xs) a b alike =
    let P : World → Type 0 = λ w. AreMeasuredAlike x a.world w in
    let one = of_rows P a.world b.world alike.worlds.world
    (λ rows others i e. sample_of_alike x.which x.value a.world rows others alike.worlds.range i
    e) in
    samples_alike xs (sampling_after x a) (sampling_after x b) (record {
      firings = ap (λ (fire : Fire). with_firing x.which fire a.firings) one.fire
          ∙ ap (with_firing x.which (fire_at x b.world)) alike.firings;
      worlds = one.after;
    })
