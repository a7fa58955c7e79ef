use Rattle.std.proofs.Common.{◌≡◌, ℕ, Bool, true, false, nat_lt, ◌==◌, if◌then◌else◌, List, [], ◌∷◌, Option, Some, None, option_and_then, Result, Ok, Err, IfOk, IfSome, refl, ap, sym, ◌∙◌, subst}
use Rattle.action_schedule.specs.Attributes.{attribute_numbered as schedule_attribute}
use Rattle.action_schedule.specs.Fitting.{is_due}
use Rattle.action_schedule.specs.Reading.{entries_of}
use Rattle.action_schedule.specs.Schedule.{Schedule as ScheduleState}
use Rattle.cosem_axdr.specs.declared.value.Data.{Data}
use Rattle.cosem_axdr.specs.declared.value.Data.TheVariants.{OctetString}
use Rattle.cosem_axdr.specs.Forms.{long_unsigned_of}
use Rattle.cosem_datetime.specs.declared.entry.EntryPattern.{EntryPattern}
use Rattle.cosem_names.specs.declared.level.Level.{Level}
use Rattle.cosem_names.specs.declared.name.AttrRef.{AttrRef}
use Rattle.cosem_names.specs.declared.objects.Instance.{Instance}
use Rattle.cosem_names.specs.declared.objects.Instance.TheVariants.{Association, DeviceName, Register, ScriptTable, Schedule, DisconnectControl, Limiter}
use Rattle.cosem_names.specs.declared.objects.ScheduleNumber.{ScheduleNumber}
use Rattle.cosem_names.specs.declared.objects.Which.{Which}
use Rattle.cosem_names.specs.declared.objects.Which.TheVariants.{Import, Export}
use Rattle.cosem_names.specs.declared.result_code.ResultCode.{ResultCode}
use Rattle.cosem_names.specs.declared.service.AttributeSelection.{AttributeSelection}
use Rattle.cosem_names.specs.declared.service.GetResult.{GetResult}
use Rattle.cosem_names.specs.declared.service.GetResult.TheVariants as result
use Rattle.cosem_names.specs.Objects.{rights_of, may_execute_of}
use Rattle.disconnect_control.specs.Attributes.{attribute_numbered as control_attribute, mode_form}
use Rattle.disconnect_control.specs.declared.attribute.ControlAttribute.{ControlAttribute}
use Rattle.disconnect_control.specs.declared.attribute.ControlAttribute.TheVariants as control
use Rattle.disconnect_control.specs.declared.state.ControlMode.{ControlMode}
use Rattle.disconnect_control.specs.declared.state.Trigger.{Trigger}
use Rattle.disconnect_control.specs.declared.state.Trigger.TheVariants.{ManualDisconnect, ManualReconnect}
use Rattle.disconnect_control.specs.declared.state.ControlState.TheVariants.{Connected}
use Rattle.disconnect_control.specs.Transitions.{is_state}
use Rattle.disconnect_control.specs.Control.{Control}
use Rattle.limiter_attributes.specs.declared.attribute.LimiterAttribute.{LimiterAttribute}
use Rattle.cosem_names.specs.declared.write_fault.WriteFault.{WriteFault}
use Rattle.limiter_attributes.specs.declared.setting.Setting.{Setting}
use Rattle.limiter_attributes.specs.Attributes.{attribute_numbered}
use Rattle.limiter_attributes.specs.Reading.{groups_of}
use Rattle.limiter_core.specs.Rows.{Row}
use Rattle.relay_events.specs.declared.event.Event.{Event}
use Rattle.relay_events.specs.declared.event.Event.TheVariants as event
use Rattle.relay_events.specs.declared.reply.Reply.TheVariants as reply
use Rattle.relay_core.specs.declared.scripts.Origin.TheVariants.{Remote}
use Rattle.relay_core.specs.Access.{target_of}
use Rattle.relay_core.specs.Acting.{switch_trigger, at_optional_trigger, at_optional_script, at_optional_selector, at_execution, at_method, execute_at, at_execute, at_button}
use Rattle.relay_core.specs.Agreeing.{with_rows, Agree, IsSettingInRange, IsWorld, GoAlike}
use Rattle.script_steps.specs.Ranges.{AreStepsInRange, AreScriptsInRange}
use Rattle.relay_core.specs.Clock.{with_moment, after_schedule, after_schedules, clock_step, moment_after, at_moment}
use Rattle.relay_core.specs.declared.parts.WrittenList.{WrittenList}
use Rattle.relay_core.specs.declared.parts.WrittenList.TheVariants as written
use Rattle.relay_core.specs.Moving.{list_numbered, scripts_part, entries_part, groups_part, list_read}
use Rattle.relay_core.specs.Machine.{reply_of, step_of, at_event}
use Rattle.relay_core.specs.Reading.{own_value_in, value_in, read_at, get_result, get_results}
use Rattle.relay_core.specs.Sampling.{measurements, no_firings, reply_of_firings, at_samples}
use Rattle.relay_core.specs.Schedules.{all_schedules}
use Rattle.relay_core.specs.Scripts.{at_script}
use Rattle.relay_core.specs.Switch.{at_trigger}
use Rattle.relay_core.specs.World.{World, Outcome}
use Rattle.relay_core.specs.Writing.{outcome_of_refusal, at_mode_form, at_control, at_setting_form, at_limiter, at_schedule, at_list, at_plain, at_attribute, at_write, write_at, at_set}
use Rattle.relay_core.proofs.InRange.{value_in_range}
use Rattle.relay_core.proofs.Agreeing.{Alike, AreAlike, of_rows, trigger_alike, mode_alike, setting_alike, script_alike, steps_in_range, running_in_range, samples_alike, either_alike}
use Rattle.script_steps.specs.declared.step.Script.{Script}
use Rattle.script_steps.specs.declared.step.Step.{Step}
use Rattle.script_steps.specs.Reading.{table_of}
use Rattle.script_steps.specs.Table.{steps_at, running_steps}

-- a call that changes nothing, in agreeing worlds
refused_alike : (code : ResultCode) (v w : World) → IsWorld v → Agree v w
    → Alike (outcome_of_refusal code v) (outcome_of_refusal code w)
refused_alike code v w range agree = record { code = refl; world = agree; range = range }

-- reads of agreeing worlds give equal results
own_value_alike : (level : Level) (instance : Instance) (number : ℕ) (v : World)
    (rows others : List Row)
    → own_value_in level instance number v ≡ own_value_in level instance number
    (with_rows rows others v)
own_value_alike level Association number v rows others = refl
own_value_alike level DeviceName number v rows others = refl
own_value_alike level (Register Import) number v rows others = refl
own_value_alike level (Register Export) number v rows others = refl
own_value_alike level ScriptTable number v rows others = refl
own_value_alike level (Schedule which) number v rows others = refl
own_value_alike level DisconnectControl number v rows others = refl
own_value_alike level (Limiter Import) number v rows others = refl
own_value_alike level (Limiter Export) number v rows others = refl

read_alike : (level : Level) (target : Result Instance ResultCode) (attr : AttrRef) (v : World)
    (rows others : List Row)
    → read_at level target attr v ≡ read_at level target attr (with_rows rows others v)
unfolding value_in
read_alike level (Err refusal) attr v rows others = refl
read_alike level (Ok instance) attr v rows others =
    let here : GetResult → GetResult = λ own. if attr.number == 1 then result.Value
    (OctetString attr.name.0) else own in
    ap here (own_value_alike level instance attr.number v rows others)

get_alike : (level : Level) (attr : AttrRef) (selected : Bool) (v w : World) → Agree v w
    → get_result level attr selected v ≡ get_result level attr selected w
unfolding get_result
get_alike level attr selected v w agree = of_rows (λ w. get_result level attr selected v
    ≡ get_result level attr selected w) v w agree
    (λ rows others i e. read_alike level (target_of attr.name attr.class (rights_of level attr).read
    selected) attr v rows others)

gets_alike : (level : Level) (items : List AttributeSelection) (v w : World) → Agree v w
    → get_results level items v ≡ get_results level items w
gets_alike level [] v w agree = refl
gets_alike level (item ∷ items) v w agree =
    ap (λ (one : GetResult). one ∷ get_results level items v)
    (get_alike level item.attr item.selected v w agree)
    ∙ ap (λ (rest : List GetResult). get_result level item.attr item.selected w ∷ rest)
    (gets_alike level items v w agree)

-- writes to agreeing worlds
setting_form_alike : (which : Which) (read : Result (Option Setting) WriteFault) (v w : World)
    → IfOk read (λ setting. IfSome setting IsSettingInRange) → IsWorld v → Agree v w
    → Alike (at_setting_form which read v) (at_setting_form which read w)
setting_form_alike which (Err fault) v w small range agree = refused_alike _ v w range agree
setting_form_alike which (Ok None) v w small range agree = refused_alike _ v w range agree
setting_form_alike which (Ok (Some one)) v w small range agree =
    setting_alike which one v w small range agree

groups_alike : (which : Which) (ids : List ℕ) (v w : World) → IsWorld v → Agree v w
    → Alike (at_list (written.Groups which) (groups_part (Ok ids)) v)
    (at_list (written.Groups which) (groups_part (Ok ids)) w)
groups_alike Import ids v w range agree = of_rows
    (λ w. Alike (at_list (written.Groups Import) (groups_part (Ok ids)) v)
    (at_list (written.Groups Import) (groups_part (Ok ids)) w)) v w agree
    (λ rows others i e. record {
      code = refl;
      world = record { same = refl; import = i; export = e };
      range = record {
        import = record { over = range.import.over; under = range.import.under };
        export = range.export;
        scripts = range.scripts;
      };
    })
groups_alike Export ids v w range agree = of_rows
    (λ w. Alike (at_list (written.Groups Export) (groups_part (Ok ids)) v)
    (at_list (written.Groups Export) (groups_part (Ok ids)) w)) v w agree
    (λ rows others i e. record {
      code = refl;
      world = record { same = refl; import = i; export = e };
      range = record {
        import = range.import;
        export = record { over = range.export.over; under = range.export.under };
        scripts =
            range.scripts;
      };
    })

group_ids_alike : (which : Which) (read : Result (List ℕ) WriteFault) (v w : World)
    → IsWorld v → Agree v w
    → Alike (at_list (written.Groups which) (groups_part read) v)
    (at_list (written.Groups which) (groups_part read) w)
group_ids_alike which (Err fault) v w range agree = refused_alike _ v w range agree
group_ids_alike which (Ok ids) v w range agree = groups_alike which ids v w range agree

limiter_alike : (which : Which) (found : Option LimiterAttribute) (value : Data) (v w : World)
    → IsWorld v → Agree v w
    → Alike (at_limiter which found value v) (at_limiter which found value w)
limiter_alike which None value v w range agree = refused_alike _ v w range agree
limiter_alike which (Some attribute) value v w range agree =
    setting_form_alike which _ v w ((value_in_range value).setting attribute) range agree

mode_form_alike : (read : Result ControlMode WriteFault) (v w : World) → IsWorld v → Agree v w
    → Alike (at_mode_form read v) (at_mode_form read w)
mode_form_alike (Err fault) v w range agree = refused_alike _ v w range agree
mode_form_alike (Ok mode) v w range agree = mode_alike mode v w range agree

control_alike : (found : Option ControlAttribute) (value : Data) (v w : World) → IsWorld v
    → Agree v w → Alike (at_control found value v) (at_control found value w)
control_alike None value v w range agree = refused_alike _ v w range agree
control_alike (Some control.OutputState) value v w range agree = refused_alike _ v w range agree
control_alike (Some control.ControlState) value v w range agree = refused_alike _ v w range agree
control_alike (Some control.ControlMode) value v w range agree =
    mode_form_alike (mode_form value) v w range agree

plain_alike : (instance : Instance) (number : ℕ) (value : Data) (v w : World)
    → IsWorld v → Agree v w
    → Alike (at_plain instance number value v) (at_plain instance number value w)
unfolding at_schedule
plain_alike Association number value v w range agree = refused_alike _ v w range agree
plain_alike DeviceName number value v w range agree = refused_alike _ v w range agree
plain_alike (Register which) number value v w range agree = refused_alike _ v w range agree
plain_alike ScriptTable number value v w range agree = refused_alike _ v w range agree
plain_alike (Schedule which) number value v w range agree =
    let at : World → Outcome = at_schedule which (schedule_attribute number) value in
    of_rows (λ w. Alike (at v) (at w)) v w agree
    (λ rows others i e. record {
      code = refl;
      world = record { same = refl; import = i; export = e };
      range = record { import = range.import; export = range.export; scripts = range.scripts };
    })
plain_alike DisconnectControl number value v w range agree =
    control_alike (control_attribute number) value v w range agree
plain_alike (Limiter which) number value v w range agree =
    limiter_alike which (attribute_numbered number) value v w range agree

scripts_alike : (read : Result (List Script) WriteFault) (v w : World) → IfOk read AreScriptsInRange
    → IsWorld v → Agree v w
    → Alike (at_list written.Scripts (scripts_part read) v)
    (at_list written.Scripts (scripts_part read) w)
scripts_alike (Err fault) v w small range agree = refused_alike _ v w range agree
scripts_alike (Ok scripts) v w small range agree =
    let at : World → Outcome = at_list written.Scripts (scripts_part (Ok scripts)) in
    of_rows (λ w. Alike (at v) (at w)) v w agree
    (λ rows others i e. record {
      code = refl;
      world = record { same = refl; import = i; export = e };
      range = record { import = range.import; export = range.export; scripts = small };
    })

entries_alike : (which : ScheduleNumber) (read : Result (List EntryPattern) WriteFault)
    (v w : World) → IsWorld v → Agree v w
    → Alike (at_list (written.Entries which) (entries_part read) v)
    (at_list (written.Entries which) (entries_part read) w)
entries_alike which (Err fault) v w range agree = refused_alike _ v w range agree
entries_alike which (Ok entries) v w range agree =
    let at : World → Outcome = at_list (written.Entries which) (entries_part (Ok entries)) in
    of_rows (λ w. Alike (at v) (at w)) v w agree
    (λ rows others i e. record {
      code = refl;
      world = record { same = refl; import = i; export = e };
      range = record { import = range.import; export = range.export; scripts = range.scripts };
    })

list_alike : (list : WrittenList) (value : Data) (v w : World) → IsWorld v → Agree v w
    → Alike (at_list list (list_read list value) v) (at_list list (list_read list value) w)
list_alike written.Scripts value v w range agree =
    scripts_alike (table_of value) v w (value_in_range value).scripts range agree
list_alike (written.Entries which) value v w range agree =
    entries_alike which (entries_of value) v w range agree
list_alike (written.Groups which) value v w range agree =
    group_ids_alike which (groups_of value) v w range agree

attribute_alike : (list : Option WrittenList) (instance : Instance) (number : ℕ) (value : Data)
    (v w : World) → IsWorld v → Agree v w
    → Alike (at_attribute list instance number value v) (at_attribute list instance number value w)
attribute_alike None instance number value v w range agree =
    plain_alike instance number value v w range agree
attribute_alike (Some list) instance number value v w range agree =
    list_alike list value v w range agree

write_alike : (instance : Instance) (number : ℕ) (value : Data) (v w : World)
    → IsWorld v → Agree v w
    → Alike (at_write instance number value v) (at_write instance number value w)
unfolding at_write
write_alike instance number value v w range agree =
    attribute_alike (list_numbered instance number) instance number value v w range agree

write_at_alike : (target : Result Instance ResultCode) (number : ℕ) (value : Data) (v w : World)
    → IsWorld v → Agree v w
    → Alike (write_at target number value v) (write_at target number value w)
write_at_alike (Err refusal) number value v w range agree = refused_alike _ v w range agree
write_at_alike (Ok instance) number value v w range agree =
    write_alike instance number value v w range agree

-- methods executed in agreeing worlds
pulled_alike : (found : Option Trigger) (v w : World) → IsWorld v → Agree v w
    → Alike (at_optional_trigger found v) (at_optional_trigger found w)
pulled_alike None v w range agree = refused_alike _ v w range agree
pulled_alike (Some trigger) v w range agree = trigger_alike trigger v w range agree

found_alike : (found : Option (List Step)) (v w : World) → IfSome found AreStepsInRange → IsWorld v
    → Agree v w → Alike (at_optional_script found v) (at_optional_script found w)
found_alike None v w small range agree = refused_alike _ v w range agree
found_alike (Some steps) v w small range agree = script_alike Remote steps v w small range agree

selected_alike : (selector : Option ℕ) (v w : World) → IsWorld v → Agree v w
    → Alike (at_optional_selector selector v) (at_optional_selector selector w)
selected_alike None v w range agree = refused_alike _ v w range agree
selected_alike (Some selector) v w range agree =
    let P : List Script → Type 0 = λ scripts. Alike
    (at_optional_script (steps_at selector v.scripts) v)
    (at_optional_script (steps_at selector scripts) w) in
    let scripts : w.scripts ≡ v.scripts = ap (λ (u : World). u.scripts) agree.same in
    subst P (sym scripts) (found_alike (steps_at selector v.scripts) v w
    (steps_in_range selector v.scripts range.scripts) range agree)

method_alike : (instance : Instance) (number : ℕ) (parameter : Option Data) (v w : World)
    → IsWorld v → Agree v w
    → Alike (at_method instance number parameter v) (at_method instance number parameter w)
unfolding at_method at_execution
method_alike Association number parameter v w range agree = refused_alike _ v w range agree
method_alike DeviceName number parameter v w range agree = refused_alike _ v w range agree
method_alike (Register which) number parameter v w range agree = refused_alike _ v w range agree
method_alike ScriptTable number parameter v w range agree =
    either_alike (number == 1) (number == 1) _ _ _ _ refl
    (selected_alike (option_and_then long_unsigned_of parameter) v w range agree)
    (refused_alike _ v w range agree)
method_alike (Schedule which) number parameter v w range agree = refused_alike _ v w range agree
method_alike DisconnectControl number parameter v w range agree =
    pulled_alike (switch_trigger number) v w range agree
method_alike (Limiter which) number parameter v w range agree = refused_alike _ v w range agree

execute_at_alike : (target : Result Instance ResultCode) (number : ℕ) (parameter : Option Data)
    (v w : World) → IsWorld v → Agree v w
    → Alike (execute_at target number parameter v) (execute_at target number parameter w)
execute_at_alike (Err refusal) number parameter v w range agree = refused_alike _ v w range agree
execute_at_alike (Ok instance) number parameter v w range agree =
    method_alike instance number parameter v w range agree

button_alike : (v w : World) → IsWorld v → Agree v w → Alike (at_button v) (at_button w)
unfolding at_button
button_alike v w range agree =
    let trigger : Control → Trigger = λ control. if is_state control.state Connected
    then ManualDisconnect else ManualReconnect in
    let P : Control → Type 0 = λ control. Alike (at_trigger (trigger v.control) v)
    (at_trigger (trigger control) w) in
    let control : w.control ≡ v.control = ap (λ (u : World). u.control) agree.same in
    subst P (sym control) (trigger_alike (trigger v.control) v w range agree)

-- a moment of the clock in agreeing worlds
schedule_alike : (last now : ℕ) (schedule : ScheduleState) (v w : World) → IsWorld v → Agree v w
    → AreAlike (after_schedule last now schedule v) (after_schedule last now schedule w)
unfolding after_schedule
schedule_alike last now schedule v w range agree =
    let scripts : w.scripts ≡ v.scripts = ap (λ (u : World). u.scripts) agree.same in
    let P : List Script → Type 0 = λ scripts. AreAlike
    (at_script Remote (running_steps schedule.selector v.scripts) v).world
    (at_script Remote (running_steps schedule.selector scripts) w).world in
    let after = script_alike Remote (running_steps schedule.selector v.scripts) v w
    (running_in_range schedule.selector v.scripts range.scripts) range agree in
    let due : AreAlike (at_script Remote (running_steps schedule.selector v.scripts) v).world
    (at_script Remote (running_steps schedule.selector w.scripts) w).world =
    subst P (sym scripts) (record { world = after.world; range = after.range }) in
    let cases : (b : Bool) → AreAlike (if b then (at_script Remote
    (running_steps schedule.selector v.scripts) v).world else v)
    (if b then (at_script Remote (running_steps schedule.selector w.scripts) w).world else w) =
    λ b. elim b as (λ b. AreAlike (if b then (at_script Remote
    (running_steps schedule.selector v.scripts) v).world else v)
    (if b then (at_script Remote (running_steps schedule.selector w.scripts) w).world else w)) [
      | true ↦ due
      | false ↦ record { world = agree; range = range }
    ] in
    cases (is_due schedule last now)

schedules_alike : (last now : ℕ) (schedules : List ScheduleState) (v w : World)
    → IsWorld v → Agree v w
    → AreAlike (after_schedules last now schedules v) (after_schedules last now schedules w)
schedules_alike last now [] v w range agree = record { world = agree; range = range }
schedules_alike last now (schedule ∷ schedules) v w range agree =
    let one = schedule_alike last now schedule v w range agree in
    schedules_alike last now schedules (after_schedule last now schedule v)
    (after_schedule last now schedule w) one.range one.world

clock_alike : (now : ℕ) (v w : World) → IsWorld v → Agree v w
    → AreAlike (with_moment now v) (with_moment now w)
clock_alike now v w range agree = record {
  world = record {
    same = ap (with_moment now) agree.same;
    import = agree.import;
    export = agree.export;
  };
  range = record { import = range.import; export = range.export; scripts = range.scripts };
}

ran_alike : (last now : ℕ) (v w : World) → IsWorld v → Agree v w
    → GoAlike (clock_step last now v) (clock_step last now w)
ran_alike last now v w range agree = of_rows (λ w. GoAlike (clock_step last now v)
    (clock_step last now w)) v w agree
    (λ rows others i e.
    let after = schedules_alike last now (all_schedules v.schedules) v (with_rows rows others v)
    range (record { same = refl; import = i; export = e }) in
    record { reply = refl; world = after.world; range = after.range })

moment_alike : (before : Option ℕ) (now : ℕ) (v w : World) → IsWorld v → Agree v w
    → GoAlike (moment_after before now v) (moment_after before now w)
moment_alike None now v w range agree =
    let after = clock_alike now v w range agree in
    record { reply = refl; world = after.world; range = after.range }
moment_alike (Some last) now v w range agree =
    let clock = clock_alike now v w range agree in
    let P : Bool → Bool → Type 0 = λ early same. GoAlike
    (if early then record { world = v; reply = reply.Stale last } else if same then record
    { world = v; reply = reply.Ran 0 } else clock_step last now (with_moment now v))
    (if early then record { world = w; reply = reply.Stale last } else if same then record
    { world = w; reply = reply.Ran 0 } else clock_step last now (with_moment now w)) in
    let cases : (early same : Bool) → P early same =
    λ early same. elim early as (λ early. P early same) [
      | true ↦ record { reply = refl; world = agree; range = range }
      | false ↦ elim same as (P false) [
        | true ↦ record { reply = refl; world = agree; range = range }
        | false ↦ ran_alike last now (with_moment now v) (with_moment now w) clock.range clock.world
      ]
    ] in
    cases (nat_lt now last) (now == last)

-- calls that are alike are steps that are alike
outcome_alike : (a b : Outcome) → Alike a b → GoAlike (step_of a) (step_of b)
outcome_alike a b alike = record {
  reply = ap reply.Code alike.code;
  world = alike.world;
  range = alike.range;
}

-- every event, in agreeing worlds
pub event_alike : (one : Event) (v w : World) → IsWorld v → Agree v w
    → GoAlike (at_event one v) (at_event one w)
unfolding at_event at_set at_execute at_samples at_moment
event_alike (event.Get level attr selected) v w range agree =
    record {
      reply = ap reply_of (get_alike level attr selected v w agree);
      world = agree;
      range = range;
    }
event_alike (event.GetList level items) v w range agree =
    record {
      reply = ap reply.Values (gets_alike level items v w agree);
      world = agree;
      range = range;
    }
event_alike (event.Set level attr selected value) v w range agree =
    outcome_alike _ _ (write_at_alike (target_of attr.name attr.class (rights_of level attr).write
    selected) attr.number value v w range agree)
event_alike (event.Execute level method parameter) v w range agree =
    outcome_alike _ _ (execute_at_alike (target_of method.name method.class
    (may_execute_of level method) false) method.number parameter v w range agree)
event_alike event.Button v w range agree = outcome_alike _ _ (button_alike v w range agree)
event_alike (event.Samples block) v w range agree =
    let after = samples_alike (measurements block) (record { world = v; firings = no_firings })
    (record { world = w; firings = no_firings })
    (record { firings = refl; worlds = record { world = agree; range = range } }) in
    record {
      reply = ap (reply_of_firings block.export) after.firings;
      world = after.worlds.world;
      range = after.worlds.range;
    }
event_alike (event.Moment now) v w range agree =
    let P : Option ℕ → Type 0 = λ before. GoAlike (moment_after v.moment now v)
    (moment_after before now w) in
    let moment : w.moment ≡ v.moment = ap (λ (u : World). u.moment) agree.same in
    subst P (sym moment) (moment_alike v.moment now v w range agree)
