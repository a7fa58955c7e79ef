-- A core assembled from copies of a core's parts equals that core.
use Rattle.std.proofs.Common.{◌≡◌, ℕ, List, ap, sym, ◌∙◌, subst}
use Rattle.std.proofs.Props.{props}
use Rattle.limiter_core.specs.State.{State}
use Rattle.relay_core.specs.declared.relay.RelayCore.{RelayCore}
use Rattle.relay_core.specs.declared.schedules.Schedules.{Schedules}
use Rattle.relay_core.specs.World.{IsDeviceName}
use Rattle.script_steps.specs.declared.step.Script.{Script}

module _ (core : RelayCore) where
  -- both limiters have the same moment
  abbrev OneClock : State → State → Type 0
  OneClock import export = export.moment ≡ import.moment

  one_clock : (import export : State) → IsProp (OneClock import export)
  one_clock import export = hlevel props

  one_name : (device : List ℕ) → IsProp (IsDeviceName device)
  one_name device = hlevel props

  abbrev with_parts : (device : List ℕ) → IsDeviceName device → (import export : State)
      → OneClock import export → List Script → Schedules → RelayCore
  with_parts device named import export clock scripts schedules =
      record core {
        device = device;
        named = named;
        import = import;
        export = export;
        scripts = scripts;
        schedules = schedules;
        one_clock = clock;
      }

  pub copied : (device : List ℕ) (named : IsDeviceName device) (import export : State)
      (clock : OneClock import export) (scripts : List Script) (schedules : Schedules)
      → device ≡ core.device → import ≡ core.import → export ≡ core.export → scripts ≡ core.scripts
      → schedules ≡ core.schedules
      → with_parts device named import export clock scripts schedules ≡ core
  copied device named import export clock scripts schedules same_device same_import same_export
      same_scripts same_schedules =
      let D : List ℕ → Type 0 = λ name. (is_one : IsDeviceName name) →
      with_parts name is_one import export clock scripts schedules
      ≡ with_parts core.device core.named import export clock scripts schedules in
      let P : State → State → Type 0 = λ a b. (one : OneClock a b)
      → with_parts core.device core.named a b one core.scripts core.schedules ≡ core in
      let limiters : P import export = subst (λ (a : State). P a export) (sym same_import)
      (subst (P core.import) (sym same_export) (λ one.
      ap (λ (c : OneClock core.import core.export). with_parts core.device core.named core.import
      core.export c core.scripts core.schedules)
      (one_clock core.import core.export one core.one_clock))) in
      let name : D device = subst D (sym same_device) (λ is_one.
      ap (λ (n : IsDeviceName core.device). with_parts core.device n import export clock scripts
      schedules) (one_name core.device is_one core.named)) in
      name named
      ∙ (ap (λ (x : List Script). with_parts core.device core.named import export clock x schedules)
      same_scripts
      ∙ (ap (λ (x : Schedules). with_parts core.device core.named import export clock core.scripts
      x) same_schedules
      ∙ limiters clock))
