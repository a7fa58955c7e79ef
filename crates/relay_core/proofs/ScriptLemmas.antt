use Rattle.std.proofs.Common.{◌≡◌, ℕ, Option, Some, None, option_map, unwrap_or, ◌+◌, Bool, false, if◌then◌else◌, List, [], ◌∷◌, length, drop, refl, ap, sym, ◌∙◌, subst, arith}
use Rattle.std.proofs.lemmas.List.{drop_all}
use Rattle.cosem_names.specs.declared.result_code.ResultCode.{ResultCode}
use Rattle.cosem_names.specs.declared.result_code.ResultCode.TheVariants.{Success, HardwareFault, TemporaryFailure, ReadWriteDenied, ObjectUndefined, ObjectClassInconsistent, TypeUnmatched, ScopeOfAccessViolated, NoLongGetInProgress, NoLongSetInProgress, DataBlockNumberInvalid, OtherReason}
use Rattle.relay_core.specs.declared.relay.RelayCore.{RelayCore}
use Rattle.relay_core.specs.declared.scripts.Origin.{Origin}
use Rattle.relay_core.specs.Scripts.{at_step, at_script, is_success}
use Rattle.relay_core.specs.Stands.{StandsFor}
use Rattle.relay_core.specs.World.{World, Outcome}
use Rattle.script_steps.specs.declared.step.Script.{Script}
use Rattle.script_steps.specs.declared.step.Step.{Step}
use Rattle.script_steps.specs.Table.{steps_at, running_steps}

-- a result other than Success is not a success
pub not_success : (code : ResultCode) → (code ≡ Success → ⊥) → is_success code ≡ false
not_success Success other = absurd (other refl)
not_success HardwareFault other = refl
not_success TemporaryFailure other = refl
not_success ReadWriteDenied other = refl
not_success ObjectUndefined other = refl
not_success ObjectClassInconsistent other = refl
not_success TypeUnmatched other = refl
not_success ScopeOfAccessViolated other = refl
not_success NoLongGetInProgress other = refl
not_success NoLongSetInProgress other = refl
not_success DataBlockNumberInvalid other = refl
not_success OtherReason other = refl

-- a script continues after a step that succeeds
pub at_script-more : (origin : Origin) (step : Step) (steps : List Step) (v : World) → Success
    ≡ (at_step origin step v).code
    → at_script origin (step ∷ steps) v ≡ at_script origin steps (at_step origin step v).world
unfolding at_script
at_script-more origin step steps v code =
    let go : ResultCode → Outcome = λ c. if is_success c then at_script origin steps
    (at_step origin step v).world else at_step origin step v in
    sym (ap go code)

-- a script stops at a step that is refused
pub at_script-stops : (origin : Origin) (step : Step) (steps : List Step) (v : World)
    (code : ResultCode) → is_success code ≡ false
    → code ≡ (at_step origin step v).code → at_script origin (step ∷ steps) v
    ≡ at_step origin step v
unfolding at_script
at_script-stops origin step steps v code refused is =
    let go : Bool → Outcome = λ b. if b then at_script origin steps (at_step origin step v).world
    else at_step origin step v in
    ap go (ap is_success (sym is) ∙ refused)

-- a script without steps succeeds
pub at_script-none : (origin : Origin) (v : World) → at_script origin [] v
    ≡ record { world = v; code = Success }
unfolding at_script
at_script-none origin v = refl

-- A core from which the remaining steps end as the whole script does.
pub record Left (now : RelayCore) (origin : Origin) (steps : List Step) (outcome : Outcome) : Type
    0 where
  pub world : World
  pub stands : StandsFor now world
  pub same : at_script origin steps world ≡ outcome

-- A core during a script, before step i.
pub record Underway (old now : RelayCore) (origin : Origin) (selector i : ℕ) : Type 0 where
  pub scripts : now.scripts ≡ old.scripts
  pub schedules : now.schedules ≡ old.schedules
  pub so_far : (w : World) → StandsFor old w
      → Left now origin (drop i (running_steps selector old.scripts))
      (at_script origin (running_steps selector old.scripts) w)

-- A core after a script, and the script's result.
pub record Ended (old next : RelayCore) (origin : Origin) (selector : ℕ) (result : ResultCode) :
    Type 0 where
  pub world : (w : World) → StandsFor old w → StandsFor next
      (at_script origin (running_steps selector w.scripts) w).world
  pub code : (w : World) → StandsFor old w → result
      ≡ (at_script origin (running_steps selector w.scripts) w).code

-- before the first step
pub begun : (core : RelayCore) (origin : Origin) (selector : ℕ)
    → Underway core core origin selector 0
begun core origin selector = record {
  scripts = refl;
  schedules = refl;
  so_far = λ w stands. record { world = w; stands = stands; same = refl };
}

-- what remains before a step, with that step first
left_before : (old now : RelayCore) (origin : Origin) (selector i : ℕ) (step : Step)
    → drop i (running_steps selector now.scripts) ≡ step
    ∷ drop (i + 1) (running_steps selector now.scripts)
    → (under : Underway old now origin selector i) (w : World) → StandsFor old w
    → Left now origin (step ∷ drop (i + 1) (running_steps selector old.scripts))
    (at_script origin (running_steps selector old.scripts) w)
left_before old now origin selector i step rest under w stands =
    let front : List Script → Type 0 = λ scripts. drop i (running_steps selector scripts) ≡ step
    ∷ drop (i + 1) (running_steps selector scripts) in
    let P : List Step → Type 0 = λ steps. Left now origin steps
    (at_script origin (running_steps selector old.scripts) w) in
    subst P (subst front under.scripts rest) (under.so_far w stands)

-- after a step that succeeds
pub further : (old now next : RelayCore) (origin : Origin) (selector i : ℕ) (step : Step)
    → drop i (running_steps selector now.scripts) ≡ step
    ∷ drop (i + 1) (running_steps selector now.scripts)
    → ((w : World) → StandsFor now w → StandsFor next (at_step origin step w).world)
    → ((w : World) → StandsFor now w → Success ≡ (at_step origin step w).code)
    → next.scripts ≡ now.scripts
    → next.schedules ≡ now.schedules
    → Underway old now origin selector i
    → Underway old next origin selector (i + 1)
further old now next origin selector i step rest goes succeeds kept kept_too under = record {
  scripts = kept ∙ under.scripts;
  schedules = kept_too ∙ under.schedules;
  so_far = λ w stands.
      let left = left_before old now origin selector i step rest under w stands in
      record {
        world = (at_step origin step left.world).world;
        stands = goes left.world left.stands;
        same = sym (at_script-more origin step _ left.world (succeeds left.world left.stands))
            ∙ left.same;
      };
}

-- a claim about the old core's scripts holds for each world that the core represents
told_of_worlds : (old next : RelayCore) (origin : Origin) (selector : ℕ) (result : ResultCode)
    → ((w : World) → StandsFor old w → StandsFor next
    (at_script origin (running_steps selector old.scripts) w).world)
    → ((w : World) → StandsFor old w → result
    ≡ (at_script origin (running_steps selector old.scripts) w).code)
    → Ended old next origin selector result
told_of_worlds old next origin selector result world code = record {
  world = λ w stands.
      let P : List Script → Type 0 = λ scripts. StandsFor next
      (at_script origin (running_steps selector scripts) w).world in
      subst P stands.scripts (world w stands);
  code = λ w stands.
      let P : List Script → Type 0 = λ scripts. result
      ≡ (at_script origin (running_steps selector scripts) w).code in
      subst P stands.scripts (code w stands);
}

-- after a step that is refused
pub stopped : (old now next : RelayCore) (origin : Origin) (selector i : ℕ) (step : Step)
    (refused : ResultCode)
    → drop i (running_steps selector now.scripts) ≡ step
    ∷ drop (i + 1) (running_steps selector now.scripts)
    → ((w : World) → StandsFor now w → StandsFor next (at_step origin step w).world)
    → ((w : World) → StandsFor now w → refused ≡ (at_step origin step w).code)
    → is_success refused ≡ false
    → Underway old now origin selector i
    → Ended old next origin selector refused
stopped old now next origin selector i step refused rest goes answers fails under =
    told_of_worlds old next origin selector refused
    (λ w stands.
    let left = left_before old now origin selector i step rest under w stands in
    let is = sym (at_script-stops origin step _ left.world refused fails
    (answers left.world left.stands)) ∙ left.same in
    let P : Outcome → Type 0 = λ o. StandsFor next o.world in
    subst P is (goes left.world left.stands))
    (λ w stands.
    let left = left_before old now origin selector i step rest under w stands in
    let is = sym (at_script-stops origin step _ left.world refused fails
    (answers left.world left.stands)) ∙ left.same in
    let P : Outcome → Type 0 = λ o. refused ≡ o.code in
    subst P is (answers left.world left.stands))

-- after the last step
pub finished : (old now : RelayCore) (origin : Origin) (selector i : ℕ)
    → length (running_steps selector now.scripts) ≡ i
    → Underway old now origin selector i
    → Ended old now origin selector Success
finished old now origin selector i counted under =
    let none : List Script → Type 0 = λ scripts. drop i (running_steps selector scripts) ≡ [] in
    let steps = running_steps selector now.scripts in
    let all : drop i steps ≡ [] = drop_all i steps (omega (arith, counted)) in
    let last : drop i (running_steps selector old.scripts) ≡ [] = subst none under.scripts all in
    told_of_worlds old now origin selector Success
    (λ w stands.
    let left = under.so_far w stands in
    let is = sym (ap (λ (rest : List Step). at_script origin rest left.world) last
    ∙ at_script-none origin left.world) ∙ left.same in
    let P : Outcome → Type 0 = λ o. StandsFor now o.world in
    subst P is left.stands)
    (λ w stands.
    let left = under.so_far w stands in
    let is = sym (ap (λ (rest : List Step). at_script origin rest left.world) last
    ∙ at_script-none origin left.world) ∙ left.same in
    let P : Outcome → Type 0 = λ o. Success ≡ o.code in
    subst P is refl)

-- a selector without a script has no steps
pub no_script : (origin : Origin) (selector : ℕ) (scripts : List Script) (w : World) → None
    ≡ option_map length (steps_at selector scripts)
    → at_script origin (running_steps selector scripts) w ≡ record { world = w; code = Success }
no_script origin selector scripts w none =
    let P : Option (List Step) → Type 0 = λ found.
    None ≡ option_map length found → at_script origin (unwrap_or found []) w
    ≡ record { world = w; code = Success } in
    let cases : (found : Option (List Step)) → P found = λ found. elim found as P
    [ None ↦ λ _. at_script-none origin w | Some steps ↦ λ other. absurd (cc) ] in
    cases (steps_at selector scripts) none
