-- Why there is no plan.
use Rattle.std.proofs.Common.{◌≡◌, ◌⊎◌, ◌<◌, ℕ, Bool, true, List, length, Option, Result, Ok, Err, IfErr, IsErrAnd, sym, subst, ◌∙◌, ⊎_elim}
use Rattle.acse_ber.specs.Password.{IsPassword}
use Rattle.relay_core.specs.World.{IsDeviceName}
use Rattle.server_commands.specs.Heads.{IsHeadFault}
use Rattle.relay_recorder.specs.Recording.{IsCapacity}
use Rattle.server_commands.specs.Plans.{IsPlanFault, IsRecorderFault}
use Rattle.server_commands.specs.declared.options.Bounds.{Bounds}
use Rattle.server_commands.specs.declared.plan_fault.PlanFault.{PlanFault}
use Rattle.server_commands.specs.declared.plan_fault.PlanFault.TheVariants as fault

head_fault : (bounds : Bounds) (left : Option (List ℕ)) (failed : Bool) (f : PlanFault)
    → IsCapacity bounds.depth → bounds.resumes ≡ true → IsHeadFault left failed f
    → IsRecorderFault bounds left failed f
head_fault bounds left failed fault.Password depth resumes told = absurd told
head_fault bounds left failed fault.Device depth resumes told = absurd told
head_fault bounds left failed fault.Depth depth resumes told = absurd told
head_fault bounds left failed (fault.Line number) depth resumes told = (depth, resumes, told)
head_fault bounds left failed fault.Journal depth resumes told = (depth, resumes, told)
head_fault bounds left failed fault.TooLong depth resumes told = (depth, resumes, told)
head_fault bounds left failed fault.Read depth resumes told = (depth, resumes, told)
head_fault bounds left failed fault.Memory depth resumes told = tt

-- the fault of a head is that of the recorder
pub no_recorder : {X : Type 0} (result : Result X PlanFault) (bounds : Bounds)
    (left : Option (List ℕ)) (failed : Bool) → IsCapacity bounds.depth → bounds.resumes ≡ true
    → IfErr result (IsHeadFault left failed) → IfErr result (IsRecorderFault bounds left failed)
no_recorder (Ok x) bounds left failed depth resumes told = tt
no_recorder (Err f) bounds left failed depth resumes told =
    head_fault bounds left failed f depth resumes told

recorder_fault : (password device : List ℕ) (bounds : Bounds) (left : Option (List ℕ))
    (failed : Bool) (f : PlanFault) → IsPassword password → IsDeviceName device
    → IsRecorderFault bounds left failed f → IsPlanFault password device bounds left f
recorder_fault password device bounds left failed fault.Password fits named told = absurd told.2
recorder_fault password device bounds left failed fault.Device fits named told = absurd told.2
recorder_fault password device bounds left failed fault.Depth fits named told =
    (fits, named, (failed, told))
recorder_fault password device bounds left failed (fault.Line number) fits named told =
    (fits, named, (failed, told))
recorder_fault password device bounds left failed fault.Journal fits named told =
    (fits, named, (failed, told))
recorder_fault password device bounds left failed fault.TooLong fits named told =
    (fits, named, (failed, told))
recorder_fault password device bounds left failed fault.Read fits named told =
    (fits, named, (failed, told))
recorder_fault password device bounds left failed fault.Memory fits named told = tt

-- the fault of a recorder is that of the plan
pub no_plan : (octets name password device : List ℕ) (bounds : Bounds) (now left : Option (List ℕ))
    (failed : Bool) (f : PlanFault) → octets ≡ password → name ≡ device → now ≡ left
    → IsPassword octets → IsDeviceName name → IsRecorderFault bounds now failed f
    → IsPlanFault password device bounds left f
no_plan octets name password device bounds now left failed f same same_name same_left fits named
    told = recorder_fault password device bounds left failed f (subst IsPassword same fits)
    (subst IsDeviceName same_name named)
    (subst (λ (l : Option (List ℕ)). IsRecorderFault bounds l failed f) same_left told)

-- the fault of the password
pub wrong_password : {X : Type 0} (result : Result X PlanFault) (given : PlanFault)
    (text password device : List ℕ) (bounds : Bounds) (left : Option (List ℕ))
    → IsErrAnd result (λ f. f ≡ given) → text ≡ password
    → (given ≡ fault.Memory) ⊎ ((given ≡ fault.Password)
    × ((length text ≡ 0) ⊎ (32 < length text)))
    → IfErr result (IsPlanFault password device bounds left)
wrong_password (Ok x) given text password device bounds left is same told = tt
wrong_password (Err f) given text password device bounds left is same told = ⊎_elim
    (λ (memory : given ≡ fault.Memory). subst (IsPlanFault password device bounds left)
    (sym (is ∙ memory)) tt)
    (λ (wrong : (given ≡ fault.Password) × ((length text ≡ 0) ⊎ (32 < length text))).
    subst (IsPlanFault password device bounds left) (sym (is ∙ wrong.0))
    (subst (λ (t : List ℕ). (length t ≡ 0) ⊎ (32 < length t)) same wrong.1))
    told

-- the fault of the device name
pub wrong_device : {X : Type 0} (result : Result X PlanFault) (given : PlanFault)
    (octets text password device : List ℕ) (bounds : Bounds) (left : Option (List ℕ))
    → IsErrAnd result (λ f. f ≡ given) → octets ≡ password → text ≡ device → IsPassword octets
    → (given ≡ fault.Memory) ⊎ ((given ≡ fault.Device)
    × ((length text ≡ 0) ⊎ (16 < length text)))
    → IfErr result (IsPlanFault password device bounds left)
wrong_device (Ok x) given octets text password device bounds left is fit same fits told = tt
wrong_device (Err f) given octets text password device bounds left is fit same fits told = ⊎_elim
    (λ (memory : given ≡ fault.Memory). subst (IsPlanFault password device bounds left)
    (sym (is ∙ memory)) tt)
    (λ (wrong : (given ≡ fault.Device) × ((length text ≡ 0) ⊎ (16 < length text))).
    subst (IsPlanFault password device bounds left) (sym (is ∙ wrong.0)) (
      subst IsPassword fit fits,
      subst (λ (t : List ℕ). (length t ≡ 0) ⊎ (16 < length t)) same wrong.1,
    ))
    told
