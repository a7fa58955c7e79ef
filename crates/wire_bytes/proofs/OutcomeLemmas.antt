-- What follows from the result of a definition that reads bytes.
use Rattle.std.proofs.Common.{◌≡◌, ◌⊎◌, Bool, true, false, cond, Result, Ok, Err, IfOk, MatchResult}
use Rattle.std.proofs.Common.{refl, inl, inr}
use Rattle.wire_bytes.specs.Outcome.{◌>>=◌, ◌>>◌, guard, Fails, Gives}

-- an `Ok` whose type of faults is given
abbrev pub done : {A : Type 0} (F : Type 0) → A → Result A F
done F x = Ok x

-- two equal results have the same value
pub ok_is : {A F : Type 0} (x y : A) → done F x ≡ done F y → x ≡ y
ok_is x y e = cc

-- if two steps succeed, the first does
pub bind_ok : {A B F : Type 0} (r : Result A F) (next : A → Result B F) (y : B) → (r >>= next)
    ≡ Ok y → (x : A) × (r ≡ Ok x) × (next x ≡ Ok y)
bind_ok (Ok x) next y e = (x, refl, e)
bind_ok (Err fault) next y e = absurd cc

-- if a guarded step succeeds, its test holds
pub guard_ok : {A F : Type 0} (b : Bool) (fault : F) (next : Result A F) (y : A)
    → (guard b fault >> next) ≡ Ok y → (b ≡ true) × (next ≡ Ok y)
guard_ok true fault next y e = (refl, e)
guard_ok false fault next y e = absurd cc

-- a step after a test that refuses
pub refused_ok : {A F : Type 0} (b : Bool) (fault : F) (next : Result A F) (y : A)
    → cond b (Err fault) next ≡ Ok y → (b ≡ false) × (next ≡ Ok y)
refused_ok true fault next y e = absurd cc
refused_ok false fault next y e = (refl, e)

-- the branch that a choice takes
pub chosen : {A : Type 0} (b : Bool) (x y z : A) → cond b x y ≡ z → ((b ≡ true) × (x ≡ z))
    ⊎ ((b ≡ false) × (y ≡ z))
chosen true x y z e = inl (refl, e)
chosen false x y z e = inr (refl, e)

-- an `Err` whose type of values is given
abbrev pub failed : (A : Type 0) {F : Type 0} → F → Result A F
failed A fault = Err fault

-- faults that are equal in results of one type are equal in results of any other
fault_is : (A B : Type 0) {F : Type 0} (f g : F) → failed A f ≡ failed A g → failed B f ≡ failed B g
fault_is A B f g e = cc

-- a fault of the first step is the fault of the whole
pub Fails-then : {A B F : Type 0} (memory error : F) (r : Result A F) (next : A → Result B F)
    → Fails memory error r → Fails memory error (r >>= next)
Fails-then memory error r next (inl e) = inl e
Fails-then memory error (Ok x) next (inr e) = absurd cc
Fails-then {A = A} {B = B} memory error (Err fault) next (inr e) = inr (fault_is A B fault error e)

-- what holds of each value of the definition holds of the code's value
pub gives_found : {X Y F : Type 0} (P : Y → Type 0) (memory : F) (view : X → Y) (r : Result X F)
    (given : Result Y F) → Gives memory view r given → ((y : Y) → given ≡ Ok y → P y)
    → IfOk r (λ x. P (view x))
gives_found P memory view (Ok x) given gives all = all (view x) gives
gives_found P memory view (Err error) given gives all = tt

-- if the definition returns a value, the code does, unless it is out of memory
pub gives_only : {X Y F : Type 0} (memory : F) (view : X → Y) (r : Result X F) (given : Result Y F)
    (y : Y) → Gives memory view r given → given ≡ Ok y
    → MatchResult r (λ x. view x ≡ y) (λ error. error ≡ memory)
gives_only memory view (Ok x) given y gives e = cc
gives_only memory view (Err error) given y (inl e') e = e'
gives_only memory view (Err error) given y (inr e') e = absurd cc
