-- The result of a definition that reads bytes, and how the result of code is compared with it.
--     ◌>>=◌, ◌>>◌     one step and then the next, up to the first fault: what `do` notation means
--     guard           continues only if a test holds
--     Fails           an error of code is the fault of the definition, or it is out of memory
--     Gives           a result of code is that of the definition, unless it is out of memory
use Rattle.std.specs.Prelude.{◌≡◌, ◌⊎◌, Bool, true, false, Result, Ok, Err}

infixl 10 ◌>>=◌
infixl 10 ◌>>◌
-- the next step on the value that the first one read, or the first one's fault
abbrev pub ◌>>=◌ : {A B F : Type 0} → Result A F → (A → Result B F) → Result B F
(Ok x) >>= next = next x
(Err fault) >>= next = Err fault

-- the next step after one that reads nothing
abbrev pub ◌>>◌ : {A B F : Type 0} → Result A F → Result B F → Result B F
first >> next = first >>= λ _. next

-- a fault unless the test holds
abbrev pub guard : {F : Type 0} → Bool → F → Result (Unit {0}) F
guard true fault = Ok tt
guard false fault = Err fault

-- whether an error of code is out of memory, or is the fault that the definition gives
abbrev pub Fails : {X F : Type 0} → F → F → Result X F → Type 0
Fails memory error given = (error ≡ memory) ⊎ (given ≡ Err error)

-- whether the result of code, its value seen through a view, is that of the definition; or code is
-- out of memory
abbrev pub Gives : {X Y F : Type 0} → F → (X → Y) → Result X F → Result Y F → Type 0
Gives memory view (Ok x) given = given ≡ Ok (view x)
Gives memory view (Err error) given = Fails memory error given
