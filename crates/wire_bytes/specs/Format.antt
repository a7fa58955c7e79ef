-- A format as one value, and formats made from others. A token is a byte, or a word of a line.
--     Format                    a format: how it is read, written and spelled
--     IsJoined, IsTagged        two spellings, one after the other; a spelling after one token
--     IsMade                    a spelling of what a value is made of
--     iso, narrow               a format seen as that of another value; of one of the known values
--     empty, ◌▷◌, ◌&◌           no tokens; one format, and then another
--     exactly, placeholder      one token; a part whose value is not kept
--     items_read, AreItems      consecutive items
--     items                     a given number of them
use Rattle.std.specs.Prelude.{◌≡◌, ℕ, zero, suc, Bool, Option, Some, None, List, [], ◌∷◌, ◌++◌}
use Rattle.std.specs.Prelude.{length, All, Result, Ok, Err}
use Rattle.std.specs.List.{flat_map}
use Rattle.wire_bytes.specs.Outcome.{◌>>=◌, ◌>>◌, guard}
use Rattle.wire_bytes.specs.Reading.{read_as, first_token}

-- A format of values `A` over tokens `T`, with faults `F`.
--     read      the value at the front and the tokens after it, or the first fault
--     text      the one spelling that is written
--     Fits      the values whose text is read back
--     Spells    which tokens spell which value
pub record Format (T F A : Type 0) : Type 1 where
  pub read : List T → Result (A × List T) F
  pub text : A → List T
  pub Fits : A → Type 0
  pub Spells : A → List T → Type 0

-- ---- what spells two parts

-- whether the tokens are a first spelling, followed by others
pub record IsJoined {T : Type 0} (IsFirst AreOthers : List T → Type 0) (tokens : List T) : Type 0
  where
    pub first : List T
    pub others : List T
    pub parts : tokens ≡ first ++ others
    pub is_first : IsFirst first
    pub are_others : AreOthers others

-- whether the tokens are one token, followed by contents
pub record IsTagged {T : Type 0} (tag : T) (IsContents : List T → Type 0) (tokens : List T) : Type 0
  where
    pub contents : List T
    pub parts : tokens ≡ tag ∷ contents
    pub are_contents : IsContents contents

-- whether a spelling of a value is one of which this one is made
abbrev pub IsMade : {T A B : Type 0} → (A → B) → (A → List T → Type 0) → B → List T → Type 0
IsMade {A = A} make Spells b tokens = (a : A) × (make a ≡ b) × Spells a tokens

-- ---- formats made from others

-- a part seen as another type, both ways
abbrev pub iso : {T F A B : Type 0} → (A → B) → (B → A) → Format T F A → Format T F B
iso to from part = record {
  read = λ tokens. read_as to (part.read tokens);
  text = λ b. part.text (from b);
  Fits = λ b. part.Fits (from b);
  Spells = λ b tokens. part.Spells (from b) tokens;
}

-- the format whose text has no tokens
abbrev pub empty : {T F : Type 0} → Format T F (Unit {0})
empty = record {
  read = λ tokens. Ok (tt, tokens);
  text = λ nothing. [];
  Fits = λ nothing. Unit {0};
  Spells = λ nothing tokens. tokens ≡ [];
}

infixr 6 ◌▷◌
-- one format, and then another that may depend on the value of the first
abbrev pub ◌▷◌ : {T F A : Type 0} {B : A → Type 0} → Format T F A → ((a : A) → Format T F (B a))
    → Format T F ((a : A) × B a)
first ▷ next = record {
  read = λ tokens. first.read tokens >>= λ a. read_as (λ b. (a.0, b)) ((next a.0).read a.1);
  text = λ both. first.text both.0 ++ (next both.0).text both.1;
  Fits = λ both. first.Fits both.0 × (next both.0).Fits both.1;
  Spells = λ both. IsJoined (first.Spells both.0) ((next both.0).Spells both.1);
}

infixr 6 ◌&◌
-- one format, and then another that does not depend on the first
abbrev pub ◌&◌ : {T F A B : Type 0} → Format T F A → Format T F B → Format T F (A × B)
first & second = first ▷ (λ _. second)

-- what was found, or the fault if nothing was
abbrev pub some_or : {F A : Type 0} → F → Option A → Result A F
some_or fault None = Err fault
some_or fault (Some a) = Ok a

-- a part for whose value another is found, or the fault; `of` is what is written for it
abbrev pub narrow : {T F A B : Type 0} → F → (A → Option B) → (B → A) → Format T F A → Format T F B
narrow {A = A} fault find of part = record {
  read = λ tokens. part.read tokens >>= λ a. some_or fault (find a.0) >>= λ b. Ok (b, a.1);
  text = λ b. part.text (of b);
  Fits = λ b. part.Fits (of b);
  Spells = λ b tokens. (a : A) × (find a ≡ Some b) × part.Spells a tokens;
}

-- this token, and no other
abbrev pub exactly : {T F : Type 0} → (T → T → Bool) → F → T → Format T F (Unit {0})
exactly same fault token = record {
  read = λ tokens. first_token fault tokens >>= λ t. guard (same t.0 token) fault >> Ok (tt, t.1);
  text = λ nothing. token ∷ [];
  Fits = λ nothing. Unit {0};
  Spells = λ nothing tokens. tokens ≡ token ∷ [];
}

-- a part of which only the place is kept: any value is read, and the sample is written
abbrev pub placeholder : {T F A : Type 0} → A → Format T F A → Format T F (Unit {0})
placeholder {A = A} sample part = record {
  read = λ tokens. read_as (λ a. tt) (part.read tokens);
  text = λ nothing. part.text sample;
  Fits = λ nothing. Unit {0};
  Spells = λ nothing tokens. (a : A) × part.Spells a tokens;
}

-- ---- consecutive items

-- the given number of consecutive items, each read by the given reader
unfoldable pub items_read : {S F A : Type 0} → (S → Result (A × S) F) → ℕ → S
    → Result (List A × S) F
items_read item_read zero rest = Ok ([], rest)
items_read item_read (suc n) rest = do
  first ← item_read rest
  others ← items_read item_read n first.1
  Ok (first.0 ∷ others.0, others.1)

-- whether the tokens are spellings of the items, one after the other
abbrev pub AreItems : {T A : Type 0} → (A → List T → Type 0) → List A → List T → Type 0
AreItems IsItem [] tokens = tokens ≡ []
AreItems IsItem (x ∷ xs) tokens = IsJoined (IsItem x) (AreItems IsItem xs) tokens

-- the given number of consecutive items
abbrev pub items : {T F A : Type 0} → Format T F A → ℕ → Format T F (List A)
items item n = record {
  read = items_read item.read n;
  text = flat_map item.text;
  Fits = λ xs. (length xs ≡ n) × All item.Fits xs;
  Spells = λ xs tokens. (length xs ≡ n) × AreItems item.Spells xs tokens;
}
