-- A choice of formats by the first tokens.
--     Choice                    what follows each first token, and the fault of any other
--     Parts, value_of           what was read after the first tokens, and the value made of it
--     next_read                 reads one of a choice
--     is_distinct               whether no two formats of a choice have the same first token
--     choice_by                 the format that a choice states
use Rattle.std.specs.Prelude.{◌⊎◌, Bool, true, false, not, ◌&&◌, ◌||◌, if◌then◌else◌, List, ◌∷◌}
use Rattle.std.specs.Prelude.{Result, Err}
use Rattle.std.proofs.Common.{inl, inr}
use Rattle.wire_bytes.specs.Outcome.{◌>>=◌}
use Rattle.wire_bytes.specs.Reading.{read_as, first_token}
use Rattle.wire_bytes.specs.Format.{Format, IsTagged, IsMade}

-- What may follow, in order.
--     on key part make others            after this token a part, of which the value is made
--     under key missing inner others     after this token a further choice; the fault if nothing
--                                        follows
--     otherwise unknown                  the fault of any other token
pub data Choice (T F A : Type 0) : Type 1 where
  otherwise : F → Choice T F A
  on : T → {X : Type 0} → Format T F X → (X → A) → Choice T F A → Choice T F A
  under : T → F → Choice T F A → Choice T F A → Choice T F A

-- what is read after the first tokens: one of the parts
abbrev pub Parts : {T F A : Type 0} → Choice T F A → Type 0
Parts (otherwise fault) = ⊥
Parts (on key {X = X} part make others) = X ⊎ Parts others
Parts (under key missing inner others) = Parts inner ⊎ Parts others

-- the value that is made of the part that was read
abbrev pub value_of : {T F A : Type 0} → (c : Choice T F A) → Parts c → A
value_of (otherwise fault) none = absurd none
value_of (on key part make others) (inl x) = make x
value_of (on key part make others) (inr p) = value_of others p
value_of (under key missing inner others) (inl p) = value_of inner p
value_of (under key missing inner others) (inr p) = value_of others p

-- ---- reading

-- the value of a choice after its first token
abbrev pub keyed_read : {T F A : Type 0} → (T → T → Bool) → Choice T F A → T → List T
    → Result (A × List T) F
keyed_read same (otherwise fault) token rest = Err fault
keyed_read same (on key part make others) token rest =
    if same token key then read_as make (part.read rest) else keyed_read same others token rest
keyed_read same (under key missing inner others) token rest =
    if same token key
    then (first_token missing rest >>= λ next. keyed_read same inner next.0 next.1)
    else keyed_read same others token rest

-- one of a choice, or the fault if there is no token
abbrev pub next_read : {T F A : Type 0} → (T → T → Bool) → F → Choice T F A → List T
    → Result (A × List T) F
next_read same missing c tokens =
    first_token missing tokens >>= λ next. keyed_read same c next.0 next.1

-- ---- text, fitness and spelling

-- the first tokens and the text of the part after them
abbrev pub keyed_text : {T F A : Type 0} → (c : Choice T F A) → Parts c → List T
keyed_text (otherwise fault) none = absurd none
keyed_text (on key part make others) (inl x) = key ∷ part.text x
keyed_text (on key part make others) (inr p) = keyed_text others p
keyed_text (under key missing inner others) (inl p) = key ∷ keyed_text inner p
keyed_text (under key missing inner others) (inr p) = keyed_text others p

-- whether the part that follows the first tokens fits
abbrev pub KeyedFits : {T F A : Type 0} → (c : Choice T F A) → Parts c → Type 0
KeyedFits (otherwise fault) none = absurd none
KeyedFits (on key part make others) (inl x) = part.Fits x
KeyedFits (on key part make others) (inr p) = KeyedFits others p
KeyedFits (under key missing inner others) (inl p) = KeyedFits inner p
KeyedFits (under key missing inner others) (inr p) = KeyedFits others p

-- whether the tokens are a first token of the choice, followed by a spelling of a part of which the
-- value is made
abbrev pub KeyedSpells : {T F A : Type 0} → Choice T F A → A → List T → Type 0
KeyedSpells (otherwise fault) a tokens = ⊥
KeyedSpells (on key part make others) a tokens =
    IsTagged key (IsMade make part.Spells a) tokens ⊎ KeyedSpells others a tokens
KeyedSpells (under key missing inner others) a tokens =
    IsTagged key (KeyedSpells inner a) tokens ⊎ KeyedSpells others a tokens

-- ---- a choice as a format

-- whether a format of the choice has this first token
abbrev pub has_key : {T F A : Type 0} → (T → T → Bool) → T → Choice T F A → Bool
has_key same token (otherwise fault) = false
has_key same token (on key part make others) = same token key || has_key same token others
has_key same token (under key missing inner others) = same token key || has_key same token others

-- whether no two formats of a choice have the same first token
abbrev pub is_distinct : {T F A : Type 0} → (T → T → Bool) → Choice T F A → Bool
is_distinct same (otherwise fault) = true
is_distinct same (on key part make others) =
    not (has_key same key others) && is_distinct same others
is_distinct same (under key missing inner others) =
    not (has_key same key others) && is_distinct same inner && is_distinct same others

-- the format that a choice states; `parts` takes a value apart as `value_of` makes it
abbrev pub choice_by : {T F A : Type 0} → (T → T → Bool) → F → (c : Choice T F A) → (A → Parts c)
    → Format T F A
choice_by same missing c parts = record {
  read = next_read same missing c;
  text = λ a. keyed_text c (parts a);
  Fits = λ a. KeyedFits c (parts a);
  Spells = KeyedSpells c;
}
