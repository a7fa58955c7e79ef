-- What a crash at one of several moments may leave, for a file or a place in memory with its past.
--     AnyLeft         what a crash in one of these states may leave
--     LeftIn          what a crash since a moment may have left
--     ElapsesIn       what a crash may leave, from before a change of state to after it
--     only_present    since the present moment there is no other
--     past_model      the model of the files or places that keep their past states
use Rattle.std.specs.Prelude.{◌⊎◌, ℕ, List, [], ◌∷◌, length, drop, ⊤}
use Rattle.durable_lines.specs.CrashModel.{Elapses}
use Rattle.durable_lines.specs.FileModel.{FileModel}
use mathlib.Core.Logic.{inl, inr}

-- whether a crash in one of these states may leave these bytes
abbrev pub AnyLeft : {S : Type 0} → (S → List ℕ → Type 0) → List S → List ℕ → Type 0
AnyLeft left [] c = ⊥
AnyLeft left (s ∷ states) c = left s c ⊎ AnyLeft left states c

-- whether a crash since moment t may have left these bytes: in the present state, or in a past one
-- since then
abbrev pub LeftIn : {S : Type 0} → (S → List ℕ → Type 0) → List S → S → ℕ → List ℕ → Type 0
LeftIn left past state t c = left state c ⊎ AnyLeft left (drop t past) c

-- whether a change from one state, after a past, to the next one adds only the outcomes of a crash
-- after it
abbrev pub ElapsesIn : {S : Type 0} → (S → List ℕ → Type 0) → (past : List S) → (state : S)
    → (later : List S) → (next : S) → Type 0
ElapsesIn left past state later next = Elapses (length past) (length later)
    (LeftIn left past state) (LeftIn left later next) (left next)

-- a crash since the present moment leaves nothing of a past state
none_past : {S : Type 0} (left : S → List ℕ → Type 0) (past : List S) (c : List ℕ)
    → AnyLeft left (drop (length past) past) c → ⊥
none_past left [] c was = was
none_past left (s ∷ past) c was = none_past left past c was

-- since the present moment there is no other
pub only_present : {S : Type 0} (left : S → List ℕ → Type 0) (past : List S) (state : S)
    (c : List ℕ) → LeftIn left past state (length past) c → left state c
only_present left past state c (inl now) = now
only_present left past state c (inr was) = absurd (none_past left past c was)

-- The model of the files or places in memory that keep their past states. A moment passes with each
-- change of state. All of them have one number, and any bytes count as stored.
abbrev pub past_model : {M S : Type 0} → (left : S → List ℕ → Type 0) → (seen : S → List ℕ)
    → (state : M → S) → (past : M → List S) → (failed : M → Type 0) → FileModel M
past_model left seen state past failed = record {
  acts = ⊤;
  identity = λ m. 0;
  seen = λ m. seen (state m);
  may_leave = λ m. left (state m);
  moment = λ m. length (past m);
  left_since = λ m. LeftIn left (past m) (state m);
  stored = λ file bytes. ⊤;
  renews = λ old new. ⊥;
  has_failed = failed;
  overflows = λ m bytes. ⊥;
  also = λ call old new. ⊤;
  counts_now = λ m t c le now. inl now;
  only_now = λ m. only_present left (past m) (state m);
}
