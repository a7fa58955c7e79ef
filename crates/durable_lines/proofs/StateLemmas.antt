-- What a crash leaves of a file in memory after an append, a cut and a sync.
use Rattle.std.proofs.Common.{◌≡◌, ◌⊎◌, inl, inr, ℕ, zero, suc, ◌+◌, ◌-◌, ◌<◌, ◌≤◌, true, false}
use Rattle.std.proofs.Common.{List, [], ◌∷◌, ◌++◌, length, take, refl, sym, ◌∙◌, ap, subst, arith}
use Rattle.std.proofs.Common.{append_assoc}
use Rattle.std.proofs.lemmas.Bool.{cases_Bool, cases_lt, leb-true, leb-false}
use Rattle.std.proofs.lemmas.List.{append-nil, take_all, take-take, take-append-le, length-take}
use Rattle.std.proofs.Math.Seq.{take-append-add}
use Rattle.std.specs.Prelude.{nat_le}
use Rattle.durable_lines.specs.CrashModel.{Follows, IsTorn, Narrows, HasOneOutcome, TornAppend, TornCut}
use Rattle.durable_lines.specs.FileState.{State, seen_of, synced_with, after_append, after_cut}
use Rattle.durable_lines.specs.FileState.{torn_text, IsLeft}
use Rattle.durable_lines.specs.declared.byte_fate.ByteFate.{ByteFate}
use Rattle.durable_lines.specs.declared.byte_fate.ByteFate.TheVariants.{Kept, Zeroed, Missing}
use Rattle.durable_lines.proofs.Moments.{elapses_still}

-- bytes may be left as they are
torn_same : (bytes : List ℕ) → IsTorn bytes bytes
torn_same [] = tt
torn_same (byte ∷ bytes) = (inl refl, torn_same bytes)

-- a torn front of bytes is a torn state of all of them
torn_front : (n : ℕ) (bytes left : List ℕ) → IsTorn (take n bytes) left → IsTorn bytes left
torn_front n bytes [] torn = tt
torn_front zero bytes (l ∷ left) torn = absurd torn
torn_front (suc n) [] (l ∷ left) torn = absurd torn
torn_front (suc n) (byte ∷ bytes) (l ∷ left) torn = (torn.0, torn_front n bytes left torn.1)

-- a torn state of two appends is one of each
record TornBoth (added bytes left : List ℕ) : Type 0 where
  pub first : List ℕ
  pub second : List ℕ
  pub of_added : IsTorn added first
  pub of_bytes : IsTorn bytes second
  pub split : left ≡ first ++ second

torn_both : (added bytes left : List ℕ) → IsTorn (added ++ bytes) left → TornBoth added bytes left
torn_both added bytes [] torn =
    record { first = []; second = []; of_added = tt; of_bytes = tt; split = refl }
torn_both [] bytes (l ∷ left) torn =
    record { first = []; second = l ∷ left; of_added = tt; of_bytes = torn; split = refl }
torn_both (a ∷ added) bytes (l ∷ left) torn =
    let rest = torn_both added bytes left torn.1 in
    record {
      first = l ∷ rest.first;
      second = rest.second;
      of_added = (torn.0, rest.of_added);
      of_bytes = rest.of_bytes;
      split = ap (λ bs. l ∷ bs) rest.split;
    }

no_torn : (left : List ℕ) → IsTorn [] left → left ≡ []
no_torn [] torn = refl
no_torn (l ∷ left) torn = absurd torn

pub append_follows : (bytes : List ℕ) (s : State)
    → Follows (TornAppend bytes) (IsLeft s) (IsLeft (after_append bytes s))
append_follows bytes s c (inl cut) = (c, inl cut, ([], tt, sym (append-nil c)))
append_follows bytes s c (inr torn) =
    let front = take s.kept s.synced in
    let both = torn_both s.added bytes torn.0 torn.1 in (
      front ++ both.first,
      inr (both.first, both.of_added, refl),
      (
        both.second,
        both.of_bytes,
        torn.2 ∙ ap (λ bs. front ++ bs) both.split
            ∙ sym (append_assoc front both.first both.second),
      ),
    )

-- a cut may leave all bytes
pub uncut : (len : ℕ) (c : List ℕ) → TornCut len c c
uncut len c = (len + length c, omega arith, sym (take_all (len + length c) c (omega arith)))

-- nothing is appended
pub same_appends : (bytes : List ℕ) (may_leave : List ℕ → Type 0)
    → Follows (TornAppend bytes) may_leave may_leave
same_appends bytes may_leave c left = (c, left, ([], tt, sym (append-nil c)))

-- nothing is cut
pub same_cuts : (len : ℕ) (may_leave : List ℕ → Type 0)
    → Follows (TornCut len) may_leave may_leave
same_cuts len may_leave c left = (c, left, uncut len c)

-- a cut into the synced bytes
low_synced : (len : ℕ) (s : State) → (c : List ℕ) (n : ℕ) → len ≤ n → c ≡ take n s.synced
    → (n < s.kept) ⊎ (s.kept ≤ n) → (from : List ℕ) × IsLeft s from × TornCut len from c
low_synced len s c n le is (inl less) = (
  take s.kept s.synced,
  inl (s.kept, omega arith, refl),
  (n, le, is ∙ sym (take-take n s.kept s.synced (omega (arith, less)))),
)
low_synced len s c n le is (inr more) = (c, inl (n, more, is), uncut len c)

cut_low : (len : ℕ) (s : State) → len ≤ s.kept → Follows (TornCut len) (IsLeft s)
    (IsLeft (record { synced = s.synced; kept = len; added = [] }))
cut_low len s le c (inl cut) = low_synced len s c cut.0 cut.1 cut.2 (cases_lt cut.0 s.kept)
cut_low len s le c (inr torn) = (
  take s.kept s.synced,
  inl (s.kept, omega arith, refl),
  (
    len,
    omega arith,
    torn.2 ∙ ap (λ bs. take len s.synced ++ bs) (no_torn torn.0 torn.1)
        ∙ append-nil (take len s.synced) ∙ sym (take-take len s.kept s.synced le),
  ),
)

-- a cut into the appended bytes
cut_high : (len : ℕ) (s : State) → Follows (TornCut len) (IsLeft s)
    (IsLeft (record { synced = s.synced; kept = s.kept; added = take (len - s.kept) s.added }))
cut_high len s c (inl cut) = (c, inl cut, uncut len c)
cut_high len s c (inr torn) =
    (c, inr (torn.0, torn_front (len - s.kept) s.added torn.0 torn.1, torn.2), uncut len c)

after_low : (len : ℕ) (s : State) → nat_le len s.kept ≡ true
    → after_cut len s ≡ record { synced = s.synced; kept = len; added = [] }
after_low len s low = rw low refl

after_high : (len : ℕ) (s : State) → nat_le len s.kept ≡ false
    → after_cut len s
    ≡ record { synced = s.synced; kept = s.kept; added = take (len - s.kept) s.added }
after_high len s high = rw high refl

pub cut_follows : (len : ℕ) (s : State)
    → Follows (TornCut len) (IsLeft s) (IsLeft (after_cut len s))
cut_follows len s = elim (cases_Bool (nat_le len s.kept)) [
  | inl low ↦ subst (λ next. Follows (TornCut len) (IsLeft s) (IsLeft next))
      (sym (after_low len s low))
      (cut_low len s (leb-true len s.kept low))
  | inr high ↦ subst (λ next. Follows (TornCut len) (IsLeft s) (IsLeft next))
      (sym (after_high len s high))
      (cut_high len s)
]

-- the bytes after a cut
pub seen_of-after_cut : (len : ℕ) (s : State) → s.kept ≤ length s.synced
    → seen_of (after_cut len s) ≡ take len (seen_of s)
seen_of-after_cut len s within = elim (cases_Bool (nat_le len s.kept)) [
  | inl low ↦
      let le = leb-true len s.kept low in
      ap seen_of (after_low len s low) ∙ append-nil (take len s.synced)
      ∙ sym (take-take len s.kept s.synced le)
      ∙ sym (take-append-le len (take s.kept s.synced) s.added (omega (arith, le, size)))
  | inr high ↦
      let more = leb-false len s.kept high in
      let split : len ≡ length (take s.kept s.synced) + (len - s.kept) =
      omega (arith, more, size) in
      ap seen_of (after_high len s high)
      ∙ sym (take-append-add (take s.kept s.synced) s.added (len - s.kept))
      ∙ ap (λ n. take n (take s.kept s.synced ++ s.added)) (sym split)
]
  where
    size : length (take s.kept s.synced) ≡ s.kept
    size = length-take s.kept s.synced ∙ omega (arith, within)

-- a crash may leave the bytes as a read returns them
pub seen_left : (s : State) → IsLeft s (seen_of s)
seen_left s = inr (s.added, torn_same s.added, refl)

-- after a sync a crash leaves the bytes
pub only_synced : (bytes : List ℕ) → HasOneOutcome bytes (IsLeft (synced_with bytes))
only_synced bytes c (inl cut) = cut.2 ∙ take_all cut.0 bytes (omega (arith, cut.1))
only_synced bytes c (inr torn) =
    torn.2 ∙ ap (λ bs. take (length bytes) bytes ++ bs) (no_torn torn.0 torn.1)
    ∙ append-nil (take (length bytes) bytes) ∙ take_all (length bytes) bytes (omega arith)

-- a sync leaves nothing that could not be left before
pub sync_narrows : (s : State) → Narrows (IsLeft s) (IsLeft (synced_with (seen_of s)))
sync_narrows s c left = subst (IsLeft s) (sym (only_synced (seen_of s) c left)) (seen_left s)

torn_by_torn : (fates : List ByteFate) (bytes : List ℕ) → IsTorn bytes (torn_text fates bytes)
torn_by_torn [] bytes = tt
torn_by_torn (fate ∷ fates) [] = tt
torn_by_torn (Kept ∷ fates) (byte ∷ bytes) = (inl refl, torn_by_torn fates bytes)
torn_by_torn (Zeroed ∷ fates) (byte ∷ bytes) = (inr refl, torn_by_torn fates bytes)
torn_by_torn (Missing ∷ fates) (byte ∷ bytes) = tt

-- a crash may make any choice of the bytes that were appended
pub torn_possible : (s : State) (fates : List ByteFate) (c : List ℕ)
    → c ≡ take s.kept s.synced ++ torn_text fates s.added → IsLeft s c
torn_possible s fates c is = inr (torn_text fates s.added, torn_by_torn fates s.added, is)

-- ---- the steps of a file in memory

pub append_left : (bytes : List ℕ) (old new : State) → new ≡ after_append bytes old
    → Follows (TornAppend bytes) (IsLeft old) (IsLeft new)
append_left bytes old new is =
    subst (λ s. Follows (TornAppend bytes) (IsLeft old) (IsLeft s)) (sym is)
    (append_follows bytes old)

pub append_none : (bytes : List ℕ) (old new : State) → new ≡ old
    → Follows (TornAppend bytes) (IsLeft old) (IsLeft new)
append_none bytes old new is =
    subst (λ s. Follows (TornAppend bytes) (IsLeft old) (IsLeft s)) (sym is)
    (same_appends bytes (IsLeft old))

pub cut_left : (len : ℕ) (old new : State) → new ≡ after_cut len old
    → Follows (TornCut len) (IsLeft old) (IsLeft new)
cut_left len old new is =
    subst (λ s. Follows (TornCut len) (IsLeft old) (IsLeft s)) (sym is) (cut_follows len old)

pub cut_none : {S : Type 0} (left : S → List ℕ → Type 0) (len : ℕ) (old new : S) → new ≡ old
    → Follows (TornCut len) (left old) (left new)
cut_none left len old new is =
    subst (λ s. Follows (TornCut len) (left old) (left s)) (sym is) (same_cuts len (left old))

pub cut_seen : (len : ℕ) (old new : State) → new ≡ after_cut len old
    → old.kept ≤ length old.synced → seen_of new ≡ take len (seen_of old)
cut_seen len old new is within = ap seen_of is ∙ seen_of-after_cut len old within

pub sync_left : (old new : State) → new ≡ synced_with (seen_of old)
    → Narrows (IsLeft old) (IsLeft new)
sync_left old new is =
    subst (λ s. Narrows (IsLeft old) (IsLeft s)) (sym is) (sync_narrows old)

pub sync_none : (old new : State) → new ≡ old → Narrows (IsLeft old) (IsLeft new)
sync_none old new is c left = subst (λ (s : State). IsLeft s c) is left

pub synced_left : (bytes : List ℕ) (new : State) → new ≡ synced_with bytes
    → HasOneOutcome bytes (IsLeft new)
synced_left bytes new is = subst (λ s. HasOneOutcome bytes (IsLeft s)) (sym is) (only_synced bytes)

pub ruleset file_steps = (elapses_still, append_none, sync_none)
