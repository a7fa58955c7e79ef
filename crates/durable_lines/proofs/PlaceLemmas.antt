-- What a crash leaves under a name in memory after an append, a cut, a rename and a sync.
use Rattle.std.proofs.Common.{◌≡◌, ◌⊎◌, inl, inr, ℕ, ◌≤◌, List, None, Some, length, take}
use Rattle.std.proofs.Common.{sym, ap, subst, ◌∙◌}
use Rattle.durable_lines.specs.CrashModel.{Follows, Narrows, HasOneOutcome, TornAppend, TornCut}
use Rattle.durable_lines.specs.FileState.{State, seen_of, synced_with, after_append, after_cut}
use Rattle.durable_lines.specs.FileState.{IsLeft}
use Rattle.durable_lines.specs.MemoryPlace.{MayBeLeft}
use Rattle.durable_lines.specs.declared.memory_place.PlaceState.{PlaceState}
use Rattle.durable_lines.proofs.Moments.{elapses_still}
use Rattle.durable_lines.proofs.StateLemmas.{append_follows, cut_follows, only_synced}
use Rattle.durable_lines.proofs.StateLemmas.{same_appends, seen_of-after_cut}
use Rattle.durable_lines.proofs.StateLemmas.{sync_narrows, uncut}

-- the state with another file that has the name
abbrev with_current : PlaceState → State → PlaceState
with_current s file = record { current = file; previous = s.previous }

-- the state after a rename
abbrev pub renamed : PlaceState → State → PlaceState
renamed s draft = record { current = draft; previous = Some s.current }

-- the state of a file whose name is on the disk
abbrev pub settled : State → PlaceState
settled file = record { current = file; previous = None }

pub append_left : (bytes : List ℕ) (old new : PlaceState)
    → new ≡ with_current old (after_append bytes old.current)
    → Follows (TornAppend bytes) (MayBeLeft old) (MayBeLeft new)
append_left bytes old new is =
    subst (λ s. Follows (TornAppend bytes) (MayBeLeft old) (MayBeLeft s)) (sym is) follows
  where
    follows : Follows (TornAppend bytes) (MayBeLeft old)
        (MayBeLeft (with_current old (after_append bytes old.current)))
    follows c (inl left) =
        let from = append_follows bytes old.current c left in (from.0, inl from.1, from.2)
    follows c (inr was) = same_appends bytes (MayBeLeft old) c (inr was)

pub append_none : (bytes : List ℕ) (old new : PlaceState) → new ≡ old
    → Follows (TornAppend bytes) (MayBeLeft old) (MayBeLeft new)
append_none bytes old new is =
    subst (λ s. Follows (TornAppend bytes) (MayBeLeft old) (MayBeLeft s)) (sym is)
    (same_appends bytes (MayBeLeft old))

pub cut_left : (len : ℕ) (old new : PlaceState)
    → new ≡ with_current old (after_cut len old.current)
    → Follows (TornCut len) (MayBeLeft old) (MayBeLeft new)
cut_left len old new is =
    subst (λ s. Follows (TornCut len) (MayBeLeft old) (MayBeLeft s)) (sym is) follows
  where
    follows : Follows (TornCut len) (MayBeLeft old)
        (MayBeLeft (with_current old (after_cut len old.current)))
    follows c (inl left) =
        let from = cut_follows len old.current c left in (from.0, inl from.1, from.2)
    follows c (inr was) = (c, inr was, uncut len c)

pub cut_seen : (len : ℕ) (old new : PlaceState)
    → new ≡ with_current old (after_cut len old.current)
    → old.current.kept ≤ length old.current.synced
    → seen_of new.current ≡ take len (seen_of old.current)
cut_seen len old new is within =
    ap (λ (s : PlaceState). seen_of s.current) is ∙ seen_of-after_cut len old.current within

pub sync_left : (old new : PlaceState) → new ≡ settled (synced_with (seen_of old.current))
    → Narrows (MayBeLeft old) (MayBeLeft new)
sync_left old new is = subst (λ s. Narrows (MayBeLeft old) (MayBeLeft s)) (sym is) narrows
  where
    narrows : Narrows (MayBeLeft old) (MayBeLeft (settled (synced_with (seen_of old.current))))
    narrows c (inl left) = inl (sync_narrows old.current c left)
    narrows c (inr none) = absurd none

pub sync_none : (old new : PlaceState) → new ≡ old → Narrows (MayBeLeft old) (MayBeLeft new)
sync_none old new is c left = subst (λ (s : PlaceState). MayBeLeft s c) is left

pub synced_left : (bytes : List ℕ) (new : PlaceState) → new ≡ settled (synced_with bytes)
    → HasOneOutcome bytes (MayBeLeft new)
synced_left bytes new is = subst (λ s. HasOneOutcome bytes (MayBeLeft s)) (sym is) only
  where
    only : HasOneOutcome bytes (MayBeLeft (settled (synced_with bytes)))
    only c (inl left) = only_synced bytes c left
    only c (inr none) = absurd none

-- a crash after a rename leaves the old file or the draft
pub rename_left : (old new : PlaceState) (draft : State) → new ≡ renamed old draft → (c : List ℕ)
    → MayBeLeft new c → MayBeLeft old c ⊎ IsLeft draft c
rename_left old new draft is c left =
    leaves c (subst (λ (s : PlaceState). MayBeLeft s c) is left)
  where
    leaves : (c : List ℕ) → MayBeLeft (renamed old draft) c → MayBeLeft old c ⊎ IsLeft draft c
    leaves c (inl left) = inr left
    leaves c (inr was) = inl (inl was)

-- no rename leaves what could be left before
pub rename_none : (old new : PlaceState) (draft : State) → new ≡ old → (c : List ℕ)
    → MayBeLeft new c → MayBeLeft old c ⊎ IsLeft draft c
rename_none old new draft is c left = inl (subst (λ (s : PlaceState). MayBeLeft s c) is left)

-- after a rename the name has the draft
pub named_left : (old new : PlaceState) (draft : State) → new ≡ renamed old draft
    → Narrows (IsLeft draft) (IsLeft new.current)
named_left old new draft is c left = subst (λ (s : PlaceState). IsLeft s.current c) is left

-- a crash after the sync of the folder leaves the file that has the name
pub folder_left : (old new : PlaceState) → new ≡ settled old.current
    → Narrows (IsLeft old.current) (MayBeLeft new)
folder_left old new is = subst (λ s. Narrows (IsLeft old.current) (MayBeLeft s)) (sym is) only
  where
    only : Narrows (IsLeft old.current) (MayBeLeft (settled old.current))
    only c (inl left) = left
    only c (inr none) = absurd none

pub folder_narrows : (old new : PlaceState) → new ≡ settled old.current
    → Narrows (MayBeLeft old) (MayBeLeft new)
folder_narrows old new is c left = inl (folder_left old new is c left)

pub ruleset place_steps = (elapses_still, append_none, sync_none, rename_none)
