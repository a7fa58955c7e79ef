-- What rows make of a list, row by row.
use Rattle.std.proofs.Common.{arith, ◌≡◌, ◌<◌, ◌+◌, ℕ, List, [], ◌∷◌, ◌++◌, length, slice_index_or, slice_set, take, ap, subst, sym, ◌∙◌}
use Rattle.std.proofs.Common.{Option, Some, None, refl}
use Rattle.std.proofs.lemmas.List.{take_more, take_all, take-append-le, length-set}
use Rattle.sqlite.specs.Order.{Row}
use Rattle.sqlite_ledger.specs.Readings.{Enters}

module _ {A : Type 0} where
  -- one more row has set its item
  pub enters_row : (IsRow : Row → ℕ → A → Type 0) (rows : List Row) (row : Row) (place : ℕ)
      (entry : A) (old new : List A) → Enters IsRow rows old new
      → IsRow row place entry → place < length new
      → Enters IsRow (rows ++ row ∷ []) old (slice_set new place entry)
  enters_row IsRow [] row place entry old new same is below = (
    place,
    entry,
    is,
    subst (λ (entries : List A). place < length entries) same below,
    ap (λ (entries : List A). slice_set entries place entry) same,
  )
  enters_row IsRow (first ∷ rows) row place entry old new enters is below = (
    enters.0,
    enters.1,
    enters.2,
    enters.3,
    enters_row IsRow rows row place entry (slice_set old enters.0 enters.1) new enters.4 is below,
  )

  -- the next row of a list has set its item
  pub enters_next : (IsRow : Row → ℕ → A → Type 0) (rows : List Row) (i : ℕ) (row : Row)
      (place : ℕ) (entry : A) (old new : List A) → i < length rows
      → row ≡ slice_index_or rows i row
      → Enters IsRow (take i rows) old new → IsRow row place entry → place < length new
      → Enters IsRow (take (i + 1) rows) old (slice_set new place entry)
  enters_next IsRow rows i row place entry old new within same enters is below =
      let more : take (i + 1) rows ≡ take i rows ++ row ∷ [] =
      take_more rows i row within ∙ ap (λ r. take i rows ++ r ∷ []) (sym same) in
      subst (λ (rs : List Row). Enters IsRow rs old (slice_set new place entry)) (sym more)
      (enters_row IsRow (take i rows) row place entry old new enters is below)

  -- rows set items, and add none
  pub enters_length : (IsRow : Row → ℕ → A → Type 0) (rows : List Row)
      (old new : List A) → Enters IsRow rows old new → length new ≡ length old
  enters_length IsRow [] old new same = ap length same
  enters_length IsRow (row ∷ rows) old new enters =
      enters_length IsRow rows (slice_set old enters.0 enters.1) new enters.4
      ∙ length-set old enters.0 enters.1

  -- what a slice of all items of a list was set to is the whole list
  pub whole_slice : (new rest : List A) (len : ℕ) → length new ≡ len
      → take len (new ++ rest) ≡ new
  whole_slice new rest len same = take-append-le len new rest (omega (arith, same))
      ∙ take_all len new (omega (arith, same))

-- what no number has, None has alone
pub none_only : (P : Option ℕ → Type 0) → ((x : ℕ) → P (Some x) → ⊥) → (y : Option ℕ) → P y
    → y ≡ None
none_only P never None has = refl
none_only P never (Some x) has = absurd (never x has)
