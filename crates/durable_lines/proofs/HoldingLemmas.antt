-- The lines that a file holds, append by append and renewal by renewal.
use Rattle.std.proofs.Common.{◌≡◌, inl, inr, ℕ, zero, suc, ◌≤◌, List, [], ◌∷◌, ◌++◌, length}
use Rattle.std.proofs.Common.{refl, take, sym, ap, ◌∙◌, subst, arith, append_assoc, append-nil}
use Rattle.std.proofs.lemmas.List.{take_all}
use Rattle.std.specs.Prelude.{codes}
use Rattle.durable_lines.specs.CrashModel.{LeavesOnly}
use Rattle.durable_lines.specs.FileModel.{FileModel}
use Rattle.durable_lines.specs.Holding.{Holds, HoldsAfter, IsSameOrRenewed}
use Rattle.durable_lines.specs.Lines.{lines_in, IsBetween}
use Rattle.durable_lines.proofs.Moments.{leaves_as, leaves_then}

abbrev Lines : Type 0
Lines = List (List ℕ)

module _ (Renews : List ℕ → List ℕ → Type 0) where
  -- a file holds no lines after those that it has first
  pub holds_none : (bytes : List ℕ) → Holds Renews (lines_in bytes) [] bytes
  holds_none bytes = (0, sym (append-nil (lines_in bytes)))

  more_after : (first : Lines) (n : ℕ) (lines more : Lines) (old new : List ℕ)
      → lines_in new ≡ lines_in old ++ more → HoldsAfter Renews first n lines old
      → HoldsAfter Renews first n (lines ++ more) new
  more_after first zero lines more old new is held =
      is ∙ ap (λ (ls : Lines). ls ++ more) held ∙ append_assoc first lines more
  more_after first (suc n) lines more old new is held = record {
    base = held.base;
    rest = held.rest ++ more;
    all = ap (λ (ls : Lines). ls ++ more) held.all ∙ append_assoc held.base held.rest more;
    old = held.old;
    held = held.held;
    renewed = held.renewed;
    renewal = held.renewal;
    appended = is ∙ ap (λ (ls : Lines). ls ++ more) held.appended
        ∙ append_assoc (lines_in held.renewed) held.rest more;
  }

  -- lines that are appended to a file are held after those before
  pub holds_more : (first lines more : Lines) (old new : List ℕ)
      → lines_in new ≡ lines_in old ++ more → Holds Renews first lines old
      → Holds Renews first (lines ++ more) new
  holds_more first lines more old new is held =
      (held.0, more_after first held.0 lines more old new is held.1)

  -- a file that is renewed holds the same lines
  pub holds_renewed : (first lines : Lines) (old new : List ℕ) → IsSameOrRenewed Renews old new
      → Holds Renews first lines old → Holds Renews first lines new
  holds_renewed first lines old new (inl same) held =
      subst (Holds Renews first lines) (sym same) held
  holds_renewed first lines old new (inr renewal) held = (
    suc held.0,
    record {
      base = lines;
      rest = [];
      all = sym (append-nil lines);
      old = old;
      held = held.1;
      renewed = new;
      renewal = renewal;
      appended = sym (append-nil (lines_in new));
    },
  )

  module _ {F : Type 0} (model : FileModel F) where
    -- a crash leaves a front of the further lines
    abbrev HoldsFront : Lines → Lines → Lines → List ℕ → Type 0
    HoldsFront first lines more c = (k : ℕ) × (k ≤ length more)
        × Holds Renews first (lines ++ take k more) c

    front_held : (first lines more : Lines) (old c : List ℕ) → Holds Renews first lines old
        → IsBetween (lines_in old) more (lines_in c) → HoldsFront first lines more c
    front_held first lines more old c held between = (
      between.0,
      between.1,
      holds_more first lines (take between.0 more) old c between.2 held,
    )

    pub front_leaves : (old new : F) (first lines more : Lines)
        → Holds Renews first lines (model.seen old)
        → LeavesOnly model old new (λ c. IsBetween (lines_in (model.seen old)) more (lines_in c))
        → LeavesOnly model old new (HoldsFront first lines more)
    front_leaves old new first lines more held leaves =
        leaves_as model old new (λ c. IsBetween (lines_in (model.seen old)) more (lines_in c))
        (HoldsFront first lines more)
        (λ c between. front_held first lines more (model.seen old) c held between) leaves

    -- an append, and then a renewal
    pub renewed_leaves : (old mid new : F) (first lines more : Lines)
        → Holds Renews first lines (model.seen old)
        → LeavesOnly model old mid (λ c. IsBetween (lines_in (model.seen old)) more (lines_in c))
        → lines_in (model.seen mid) ≡ lines_in (model.seen old) ++ more
        → LeavesOnly model mid new (IsSameOrRenewed Renews (model.seen mid))
        → LeavesOnly model old new (HoldsFront first lines more)
    renewed_leaves old mid new first lines more held append is renew =
        leaves_then model old mid new (HoldsFront first lines more)
        (front_leaves old mid first lines more held append)
        (leaves_as model mid new (IsSameOrRenewed Renews (model.seen mid))
        (HoldsFront first lines more)
        (λ c same. (
          length more,
          omega arith,
          subst (λ (ls : Lines). Holds Renews first (lines ++ ls) c)
              (sym (take_all (length more) more (omega arith)))
              (holds_renewed first (lines ++ more) (model.seen mid) c same
              (holds_more first lines more (model.seen old) (model.seen mid) is held)),
        )) renew)

-- ---- examples and files that are never renewed

never_after : (Renews : List ℕ → List ℕ → Type 0)
    → ((old new : List ℕ) → Renews old new → ⊥) → (first : Lines) (n : ℕ) (lines : Lines)
    (bytes : List ℕ) → HoldsAfter Renews first n lines bytes → lines_in bytes ≡ first ++ lines
never_after Renews never first zero lines bytes held = held
never_after Renews never first (suc n) lines bytes held =
    absurd (never held.old held.renewed held.renewal)

-- a file that is never renewed has the lines that it holds
pub never_renewed : (first lines : Lines) (bytes : List ℕ) → Holds (λ _ _. ⊥) first lines bytes
    → lines_in bytes ≡ first ++ lines
never_renewed first lines bytes held =
    never_after (λ _ _. ⊥) (λ old new renewal. renewal) first held.0 lines bytes held.1

-- a file that has lines holds them
pub has_lines : (first lines : Lines) (bytes : List ℕ) → lines_in bytes ≡ first ++ lines
    → Holds (λ _ _. ⊥) first lines bytes
has_lines first lines bytes is = (0, is)

pub example_held : Holds (λ old new. (old ≡ codes "a\nb\n") × (new ≡ codes "c\n"))
    (codes "a" ∷ []) (codes "b" ∷ codes "d" ∷ []) (codes "c\nd\n")
example_held = (
  1,
  record {
    base = codes "b" ∷ [];
    rest = codes "d" ∷ [];
    all = refl;
    old = codes "a\nb\n";
    held = refl;
    renewed = codes "c\n";
    renewal = (refl, refl);
    appended = refl;
  },
)

pub ruleset holding_laws = (never_renewed, has_lines, example_held)
