-- What is written of the bytes that wait, write by write.
use Rattle.std.proofs.Common.{◌≡◌, ℕ, ◌+◌, ◌-◌, ◌≤◌, List, [], ◌++◌, length, take, drop, nat_eq, IsTrue}
use Rattle.std.proofs.Common.{Option, Some, None, refl, sym, ap, ◌∙◌, rules, arith, append-nil, eq-eqb}
use Rattle.std.proofs.Math.ListN.{drop_of_length-le}
use Rattle.std.proofs.lemmas.List.{append_assoc, drop-drop, length-drop, take-append-drop}
use Rattle.std.specs.Io.KnownBytes.{Appends, Keeps}
use Rattle.campaign_wires.specs.Outboxes.{WritesFront}

-- no byte waits if all are written
pub none_waits : (bytes : List ℕ) (written len : ℕ) → len ≡ length bytes → written ≤ length bytes
    → (IsTrue (nat_eq written len) → drop written bytes ≡ [])
    × (drop written bytes ≡ [] → IsTrue (nat_eq written len))
none_waits bytes written len is le = (
  (λ same. let all : written ≡ len = search rules in
      drop_of_length-le bytes (omega (arith, is, all))),
  (λ none. let left : length bytes - written ≡ 0 =
      sym (length-drop written bytes) ∙ ap length none in
      eq-eqb written len (omega (arith, left, is, le))),
)

appends_none : (old new : Option (List ℕ)) → Keeps old new → Appends old new []
appends_none None new same = tt
appends_none (Some xs) None same = absurd same
appends_none (Some xs) (Some ys) same = same ∙ sym (append-nil xs)

-- nothing was written
pub wrote_none : (old new : Option (List ℕ)) (waiting : List ℕ) → Keeps old new
    → WritesFront old new waiting waiting
wrote_none old new waiting same =
    record { front = []; split = refl; appends = appends_none old new same }

-- some of the bytes were written
pub wrote_some : (old new : Option (List ℕ)) (bytes rest : List ℕ) (written count : ℕ)
    → rest ≡ drop written bytes → Appends old new (take count rest)
    → WritesFront old new (drop written bytes) (drop (written + count) bytes)
wrote_some old new bytes rest written count is appends = record {
  front = take count rest;
  split = sym (ap (λ (xs : List ℕ). take count xs ++ drop (written + count) bytes) is
      ∙ ap (λ (xs : List ℕ). take count (drop written bytes) ++ xs)
      (sym (drop-drop count written bytes))
      ∙ take-append-drop count (drop written bytes));
  appends = appends;
}

appends_both : (first middle last : Option (List ℕ)) (one two : List ℕ) → Appends first middle one
    → Appends middle last two → Appends first last (one ++ two)
appends_both None middle last one two first_is last_is = tt
appends_both (Some xs) None last one two first_is last_is = absurd first_is
appends_both (Some xs) (Some ys) None one two first_is last_is = absurd last_is
appends_both (Some xs) (Some ys) (Some zs) one two first_is last_is =
    last_is ∙ ap (λ (front : List ℕ). front ++ two) first_is ∙ append_assoc xs one two

-- one write after another
pub wrote_both : (first middle last : Option (List ℕ)) (before between after : List ℕ)
    → WritesFront first middle before between → WritesFront middle last between after
    → WritesFront first last before after
wrote_both first middle last before between after one two = record {
  front = one.front ++ two.front;
  split = one.split ∙ ap (λ (rest : List ℕ). one.front ++ rest) two.split
      ∙ sym (append_assoc one.front two.front after);
  appends = appends_both first middle last one.front two.front one.appends two.appends;
}
