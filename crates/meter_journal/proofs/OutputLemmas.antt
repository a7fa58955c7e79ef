-- The bytes that an output was given, write by write.
use Rattle.std.proofs.Common.{◌≡◌, ℕ, List, [], ◌++◌, Option, refl, sym, ap, subst, ◌∙◌}
use Rattle.std.proofs.Common.{append_assoc, append-nil, take, drop, take-append-drop}
use Rattle.std.proofs.KnownBytes.{Appends-kept, Appends-nil, Appends-trans}
use Rattle.std.specs.Io.KnownBytes.{Appends, Keeps}
use Rattle.meter_journal.specs.Relaying.{AppendsFront}

-- an output was given the bytes before the rest
pub record GivenTo (old now : Option (List ℕ)) (bytes rest : List ℕ) : Type 0 where
  pub front : List ℕ
  pub split : bytes ≡ front ++ rest
  pub given : Appends old now front

pub given_none : (old : Option (List ℕ)) (bytes : List ℕ) → GivenTo old old bytes bytes
given_none old bytes = record { front = []; split = refl; given = Appends-nil old }

-- a write has taken the first bytes of the rest
pub given_more : (old now new : Option (List ℕ)) (bytes rest : List ℕ) (count : ℕ)
    → GivenTo old now bytes rest → Appends now new (take count rest)
    → GivenTo old new bytes (drop count rest)
given_more old now new bytes rest count so wrote = record {
  front = so.front ++ take count rest;
  split = so.split
      ∙ ap (λ (bs : List ℕ). so.front ++ bs) (sym (take-append-drop count rest))
      ∙ sym (append_assoc so.front (take count rest) (drop count rest));
  given = Appends-trans old now new so.front (take count rest) so.given wrote;
}

-- a write has failed
pub given_still : (old now new : Option (List ℕ)) (bytes rest : List ℕ)
    → GivenTo old now bytes rest → Keeps now new → GivenTo old new bytes rest
given_still old now new bytes rest so kept = record {
  front = so.front;
  split = so.split;
  given = Appends-kept old now new so.front so.given kept;
}

pub given_front : (old now : Option (List ℕ)) (bytes rest : List ℕ) → GivenTo old now bytes rest
    → AppendsFront old now bytes
given_front old now bytes rest so = (so.front, rest, so.split, so.given)

pub given_all : (old now : Option (List ℕ)) (bytes rest : List ℕ) → GivenTo old now bytes rest
    → rest ≡ [] → Appends old now bytes
given_all old now bytes rest so none = subst (λ (bs : List ℕ). Appends old now bs)
    (sym (so.split ∙ ap (λ (bs : List ℕ). so.front ++ bs) none ∙ append-nil so.front)) so.given

-- all bytes were written, and the flush changes nothing
pub flushed : (old now new : Option (List ℕ)) (bytes : List ℕ) → Appends old now bytes
    → Keeps now new → Appends old new bytes
flushed old now new bytes given kept = Appends-kept old now new bytes given kept

pub unflushed : (old now new : Option (List ℕ)) (bytes : List ℕ) → Appends old now bytes
    → Keeps now new → AppendsFront old new bytes
unflushed old now new bytes given kept =
    (bytes, [], sym (append-nil bytes), Appends-kept old now new bytes given kept)

-- nothing was to be written
pub none_given : (old : Option (List ℕ)) (bytes : List ℕ) → AppendsFront old old bytes
none_given old bytes = ([], bytes, refl, Appends-nil old)

pub ruleset writes = (given_none, given_more, given_still, given_front, given_all)

pub ruleset flushes = (flushed, unflushed)
