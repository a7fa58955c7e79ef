-- The laws of a format, and that each format made from lawful ones is lawful.
--     Took, Agrees              a value that is read is spelled by the tokens read for it, and
--                               tokens that spell a value are read as it, whatever tokens follow
--     found_agrees .. bytes_agrees    readers that agree with a relation
--     AreAll                    a property of each token, and of the parts of a text
--     IsLawful                  the laws
--     found, read_again, ..     what follows of a whole text
--     seen_lawful .. dropped_lawful   formats made from others
use Rattle.std.proofs.Common.{◌≡◌, ℕ, ◌≤◌, nat_le, Bool, true, false, Option, Some, None, List, []}
use Rattle.std.proofs.Common.{◌∷◌, ◌++◌, length, take, drop, Result, Ok, Err, refl, sym, ap, subst}
use Rattle.std.proofs.Common.{◌∙◌, append_assoc, append-nil, arith}
use Rattle.std.proofs.lemmas.Bool.{leb-true, le-leb}
use Rattle.std.proofs.lemmas.List.{take_at, drop_at, take-append-drop, length-append, length-take}
use Rattle.wire_bytes.specs.Format.{Format, IsJoined, iso, empty, ◌▷◌, ◌&◌, some_or, narrow}
use Rattle.wire_bytes.specs.Format.{exactly, placeholder}
use Rattle.wire_bytes.specs.Outcome.{◌>>=◌, guard}
use Rattle.wire_bytes.specs.Reading.{read_as, whole_or, first_token, first_bytes}
use Rattle.wire_bytes.proofs.OutcomeLemmas.{done, ok_is, bind_ok, guard_ok}

-- ---- readers and relations

-- a value was read from the front of the tokens, and those read for it spell it
pub record Took {T : Type 0} (X : Type 0) (Spells : X → List T → Type 0) (tokens : List T)
    (read : X × List T) : Type 0 where
  pub text : List T
  pub parts : tokens ≡ text ++ read.1
  pub spelled : Spells read.0 text

-- a reader and a relation agree
pub record Agrees {T F : Type 0} (X : Type 0) (read : List T → Result (X × List T) F)
    (Spells : X → List T → Type 0) : Type 0 where
  pub takes : (tokens : List T) (x : X × List T) → read tokens ≡ Ok x → Took X Spells tokens x
  pub again : (x : X) (text rest : List T) → Spells x text → read (text ++ rest) ≡ Ok (x, rest)

-- two spellings, one after the other
pub join : {T : Type 0} {P Q : List T → Type 0} (a b : List T) → P a → Q b → IsJoined P Q (a ++ b)
join a b p q = record { first = a; others = b; parts = refl; is_first = p; are_others = q }

-- a value found for the one that was read
pub found_agrees : {T F A B : Type 0} {read : List T → Result (A × List T) F}
    {P : A → List T → Type 0} (find : A → Result B F) (S : B → List T → Type 0) → Agrees A read P
    → ((a : A) (b : B) (text : List T) → find a ≡ Ok b → P a text → S b text)
    → ((b : B) (text : List T) → S b text → (a : A) × (find a ≡ Ok b) × P a text)
    → Agrees B (λ tokens. read tokens >>= λ a. find a.0 >>= λ b. Ok (b, a.1)) S
found_agrees {T = T} {F = F} {B = B} {read = read} find S agrees to from = record {
  takes = λ tokens x e.
      let a = bind_ok (read tokens) (λ a. find a.0 >>= λ b. Ok (b, a.1)) x e in
      let b = bind_ok (find a.0.0) (λ b. done F (b, a.0.1)) x a.2 in
      let t = agrees.takes tokens a.0 a.1 in
      subst (λ (z : B × List T). Took B S tokens z) (ok_is (b.0, a.0.1) x b.2)
      (record { text = t.text; parts = t.parts; spelled = to a.0.0 b.0 t.text b.1 t.spelled });
  again = λ b text rest s.
      let a = from b text s in
      rw (agrees.again a.0 text rest a.2, a.1) refl;
}

-- one reader, and then another that may depend on the value of the first
pub then_agrees : {T F A : Type 0} {B : A → Type 0} {first : List T → Result (A × List T) F}
    {P : A → List T → Type 0} (next : (a : A) → List T → Result (B a × List T) F)
    (Q : (a : A) → B a → List T → Type 0) → Agrees A first P
    → ((a : A) → Agrees (B a) (next a) (Q a))
    → Agrees ((a : A) × B a)
    (λ tokens. first tokens >>= λ a. read_as (λ b. (a.0, b)) (next a.0 a.1))
    (λ both. IsJoined (P both.0) (Q both.0 both.1))
then_agrees {T = T} {F = F} {A = A} {B = B} {first = first} {P = P} next Q one two = record {
  takes = λ tokens x e.
      let a = bind_ok (first tokens) (λ a. read_as (λ b. (a.0, b)) (next a.0 a.1)) x e in
      let b = bind_ok (next a.0.0 a.0.1) (λ b. done F ((a.0.0, b.0), b.1)) x a.2 in
      let s = one.takes tokens a.0 a.1 in
      let t = (two a.0.0).takes a.0.1 b.0 b.1 in
      subst (λ (z : ((a : A) × B a) × List T). Took ((a : A) × B a)
      (λ both. IsJoined (P both.0) (Q both.0 both.1)) tokens z)
      (ok_is ((a.0.0, b.0.0), b.0.1) x b.2) (record {
        text = s.text ++ t.text;
        parts = rw (append_assoc s.text t.text b.0.1)
            (s.parts ∙ ap (λ (r : List T). s.text ++ r) t.parts);
        spelled = join s.text t.text s.spelled t.spelled;
      });
  again = λ both text rest j. rw (
    j.parts,
    append_assoc j.first j.others rest,
    one.again both.0 j.first (j.others ++ rest) j.is_first,
    (two both.0).again both.1 j.others rest j.are_others,
  ) refl;
}

-- ---- tokens and bytes

pub token_agrees : {T F : Type 0} (fault : F)
    → Agrees T (first_token fault) (λ token text. text ≡ token ∷ [])
token_agrees {T = T} {F = F} fault =
    record { takes = takes; again = λ token text rest s. rw s refl }
  where
    takes : (tokens : List T) (x : T × List T) → first_token fault tokens ≡ Ok x
        → Took T (λ token text. text ≡ token ∷ []) tokens x
    takes [] x e = absurd cc
    takes (token ∷ rest) x e = record {
      text = token ∷ [];
      parts = ap (λ (z : T × List T). token ∷ z.1) (ok_is {F = F} (token, rest) x e);
      spelled = ap (λ (z : T × List T). z.0 ∷ []) (ok_is {F = F} (token, rest) x e);
    }

-- the given number of bytes
abbrev pub AreBytes : ℕ → List ℕ → List ℕ → Type 0
AreBytes n bytes text = (length text ≡ n) × (bytes ≡ text)

pub bytes_agrees : {F : Type 0} (fault : F) (n : ℕ)
    → Agrees (List ℕ) (first_bytes fault n) (AreBytes n)
bytes_agrees {F = F} fault n = record {
  takes = λ bytes x e.
      let made : List ℕ × List ℕ = (take n bytes, drop n bytes) in
      let g = guard_ok (nat_le n (length bytes)) fault (done F made) x e in
      let long : n ≤ length bytes = leb-true n (length bytes) g.0 in
      let len : length (take n bytes) ≡ n = omega (arith, length-take n bytes) in
      subst (λ (z : List ℕ × List ℕ). Took (List ℕ) (AreBytes n) bytes z) (ok_is made x g.1)
      (record {
        text = take n bytes;
        parts = sym (take-append-drop n bytes);
        spelled = (len, refl);
      });
  again = λ bytes text rest s.
      let long : nat_le n (length (text ++ rest)) ≡ true =
      le-leb n (length (text ++ rest)) (omega (arith, s.0, length-append text rest)) in
      let front : take n (text ++ rest) ≡ text = take_at text rest n s.0 in
      let back : drop n (text ++ rest) ≡ rest = drop_at text rest n s.0 in
      rw (long, front, back) (ap (λ (bs : List ℕ). done F (bs, rest)) (sym s.1));
}

-- ---- a property of each token

abbrev pub AreAll : {T : Type 0} → (T → Type 0) → List T → Type 0
AreAll P [] = Unit {0}
AreAll P (x ∷ xs) = P x × AreAll P xs

-- of the two parts of a text
pub parts_all : {T : Type 0} (P : T → Type 0) {A B : List T → Type 0} {text : List T}
    → AreAll P text → (j : IsJoined A B text) → AreAll P j.first × AreAll P j.others
parts_all {T = T} P all j = split j.first (subst (AreAll P) j.parts all)
  where
    split : (a : List T) → AreAll P (a ++ j.others) → AreAll P a × AreAll P j.others
    split [] all = (tt, all)
    split (x ∷ a) all = let parts = split a all.1 in ((all.0, parts.0), parts.1)

-- ---- the laws

-- The laws of a format. A value that is read is spelled by the tokens read for it, and tokens that
-- spell a value are read as it; the text of a value that fits spells it; a value that tokens spell
-- fits, if each token is one.
pub record IsLawful {T F A : Type 0} (IsToken : T → Type 0) (f : Format T F A) : Type 0 where
  pub agrees : Agrees A f.read f.Spells
  pub written : (a : A) → f.Fits a → f.Spells a (f.text a)
  pub fitting : (a : A) (text : List T) → AreAll IsToken text → f.Spells a text → f.Fits a

-- ---- what follows of a whole text

module _ {T F A : Type 0} {IsToken : T → Type 0} {f : Format T F A} where
  -- a value that is read whole is spelled by the text
  pub found : (fault : F) → IsLawful IsToken f → (text : List T) (a : A)
      → whole_or fault (f.read text) ≡ Ok a → f.Spells a text
  found fault lawful text a e =
      let t = lawful.agrees.takes text (a, []) (whole (f.read text) e) in
      subst (λ (s : List T). f.Spells a s) (sym (t.parts ∙ append-nil t.text)) t.spelled
    where
      whole : (read : Result (A × List T) F) → whole_or fault read ≡ Ok a → read ≡ Ok (a, [])
      whole (Ok (b, [])) e = ap (λ (c : A). done F (c, [])) (ok_is {F = F} b a e)
      whole (Ok (b, token ∷ rest)) e = absurd cc
      whole (Err first) e = absurd cc

  -- a text that spells a value is read as it
  pub read_again : (fault : F) → IsLawful IsToken f → (text : List T) (a : A) → f.Spells a text
      → whole_or fault (f.read text) ≡ Ok a
  read_again fault lawful text a s =
      let e : f.read text ≡ Ok (a, []) =
      ap f.read (sym (append-nil text)) ∙ lawful.agrees.again a text [] s in
      rw e refl

  -- the text of a spelled value spells it too
  pub text_again : IsLawful IsToken f → (text : List T) (a : A) → AreAll IsToken text
      → f.Spells a text → f.Spells a (f.text a)
  text_again lawful text a all s = lawful.written a (lawful.fitting a text all s)

  -- no spelling begins another
  pub only_one : IsLawful IsToken f → (text rest : List T) (a b : A) → f.Spells a text
      → f.Spells b (text ++ rest) → (rest ≡ []) × (a ≡ b)
  only_one lawful text rest a b one other =
      let front : f.read (text ++ rest) ≡ Ok (a, rest) = lawful.agrees.again a text rest one in
      let whole : f.read (text ++ rest) ≡ Ok (b, []) =
      ap f.read (sym (append-nil (text ++ rest))) ∙ lawful.agrees.again b (text ++ rest) [] other in
      let same = ok_is (a, rest) (b, []) (sym front ∙ whole) in
      (ap (λ (z : A × List T). z.1) same, ap (λ (z : A × List T). z.0) same)

-- ---- formats made from others

-- a part whose value is made of another; each spelled value is taken apart again
pub seen_lawful : {T F A B : Type 0} {IsToken : T → Type 0} (to : A → B) (from : B → A)
    (part : Format T F A) → ((b : B) → to (from b) ≡ b)
    → ((a : A) (text : List T) → part.Spells a text → from (to a) ≡ a)
    → IsLawful IsToken part → IsLawful IsToken (iso to from part)
seen_lawful {T = T} {F = F} {B = B} to from part there back lawful = record {
  agrees = found_agrees (λ a. done F (to a)) (λ b text. part.Spells (from b) text) lawful.agrees
      (λ a b text e s. subst (λ a. part.Spells a text)
      (sym (back a text s) ∙ ap from (ok_is (to a) b e)) s)
      (λ b text s. (from b, ap (done F) (there b), s));
  written = λ b fit. lawful.written (from b) fit;
  fitting = λ b text all s. lawful.fitting (from b) text all s;
}

pub empty_lawful : {T F : Type 0} {IsToken : T → Type 0} → IsLawful IsToken (empty {T = T} {F = F})
empty_lawful {T = T} {F = F} = record {
  agrees = record {
    takes = λ tokens x e. record {
      text = [];
      parts = ap (λ (z : Unit {0} × List T). z.1) (ok_is {F = F} (tt, tokens) x e);
      spelled = refl;
    };
    again = λ nothing text rest s. rw s refl;
  };
  written = λ nothing fit. refl;
  fitting = λ nothing text all s. tt;
}

-- a part, and then another that may depend on the value of the first
pub then_lawful : {T F A : Type 0} {B : A → Type 0} {IsToken : T → Type 0} (first : Format T F A)
    (next : (a : A) → Format T F (B a)) → IsLawful IsToken first
    → ((a : A) → IsLawful IsToken (next a)) → IsLawful IsToken (first ▷ next)
then_lawful {IsToken = IsToken} first next one two = record {
  agrees = then_agrees (λ a. (next a).read) (λ a. (next a).Spells) one.agrees (λ a. (two a).agrees);
  written = λ both fit. join (first.text both.0) ((next both.0).text both.1)
      (one.written both.0 fit.0) ((two both.0).written both.1 fit.1);
  fitting = λ both text all j.
      let parts = parts_all IsToken all j in (
        one.fitting both.0 j.first parts.0 j.is_first,
        (two both.0).fitting both.1 j.others parts.1 j.are_others,
      );
}

pub both_lawful : {T F A B : Type 0} {IsToken : T → Type 0} (first : Format T F A)
    (second : Format T F B) → IsLawful IsToken first → IsLawful IsToken second
    → IsLawful IsToken (first & second)
both_lawful first second one two = then_lawful first (λ a. second) one (λ a. two)

-- a part for whose value another is found; each value is found for what is written for it
pub narrow_lawful : {T F A B : Type 0} {IsToken : T → Type 0} (fault : F) (find : A → Option B)
    (of : B → A) (part : Format T F A) → ((b : B) → find (of b) ≡ Some b)
    → ((a : A) → part.Fits a) → IsLawful IsToken part
    → IsLawful IsToken (narrow fault find of part)
narrow_lawful {F = F} {B = B} fault find of part named fits lawful = record {
  agrees = found_agrees (λ a. some_or fault (find a)) (narrow fault find of part).Spells
      lawful.agrees (λ a b text e s. (a, known (find a) b e, s))
      (λ b text s. (s.0, rw s.1 refl, s.2));
  written = λ b fit. (of b, named b, lawful.written (of b) fit);
  fitting = λ b text all s. fits (of b);
}
  where
    known : (found : Option B) (b : B) → some_or fault found ≡ Ok b → found ≡ Some b
    known None b e = absurd cc
    known (Some a) b e = ap (λ (c : B). Some c) (ok_is {F = F} a b e)

pub guard_holds : {F : Type 0} (test : Bool) (fault : F) → guard test fault ≡ Ok tt → test ≡ true
guard_holds true fault e = refl
guard_holds false fault e = absurd cc

-- this token, by a test of tokens that is their equality
pub record IsEquality {T : Type 0} (same : T → T → Bool) : Type 0 where
  pub equal : (a b : T) → same a b ≡ true → a ≡ b
  pub itself : (a : T) → same a a ≡ true

pub exactly_lawful : {T F : Type 0} {IsToken : T → Type 0} (same : T → T → Bool) (fault : F)
    (token : T) → IsEquality same → IsLawful IsToken (exactly same fault token)
exactly_lawful {T = T} {F = F} same fault token equality = record {
  agrees = found_agrees (λ t. guard (same t token) fault) (exactly same fault token).Spells
      (token_agrees fault)
      (λ t nothing text e s.
      s ∙ ap (λ (a : T). a ∷ []) (equality.equal t token (guard_holds (same t token) fault e)))
      (λ nothing text s. (token, rw (equality.itself token) refl, s));
  written = λ nothing fit. refl;
  fitting = λ nothing text all s. tt;
}

-- a part of which only the place is kept
pub dropped_lawful : {T F A : Type 0} {IsToken : T → Type 0} (sample : A) (part : Format T F A)
    → part.Fits sample → IsLawful IsToken part → IsLawful IsToken (placeholder sample part)
dropped_lawful {F = F} sample part fit lawful = record {
  agrees = found_agrees (λ a. done F tt) (placeholder sample part).Spells lawful.agrees
      (λ a nothing text e s. (a, s)) (λ nothing text s. (s.0, refl, s.1));
  written = λ nothing fits. (sample, lawful.written sample fit);
  fitting = λ nothing text all s. tt;
}
