-- A choice of lawful formats is lawful.
use Rattle.std.proofs.Common.{◌≡◌, ◌⊎◌, Bool, true, false, not, if◌then◌else◌, List, [], ◌∷◌, ◌++◌}
use Rattle.std.proofs.Common.{Result, Ok, refl, sym, ap, subst, ◌∙◌, inl, inr}
use Rattle.std.proofs.lemmas.Bool.{and_parts, or_right, cases_Bool}
use Rattle.wire_bytes.specs.Format.{IsTagged, IsMade}
use Rattle.wire_bytes.specs.Choice.{Choice, otherwise, on, under, Parts, value_of, keyed_read}
use Rattle.wire_bytes.specs.Choice.{next_read, keyed_text, KeyedFits, KeyedSpells, has_key}
use Rattle.wire_bytes.specs.Choice.{is_distinct, choice_by}
use Rattle.wire_bytes.specs.Outcome.{◌>>=◌}
use Rattle.wire_bytes.specs.Reading.{first_token}
use Rattle.wire_bytes.proofs.Lawful.{Took, Agrees, found_agrees, AreAll, IsLawful, IsEquality}
use Rattle.wire_bytes.proofs.OutcomeLemmas.{done, ok_is, chosen}

-- each part of a choice is lawful
abbrev pub AreLawful : {T F A : Type 0} → (T → Type 0) → Choice T F A → Type 0
AreLawful IsToken (otherwise fault) = Unit {0}
AreLawful IsToken (on key part make others) = IsLawful IsToken part × AreLawful IsToken others
AreLawful IsToken (under key missing inner others) =
    AreLawful IsToken inner × AreLawful IsToken others

module _ {T F A : Type 0} (IsToken : T → Type 0) (same : T → T → Bool)
    (equality : IsEquality same) where
  -- ---- reading and spelling

  -- a spelling begins with a key of the choice
  spelled_key : (c : Choice T F A) (a : A) (tokens : List T) → KeyedSpells c a tokens
      → (key : T) × (rest : List T) × (tokens ≡ key ∷ rest) × (has_key same key c ≡ true)
  spelled_key (otherwise fault) a tokens none = absurd none
  spelled_key (on key part make others) a tokens (inl s) =
      (key, s.contents, s.parts, rw equality.itself refl)
  spelled_key (under key missing inner others) a tokens (inl s) =
      (key, s.contents, s.parts, rw equality.itself refl)
  spelled_key (on key part make others) a tokens (inr s) =
      let k = spelled_key others a tokens s in (k.0, k.1, k.2, or_right _ _ k.3)
  spelled_key (under key missing inner others) a tokens (inr s) =
      let k = spelled_key others a tokens s in (k.0, k.1, k.2, or_right _ _ k.3)

  -- a key that others don't have is not the first token of one of them
  other_key : (key token : T) (others : Choice T F A) → not (has_key same key others) ≡ true
      → has_key same token others ≡ true → same token key ≡ false
  other_key key token others none has = elim (cases_Bool (same token key)) [
    | inl e ↦
        let h : has_key same key others ≡ true = rw (sym (equality.equal token key e)) has in
        absurd (clash (has_key same key others) none h)
    | inr e ↦ e
  ]
    where
      clash : (b : Bool) → not b ≡ true → b ≡ true → ⊥
      clash true n h = cc
      clash false n h = cc

  -- what is read after a key, or one of the others
  abbrev keyed_or : F → T → (List T → Result (A × List T) F) → Choice T F A → List T
      → Result (A × List T) F
  keyed_or missing key body others tokens = first_token missing tokens >>= λ next.
      if same next.0 key then body next.1 else keyed_read same others next.0 next.1

  abbrev SpellsOr : T → (A → List T → Type 0) → Choice T F A → A → List T → Type 0
  SpellsOr key Body others a tokens = IsTagged key (Body a) tokens ⊎ KeyedSpells others a tokens

  key_agrees : (missing : F) (key : T) (others : Choice T F A)
      {body : List T → Result (A × List T) F} {Body : A → List T → Type 0}
      → not (has_key same key others) ≡ true → Agrees A body Body
      → Agrees A (next_read same missing others) (KeyedSpells others)
      → Agrees A (keyed_or missing key body others) (SpellsOr key Body others)
  key_agrees missing key others {body = body} {Body = Body} distinct one two =
      record { takes = takes; again = again }
    where
      takes : (tokens : List T) (x : A × List T) → keyed_or missing key body others tokens ≡ Ok x
          → Took A (SpellsOr key Body others) tokens x
      takes [] x e = absurd cc
      takes (token ∷ rest) x e =
          elim (chosen (same token key) _ _ _ e) [
            | inl h ↦
                let t = one.takes rest x h.1 in
                record {
                  text = token ∷ t.text;
                  parts = ap (λ (r : List T). token ∷ r) t.parts;
                  spelled = inl (record {
                    contents = t.text;
                    parts = ap (λ (k : T). k ∷ t.text) (equality.equal token key h.0);
                    are_contents = t.spelled;
                  });
                }
            | inr h ↦
                let t = two.takes (token ∷ rest) x h.1 in
                record { text = t.text; parts = t.parts; spelled = inr t.spelled }
          ]

      again : (a : A) (text rest : List T) → SpellsOr key Body others a text
          → keyed_or missing key body others (text ++ rest) ≡ Ok (a, rest)
      again a text rest (inl s) =
          rw (s.parts, equality.itself key, one.again a s.contents rest s.are_contents) refl
      again a text rest (inr s) =
          let k = spelled_key others a text s in
          let e : next_read same missing others (text ++ rest) ≡ Ok (a, rest) =
          two.again a text rest s in
          rw (k.2, other_key key k.0 others distinct k.3) (rw k.2 at e)

  keyed_agrees : (missing : F) (c : Choice T F A) → is_distinct same c ≡ true
      → AreLawful IsToken c → Agrees A (next_read same missing c) (KeyedSpells c)
  keyed_agrees missing (otherwise fault) distinct lawful =
      record { takes = none; again = λ a text rest s. absurd s }
    where
      none : (tokens : List T) (x : A × List T)
          → next_read same missing (otherwise fault) tokens ≡ Ok x
          → Took A (λ a text. ⊥) tokens x
      none [] x e = absurd cc
      none (token ∷ rest) x e = absurd cc
  keyed_agrees missing (on key part make others) distinct lawful =
      let d = and_parts _ _ distinct in
      let made = found_agrees (λ x. done F (make x)) (IsMade make part.Spells) lawful.0.agrees
      (λ x a text e s. (x, ok_is (make x) a e, s)) (λ a text s. (s.0, ap (done F) s.1, s.2)) in
      key_agrees missing key others d.0 made (keyed_agrees missing others d.1 lawful.1)
  keyed_agrees missing (under key none inner others) distinct lawful =
      let d = and_parts _ _ distinct in
      let e = and_parts _ _ d.0 in
      key_agrees missing key others e.0 (keyed_agrees none inner e.1 lawful.0)
      (keyed_agrees missing others d.1 lawful.1)

  -- ---- text and fitness

  keyed_written : (c : Choice T F A) → AreLawful IsToken c → (p : Parts c) → KeyedFits c p
      → KeyedSpells c (value_of c p) (keyed_text c p)
  keyed_written (otherwise fault) lawful p fit = absurd p
  keyed_written (on key part make others) lawful (inl x) fit = inl (record {
    contents = part.text x;
    parts = refl;
    are_contents = (x, refl, lawful.0.written x fit);
  })
  keyed_written (under key missing inner others) lawful (inl p) fit = inl (record {
    contents = keyed_text inner p;
    parts = refl;
    are_contents = keyed_written inner lawful.0 p fit;
  })
  keyed_written (on key part make others) lawful (inr p) fit =
      inr (keyed_written others lawful.1 p fit)
  keyed_written (under key missing inner others) lawful (inr p) fit =
      inr (keyed_written others lawful.1 p fit)

  -- a spelled value is made of a part that fits
  keyed_fit : (c : Choice T F A) → AreLawful IsToken c → (a : A) (text : List T)
      → AreAll IsToken text → KeyedSpells c a text
      → (p : Parts c) × (value_of c p ≡ a) × KeyedFits c p
  keyed_fit (otherwise fault) lawful a text all none = absurd none
  keyed_fit (on key part make others) lawful a text all (inl s) =
      let x = s.are_contents in
      let fit = lawful.0.fitting x.0 s.contents (subst (AreAll IsToken) s.parts all).1 x.2 in
      (inl x.0, x.1, fit)
  keyed_fit (under key missing inner others) lawful a text all (inl s) =
      let p = keyed_fit inner lawful.0 a s.contents (subst (AreAll IsToken) s.parts all).1
      s.are_contents in
      (inl p.0, p.1, p.2)
  keyed_fit (on key part make others) lawful a text all (inr s) =
      let p = keyed_fit others lawful.1 a text all s in (inr p.0, p.1, p.2)
  keyed_fit (under key missing inner others) lawful a text all (inr s) =
      let p = keyed_fit others lawful.1 a text all s in (inr p.0, p.1, p.2)

  -- ---- a choice

  -- a choice of lawful formats with different first tokens, whose values are taken apart as they
  -- are made
  pub keyed_lawful : (missing : F) (c : Choice T F A) (parts : A → Parts c)
      → ((a : A) → value_of c (parts a) ≡ a) → ((p : Parts c) → parts (value_of c p) ≡ p)
      → is_distinct same c ≡ true → AreLawful IsToken c
      → IsLawful IsToken (choice_by same missing c parts)
  keyed_lawful missing c parts there back distinct lawful = record {
    agrees = keyed_agrees missing c distinct lawful;
    written = λ a fit. subst (λ (b : A). KeyedSpells c b (keyed_text c (parts a))) (there a)
        (keyed_written c lawful (parts a) fit);
    fitting = λ a text all s.
        let p = keyed_fit c lawful a text all s in
        subst (KeyedFits c) (sym (back p.0) ∙ ap parts p.1) p.2;
  }
