-- The messages that may be sent, and those that a client returned.
use Rattle.std.proofs.Common.{◌≡◌, ◌≤◌, ℕ, zero, suc, Bool, true, false, List, [], ◌∷◌, ◌++◌, length, Some, None, refl, sym, ap, ◌∙◌, append-nil, append_assoc, arith}
use Rattle.std.specs.Prelude.{if◌then◌else◌}
use Rattle.std.specs.List.{concat}
use Rattle.client_core.specs.declared.job.Verb.{Verb}
use Rattle.client_core.specs.Texts.{aarq_frame, request_frame, release_frame, text_at}
use Rattle.head_end.specs.Logs.{IsFront}
use Rattle.head_end.specs.Wires.{given_text}

-- the messages that may be sent, by the progress
abbrev pub due_by : Verb → List ℕ → (accepted served : Bool) → List (List ℕ)
due_by verb password accepted served =
    aarq_frame password ∷ (if accepted then request_frame verb ∷
    (if served then release_frame ∷ [] else []) else [])

-- the message at an index follows those before it
pub given_by : (verb : Verb) (password text : List ℕ) (accepted served : Bool) (given : ℕ)
    → Some text ≡ text_at (due_by verb password accepted served) given
    → given_text verb password given ++ text ≡ given_text verb password (suc given)
given_by verb password text accepted served zero is = cc
given_by verb password text true served (suc zero) is = ap (λ
    (t : List ℕ). aarq_frame password ++ t) (let same : text ≡ request_frame verb = cc in same)
given_by verb password text false served (suc zero) is = absurd cc
given_by verb password text true true (suc (suc zero)) is =
    append_assoc (aarq_frame password) (request_frame verb) text
    ∙ ap (λ (t : List ℕ). aarq_frame password ++ (request_frame verb ++ t)) (let same : text
    ≡ release_frame = cc in same)
given_by verb password text true false (suc (suc zero)) is = absurd cc
given_by verb password text false served (suc (suc zero)) is = absurd cc
given_by verb password text true true (suc (suc (suc given))) is = absurd cc
given_by verb password text true false (suc (suc (suc given))) is = absurd cc
given_by verb password text false served (suc (suc (suc given))) is = absurd cc

-- a message that is returned is one of those that may be sent
pub given_within : (verb : Verb) (password text : List ℕ) (accepted served : Bool) (given : ℕ)
    → Some text ≡ text_at (due_by verb password accepted served) given
    → suc given ≤ length (due_by verb password accepted served)
given_within verb password text accepted served zero is = omega arith
given_within verb password text true served (suc zero) is = omega arith
given_within verb password text false served (suc zero) is = absurd cc
given_within verb password text true true (suc (suc zero)) is = omega arith
given_within verb password text true false (suc (suc zero)) is = absurd cc
given_within verb password text false served (suc (suc zero)) is = absurd cc
given_within verb password text true true (suc (suc (suc given))) is = absurd cc
given_within verb password text true false (suc (suc (suc given))) is = absurd cc
given_within verb password text false served (suc (suc (suc given))) is = absurd cc

-- if no message is left, all that may be sent were returned
pub all_given : (verb : Verb) (password : List ℕ) (accepted served : Bool) (given : ℕ)
    → given ≤ length (due_by verb password accepted served)
    → None ≡ text_at (due_by verb password accepted served) given
    → given_text verb password given ≡ concat (due_by verb password accepted served)
all_given verb password accepted served zero within is = absurd cc
all_given verb password true served (suc zero) within is = absurd cc
all_given verb password false served (suc zero) within is = sym (append-nil (aarq_frame password))
all_given verb password true true (suc (suc zero)) within is = absurd cc
all_given verb password true false (suc (suc zero)) within is =
    ap (λ (t : List ℕ). aarq_frame password ++ t) (sym (append-nil (request_frame verb)))
all_given verb password false served (suc (suc zero)) within is = absurd (omega arith)
all_given verb password true true (suc (suc (suc zero))) within is =
    ap (λ (t : List ℕ). aarq_frame password ++ (request_frame verb ++ t)) (sym
    (append-nil release_frame))
all_given verb password true false (suc (suc (suc zero))) within is = absurd (omega arith)
all_given verb password false served (suc (suc (suc zero))) within is = absurd (omega arith)
all_given verb password true true (suc (suc (suc (suc given)))) within is = absurd (omega arith)
all_given verb password true false (suc (suc (suc (suc given)))) within is = absurd (omega arith)
all_given verb password false served (suc (suc (suc (suc given)))) within is = absurd (omega arith)

-- three messages are all
pub three_given : (verb : Verb) (password : List ℕ) (accepted served : Bool) (given : ℕ)
    → 3 ≤ given → given ≤ length (due_by verb password accepted served)
    → None ≡ text_at (due_by verb password accepted served) given
three_given verb password accepted served zero many within = absurd (omega arith)
three_given verb password accepted served (suc zero) many within = absurd (omega arith)
three_given verb password accepted served (suc (suc zero)) many within = absurd (omega arith)
three_given verb password true true (suc (suc (suc given))) many within = refl
three_given verb password true false (suc (suc (suc given))) many within = refl
three_given verb password false served (suc (suc (suc given))) many within = refl

-- the messages returned are a prefix of those that may be sent
pub given_front : (verb : Verb) (password : List ℕ) (accepted served : Bool) (given : ℕ)
    → given ≤ length (due_by verb password accepted served)
    → IsFront (given_text verb password given) (concat (due_by verb password accepted served))
given_front verb password accepted served zero within = record {
  rest = concat
      (due_by verb password accepted served);
  parts = refl;
}
given_front verb password true true (suc zero) within = record {
  rest = concat
      (request_frame verb ∷ release_frame ∷ []);
  parts = refl;
}
given_front verb password true false (suc zero) within = record {
  rest = concat
      (request_frame verb ∷ []);
  parts = refl;
}
given_front verb password false served (suc zero) within = record { rest = []; parts = refl }
given_front verb password true true (suc (suc zero)) within = record {
  rest = concat (release_frame ∷ []);
  parts = sym (append_assoc (aarq_frame password) (request_frame verb) (release_frame ++ []));
}
given_front verb password true false (suc (suc zero)) within = record {
  rest = [];
  parts = sym
      (append_assoc (aarq_frame password) (request_frame verb) []);
}
given_front verb password false served (suc (suc zero)) within = absurd (omega arith)
given_front verb password true true (suc (suc (suc given))) within = record {
  rest = [];
  parts =
      ap (λ (t : List ℕ). aarq_frame password ++ t) (sym (append_assoc
      (request_frame verb) release_frame []))
      ∙ sym (append_assoc (aarq_frame password) (request_frame verb ++ release_frame) []);
}
given_front verb password true false (suc (suc (suc given))) within = absurd (omega arith)
given_front verb password false served (suc (suc (suc given))) within = absurd (omega arith)

-- and so is a prefix of the next message after them
pub front_more : (all before text front : List ℕ) → IsFront front text
    → IsFront (before ++ text) all → IsFront (before ++ front) all
front_more all before text front within is = record {
  rest = within.rest ++ is.rest;
  parts =
      is.parts ∙ ap (λ (t : List ℕ). (before ++ t) ++ is.rest) within.parts
      ∙ ap (λ (t : List ℕ). t ++ is.rest) (sym (append_assoc before front within.rest))
      ∙ append_assoc (before ++ front) within.rest is.rest;
}

-- after more progress no fewer messages may be sent
pub due_grows : (verb : Verb) (password : List ℕ) (old now served : Bool) → (old ≡ true
    → now ≡ true)
    → length (due_by verb password old false) ≤ length (due_by verb password now served)
due_grows verb password false now served stays = omega arith
due_grows verb password true true true stays = omega arith
due_grows verb password true true false stays = omega arith
due_grows verb password true false served stays = absurd (let is : false ≡ true = stays refl in cc)
