-- What an exchange sends: no more than its three texts, in their order.
use Rattle.std.proofs.Common.{◌≡◌, ℕ, Bool, true, false, List, [], ◌∷◌, ◌++◌, Option, Some, map, refl, sym, ap, subst, ◌∙◌, append-nil, append_assoc}
use Rattle.std.specs.Prelude.{IfOk, Result, Ok, Err, is_some, if◌then◌else◌}
use Rattle.std.specs.List.{concat}
use Rattle.client_core.specs.declared.client.Client.{Client}
use Rattle.client_core.specs.declared.job.Outcome.{Outcome}
use Rattle.client_core.specs.declared.job.Verb.{Verb}
use Rattle.client_core.specs.Outcomes.{progress_of, is_served}
use Rattle.client_core.specs.Standing.{Stands}
use Rattle.client_core.specs.Texts.{aarq_frame, request_frame, release_frame}
use Rattle.head_end.specs.Conversations.{Speaks, outcome_in}
use Rattle.head_end.specs.Logs.{Happening, heard, heard_nothing, sent, cut_off, bytes_received, bytes_sent, IsFront}
use Rattle.head_end.specs.Wires.{due_text, IsDueNext, Permits, HasConversed}

-- the AARQ, the request and the release
abbrev all_texts : Verb → List ℕ → List ℕ
all_texts verb password = aarq_frame password ++ (request_frame verb ++ release_frame)

-- the texts that are sent, by whether the association was accepted and the request served
abbrev due_by : Verb → List ℕ → (accepted served : Bool) → List (List ℕ)
due_by verb password accepted served =
    aarq_frame password ∷ (if accepted then request_frame verb ∷
    (if served then release_frame ∷ [] else []) else [])

by_front : (verb : Verb) (password : List ℕ) (accepted served : Bool)
    → IsFront (concat (due_by verb password accepted served)) (all_texts verb password)
by_front verb password true true = record { rest = []; parts = simp append-nil }
by_front verb password true false = record {
  rest = release_frame;
  parts = simp (append-nil, append_assoc);
}
by_front verb password false served = record {
  rest = request_frame verb ++ release_frame;
  parts = simp append-nil;
}

due_front : (verb : Verb) (password bytes : List ℕ)
    → IsFront (due_text verb password bytes) (all_texts verb password)
unfolding due_text
due_front verb password bytes =
    by_front verb password (progress_of verb bytes).accepted
    (is_served (progress_of verb bytes).outcome)

front_trans : (a b c : List ℕ) → IsFront a b → IsFront b c → IsFront a c
front_trans a b c one two = record {
  rest = one.rest ++ two.rest;
  parts =
      two.parts ∙ ap (λ (t : List ℕ). t ++ two.rest) one.parts
      ∙ append_assoc a one.rest two.rest;
}

sent_append : (log next : List Happening) → bytes_sent (log ++ next) ≡ bytes_sent log ++ bytes_sent
    next
unfolding bytes_sent
sent_append [] next = refl
sent_append (heard bytes ∷ log) next = sent_append log next
sent_append (heard_nothing ∷ log) next = sent_append log next
sent_append (sent bytes ∷ log) next =
    ap (λ (t : List ℕ). bytes ++ t) (sent_append log next)
    ∙ sym (append_assoc bytes (bytes_sent log) (bytes_sent next))
sent_append (cut_off bytes ∷ log) next =
    ap (λ (t : List ℕ). bytes ++ t) (sent_append log next)
    ∙ sym (append_assoc bytes (bytes_sent log) (bytes_sent next))

one_heard : (bytes : List ℕ) → bytes_sent (heard bytes ∷ []) ≡ []
unfolding bytes_sent
one_heard bytes = refl

none_heard : bytes_sent (heard_nothing ∷ []) ≡ []
unfolding bytes_sent
none_heard = refl

one_sent : (bytes : List ℕ) → bytes_sent (sent bytes ∷ []) ≡ bytes
unfolding bytes_sent
one_sent bytes = append-nil bytes

one_cut : (bytes : List ℕ) → bytes_sent (cut_off bytes ∷ []) ≡ bytes
unfolding bytes_sent
one_cut bytes = append-nil bytes

none_sent : bytes_sent [] ≡ []
unfolding bytes_sent
none_sent = refl

module _ (verb : Verb) (password : List ℕ) where
  abbrev IsInOrder : List Happening → Type 0
  IsInOrder log = IsFront (bytes_sent log) (all_texts verb password)

  -- nothing more was sent
  none_more : (log : List Happening) (one : Happening) → bytes_sent (one ∷ []) ≡ []
      → IsInOrder log → IsInOrder (log ++ one ∷ [])
  none_more log one none front =
      subst (λ (t : List ℕ). IsFront t (all_texts verb password))
      (sym (sent_append log (one ∷ []) ∙ ap (λ (t : List ℕ). bytes_sent log ++ t) none
      ∙ append-nil (bytes_sent log))) front

  -- the next bytes were sent
  one_more : (log : List Happening) (one : Happening) (bytes : List ℕ)
      → bytes_sent (one ∷ []) ≡ bytes → IsDueNext verb password log bytes
      → IsInOrder (log ++ one ∷ [])
  one_more log one bytes is due =
      subst (λ (t : List ℕ). IsFront t (all_texts verb password))
      (sym (sent_append log (one ∷ []) ∙ ap (λ (t : List ℕ). bytes_sent log ++ t) is))
      (front_trans (bytes_sent log ++ bytes) (due_text verb password (bytes_received log))
      (all_texts verb password)
      due (due_front verb password (bytes_received log)))

  -- nothing follows
  at_end : (log : List Happening) (one : Happening) (later : List Happening) → later ≡ []
      → IsInOrder (log ++ one ∷ []) → IsInOrder (log ++ one ∷ later)
  at_end log one later none front =
      subst (λ (l : List Happening). IsInOrder (log ++ one ∷ l)) (sym none) front

  goes_in_order : (whole : Bool) (log later : List Happening)
      → Permits whole verb password log later
      → IsInOrder log → IsInOrder (log ++ later)
  goes_in_order whole log [] goes front = subst IsInOrder (sym (append-nil log)) front
  goes_in_order whole log (heard bytes ∷ later) goes front =
      subst IsInOrder (append_assoc log (heard bytes ∷ []) later)
      (goes_in_order whole (log ++ heard bytes ∷ []) later goes.1
      (none_more log (heard bytes) (one_heard bytes) front))
  goes_in_order whole log (heard_nothing ∷ later) goes front =
      at_end log heard_nothing later goes.1 (none_more log heard_nothing none_heard front)
  goes_in_order whole log (sent bytes ∷ later) goes front =
      subst IsInOrder (append_assoc log (sent bytes ∷ []) later)
      (goes_in_order whole (log ++ sent bytes ∷ []) later goes.1
      (one_more log (sent bytes) bytes (one_sent bytes) goes.0))
  goes_in_order whole log (cut_off bytes ∷ later) goes front =
      at_end log (cut_off bytes) later goes.1
      (one_more log (cut_off bytes) bytes (one_cut bytes) goes.0)

  -- nothing was sent
  pub nothing_sent : (log : List Happening) → log ≡ []
      → IsFront (bytes_sent log) (aarq_frame password ++ (request_frame verb ++ release_frame))
  nothing_sent log none = record {
    rest = all_texts verb password;
    parts = ap (λ (t : List ℕ). t ++ all_texts verb password) (sym
        (ap bytes_sent none ∙ none_sent));
  }

  conversed_in_order : (outcome : Option Outcome) (log : List Happening)
      → HasConversed verb password outcome (Some log) → IsInOrder log
  conversed_in_order outcome log conversed =
      let same : log ≡ conversed.log = let is = conversed.log_is in cc in
      subst IsInOrder (sym same)
      (goes_in_order (is_some outcome) [] conversed.log conversed.conversation
      (nothing_sent [] refl))

  -- a new client over a new connection sends in order
  pub sent_in_order : {E : Type 0} (client : Client) (before after : List Happening)
      (result : Result Outcome E) → Stands verb password [] 0 false client → before ≡ []
      → Speaks client (Some before) result (Some after)
      → IsFront (bytes_sent after) (aarq_frame password ++ (request_frame verb ++ release_frame))
  sent_in_order client before after result stands none speaks =
      conversed_in_order (outcome_in result) after (speaks.on verb password stands (ap Some none))

  pub conversed : {E X : Type 0} (f : X → Happening) (client : Client) (items later : List X)
      (result : Result Outcome E) → Stands verb password [] 0 false client → items ≡ []
      → Speaks client (Some (map f items)) result (Some (map f later))
      → IfOk result (λ (outcome : Outcome).
      HasConversed verb password (Some outcome) (Some (map f later)))
  conversed {X = X} f client items later (Ok outcome) stands none speaks =
      speaks.on verb password stands (ap (λ (xs : List X). Some (map f xs)) none)
  conversed f client items later (Err error) stands none speaks = tt

pub ruleset in_order = (nothing_sent, sent_in_order)
