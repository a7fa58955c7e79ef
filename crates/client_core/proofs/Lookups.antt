-- Interpreting the first two payloads is interpreting all payloads in order.
use Rattle.std.proofs.Common.{◌≡◌, ◌⊎◌, ℕ, Bool, true, false, List, [], ◌∷◌, Ok, Err, refl, sym, ◌∙◌, ap, inl, inr}
use Rattle.std.specs.Prelude.{Result, ◌==◌, if◌then◌else◌}
use Rattle.wrapper_frame.specs.Header.{head_of}
use Rattle.wrapper_frame.specs.Messages.{frames_of, rest_of, cut_in}
use Rattle.acse_ber.specs.Reading.{aare_of}
use Rattle.acse_ber.specs.declared.aare.Aare.{Aare}
use Rattle.acse_ber.specs.declared.fault.AcseFault.{AcseFault}
use Rattle.client_core.specs.declared.job.Verb.{Verb}
use Rattle.client_core.specs.declared.job.Outcome.{Outcome}
use Rattle.client_core.specs.declared.job.Outcome.TheVariants.{Rejected, Unknown}
use Rattle.client_core.specs.declared.progress.Progress.{Progress}
use Rattle.client_core.specs.Replies.{new_progress, asking_progress, with_outcome, is_granted, progress_by_aare, progress_after_aare, outcome_of_response}
use Rattle.client_core.specs.Outcomes.{payloads_of, with_answer, progress_by_payloads, progress_by_head, progress_of}
use Rattle.client_core.specs.Steps.{progress_after_all, progress_after_bytes}
use Rattle.client_core.proofs.Moving.{all_settled}

-- the association is open, or the outcome is settled
abbrev IsOpening : Progress → Type 0
IsOpening p = (p ≡ asking_progress) ⊎ ((outcome : Outcome) × (p ≡ with_outcome outcome))

opening_tests : (accepts granted : Bool) (diagnostic : ℕ)
    → IsOpening (if accepts then (if granted then asking_progress else with_outcome (Rejected 0))
    else with_outcome (Rejected diagnostic))
opening_tests true true diagnostic = inl refl
opening_tests true false diagnostic = inr (Rejected 0, refl)
opening_tests false granted diagnostic = inr (Rejected diagnostic, refl)

opening_by : (verb : Verb) (aare : Result Aare AcseFault) → IsOpening (progress_by_aare verb aare)
opening_by verb (Ok aare) = opening_tests (aare.result == 0) (is_granted verb aare.info)
    aare.diagnostic
opening_by verb (Err fault) = inr (Unknown, refl)

opening : (verb : Verb) (payload : List ℕ) → IsOpening (progress_after_aare verb payload)
unfolding progress_after_aare
opening verb payload = opening_by verb (aare_of payload)

asking_answered : (verb : Verb) (later : List (List ℕ)) → with_answer verb asking_progress later
    ≡ progress_after_all verb asking_progress later
asking_answered verb [] = refl
asking_answered verb (answer ∷ later) = sym (all_settled verb true (outcome_of_response verb answer)
    later)

settled_answered : (verb : Verb) (outcome : Outcome) (later : List (List ℕ))
    → with_answer verb (with_outcome outcome) later
    ≡ progress_after_all verb (with_outcome outcome) later
settled_answered verb outcome [] = refl
settled_answered verb outcome (answer ∷ later) = sym (all_settled verb false outcome later)

opening_answered : (verb : Verb) (p : Progress) (later : List (List ℕ)) → IsOpening p
    → with_answer verb p later ≡ progress_after_all verb p later
opening_answered verb p later (inl is) = ap (λ (q : Progress). with_answer verb q later) is
    ∙ asking_answered verb later ∙ sym (ap (λ (q : Progress). progress_after_all verb q later) is)
opening_answered verb p later (inr (outcome, is)) =
    ap (λ (q : Progress). with_answer verb q later) is ∙ settled_answered verb outcome later
    ∙ sym (ap (λ (q : Progress). progress_after_all verb q later) is)

-- the two interpretations are equal
pub said_all : (verb : Verb) (payloads : List (List ℕ)) → progress_by_payloads verb payloads
    ≡ progress_after_all verb new_progress payloads
said_all verb [] = refl
said_all verb (aare ∷ later) = opening_answered verb (progress_after_aare verb aare) later
    (opening verb aare)

-- the progress of all bytes is their effect on a client that was fed nothing
pub progress_goes : (verb : Verb) (bytes : List ℕ) → progress_of verb bytes
    ≡ progress_after_bytes verb new_progress bytes
unfolding progress_of progress_after_bytes
progress_goes verb bytes = ap (λ (p : Progress). progress_by_head p (head_of (rest_of bytes)))
    (said_all verb (payloads_of (frames_of bytes)))

-- the progress of no bytes
pub nothing_said : (verb : Verb) → progress_of verb [] ≡ new_progress
unfolding progress_of frames_of rest_of head_of cut_in
nothing_said verb = refl
