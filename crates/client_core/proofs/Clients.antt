-- The state of a client after each call.
use Rattle.std.proofs.Common.{◌≡◌, ℕ, Bool, true, false, List, [], ◌++◌, Some, None, refl, sym, ◌∙◌, ap, append-nil, append_assoc, subst}
use Rattle.std.specs.Prelude.{unwrap_or, is_some, if◌then◌else◌, Option}
use Rattle.client_core.specs.declared.client.Client.{Client}
use Rattle.client_core.specs.declared.job.Verb.{Verb}
use Rattle.client_core.specs.declared.job.Outcome.{Outcome}
use Rattle.client_core.specs.declared.job.Outcome.TheVariants.{Unknown}
use Rattle.client_core.specs.declared.progress.Progress.{Progress}
use Rattle.client_core.specs.Replies.{new_progress}
use Rattle.client_core.specs.Outcomes.{progress_of, outcome_after, outcome_of}
use Rattle.client_core.specs.Steps.{progress_after_bytes, Hears}
use Rattle.client_core.specs.Standing.{AreLeft, Stands, Feeds, Tells}
use Rattle.client_core.proofs.Moving.{goes_settled}
use Rattle.client_core.proofs.Lookups.{progress_goes, nothing_said}

-- a new client
pub starts : (verb : Verb) (password : List ℕ) (c : Client) → c.verb ≡ verb → c.progress
    ≡ new_progress
    → c.deframer ≡ [] → c.is_ended ≡ false
    → AreLeft verb password 0 c.aarq c.request c.release → Stands verb password [] 0 false c
starts verb password c verb_is progress_is deframer_is ended_is left = record {
  verb_is = verb_is;
  now = progress_is ∙ sym (nothing_said verb);
  later = λ more. progress_goes verb more ∙ ap (λ (p : Progress). progress_after_bytes verb p more)
      (sym progress_is) ∙ ap (λ (bytes : List ℕ). progress_after_bytes verb c.progress
      (bytes ++ more))
      (sym deframer_is);
  left = left;
  over_is = ended_is;
}

-- bytes that are processed follow those fed before
heard_stands : (verb : Verb) (password fed bytes : List ℕ) (given : ℕ) (old new : Client)
    → Stands verb password fed given false old
    → Hears verb old.progress (old.deframer ++ bytes) new.progress new.deframer
    → new.verb ≡ old.verb → new.is_ended ≡ old.is_ended → new.aarq ≡ old.aarq → new.request
    ≡ old.request → new.release ≡ old.release
    → Stands verb password (fed ++ bytes) given false new
heard_stands verb password fed bytes given old new s h verb_is ended_is aarq_is request_is
    release_is = record {
      verb_is = verb_is ∙ s.verb_is;
      now =
          sym h.here ∙ ap (progress_after_bytes verb new.progress) (sym (append-nil new.deframer))
          ∙ sym (h.moves.on []) ∙ ap (progress_after_bytes verb old.progress)
          (append-nil (old.deframer ++ bytes))
          ∙ sym (s.later bytes);
      later = λ more.
          ap (progress_of verb) (append_assoc fed bytes more) ∙ s.later (bytes ++ more)
          ∙ ap (progress_after_bytes verb old.progress) (sym (append_assoc old.deframer bytes more))
          ∙ h.moves.on more;
      left = rw (aarq_is, request_is, release_is) s.left;
      over_is = ended_is ∙ s.over_is;
    }

-- bytes after the outcome is settled change nothing
settled_stands : (verb : Verb) (password fed bytes : List ℕ) (given : ℕ) (over : Bool) (c : Client)
    (outcome : Outcome) → Stands verb password fed given over c
    → c.progress.outcome ≡ Some outcome → Stands verb password (fed ++ bytes) given over c
settled_stands verb password fed bytes given over c outcome s is = record {
  verb_is = s.verb_is;
  now = sym (s.later bytes ∙ goes_settled verb c.progress outcome (c.deframer ++ bytes) is);
  later = λ more.
      ap (progress_of verb) (append_assoc fed bytes more) ∙ s.later (bytes ++ more)
      ∙ goes_settled verb c.progress outcome (c.deframer ++ (bytes ++ more)) is
      ∙ sym (goes_settled verb c.progress outcome (c.deframer ++ more) is);
  left = s.left;
  over_is = s.over_is;
}

-- a settled outcome remains, whatever bytes follow
stays_settled : (verb : Verb) (password fed : List ℕ) (given : ℕ) (over : Bool) (c : Client)
    → Stands verb password fed given over c
    → (outcome : Outcome) → outcome_after verb fed ≡ Some outcome → (more : List ℕ)
    → outcome_of verb (fed ++ more) ≡ outcome
unfolding outcome_of
stays_settled verb password fed given over c s outcome is more =
    let here : c.progress.outcome ≡ Some outcome = ap (λ (p : Progress). p.outcome) s.now ∙ is in
    ap (λ (p : Progress). unwrap_or p.outcome Unknown) (s.later more
    ∙ goes_settled verb c.progress outcome (c.deframer ++ more) here)
    ∙ ap (λ (o : Option Outcome). unwrap_or o Unknown) here

-- a call of feed on a client whose connection is over
fed_over : (verb : Verb) (password fed bytes : List ℕ) (given : ℕ) (over : Bool) (c : Client) → over
    ≡ true → Stands verb password fed given over c
    → Stands verb password (if over then fed else fed ++ bytes) given over c
fed_over verb password fed bytes given true c is s = s
fed_over verb password fed bytes given false c is s = absurd cc

pub feeds_over : (c : Client) (bytes : List ℕ) → c.is_ended ≡ true → Feeds c bytes c
feeds_over c bytes over = record {
  stands = λ verb password fed given ended s. fed_over verb password fed bytes given ended c
      (sym s.over_is ∙ over) s;
}

-- a call of feed on a client whose outcome is settled
some_outcome : (o : Option Outcome) → is_some o ≡ true → (outcome : Outcome) × (o ≡ Some outcome)
some_outcome (Some outcome) is = (outcome, refl)
some_outcome None is = absurd cc

fed_settled : (verb : Verb) (password fed bytes : List ℕ) (given : ℕ) (over : Bool) (c : Client)
    (outcome : Outcome) → Stands verb password fed given over c
    → c.progress.outcome ≡ Some outcome → Stands verb password (if over then fed else fed
    ++ bytes) given over c
fed_settled verb password fed bytes given true c outcome s is = s
fed_settled verb password fed bytes given false c outcome s is =
    settled_stands verb password fed bytes given false c outcome s is

pub feeds_settled : (c : Client) (bytes : List ℕ) → is_some c.progress.outcome ≡ true
    → Feeds c bytes c
feeds_settled c bytes some = record {
  stands = λ verb password fed given ended s. let is = some_outcome c.progress.outcome some
      in fed_settled verb password fed bytes given ended c is.0 s is.1;
}

-- a call of feed that processed the bytes
fed_heard : (verb : Verb) (password fed bytes : List ℕ) (given : ℕ) (over : Bool) (old : Client)
    (progress : Progress) (deframer : List ℕ)
    → Hears old.verb old.progress (old.deframer ++ bytes) progress deframer → over ≡ false
    → Stands verb password fed given over old
    → Stands verb password (if over then fed else fed ++ bytes) given over
    (record old { progress = progress; deframer = deframer })
fed_heard verb password fed bytes given true old progress deframer hears is s = absurd cc
fed_heard verb password fed bytes given false old progress deframer hears is s =
    heard_stands verb password fed bytes given old
    (record old { progress = progress; deframer = deframer }) s
    (subst (λ (v : Verb). Hears v old.progress (old.deframer ++ bytes) progress deframer) s.verb_is
    hears) refl refl refl refl refl

pub feeds_heard : (old : Client) (bytes : List ℕ) (progress : Progress) (deframer : List ℕ)
    → Hears old.verb old.progress (old.deframer ++ bytes) progress deframer
    → old.is_ended ≡ false → Feeds old bytes (record old {
      progress = progress;
      deframer = deframer;
    })
feeds_heard old bytes progress deframer hears open_still = record {
  stands = λ verb password fed given ended s. fed_heard verb password fed bytes given ended old
      progress deframer hears (sym s.over_is ∙ open_still) s;
}

-- the outcome if the connection is over
told_ended : (verb : Verb) (fed : List ℕ) (over : Bool) (p : Progress) → over ≡ true → p
    ≡ progress_of verb fed
    → Some (unwrap_or p.outcome Unknown) ≡ (if over then Some
    (outcome_of verb fed) else outcome_after verb fed)
unfolding outcome_of
told_ended verb fed true p is now = ap (λ (q : Progress). Some (unwrap_or q.outcome Unknown)) now
told_ended verb fed false p is now = absurd cc

pub tells_ended : (c : Client) → c.is_ended ≡ true
    → Tells c (Some (unwrap_or c.progress.outcome Unknown))
tells_ended c over = record {
  told = λ verb password fed given ended s.
      told_ended verb fed ended c.progress (sym s.over_is ∙ over) s.now;
  stays = λ verb password fed given ended s. stays_settled verb password fed given ended c s;
}

-- the outcome if the connection is open
told_open : (verb : Verb) (fed : List ℕ) (over : Bool) (p : Progress) → over ≡ false → p
    ≡ progress_of verb fed
    → p.outcome ≡ (if over then Some (outcome_of verb fed) else outcome_after verb fed)
told_open verb fed true p is now = absurd cc
told_open verb fed false p is now = ap (λ (q : Progress). q.outcome) now

pub tells_open : (c : Client) → c.is_ended ≡ false → Tells c c.progress.outcome
tells_open c open_still = record {
  told = λ verb password fed given ended s.
      told_open verb fed ended c.progress (sym s.over_is ∙ open_still) s.now;
  stays = λ verb password fed given ended s. stays_settled verb password fed given ended c s;
}
