-- Bytes that are processed frame by frame.
use Rattle.std.proofs.Common.{◌≡◌, ℕ, Bool, true, false, List, [], ◌∷◌, ◌++◌, Some, refl, sym, ◌∙◌, ap, subst, append_assoc, length, ◌<◌}
use Rattle.std.specs.Prelude.{unwrap_or, if◌then◌else◌, ◌&&◌, ◌==◌, Option}
use Rattle.wrapper_frame.specs.Header.{head_of}
use Rattle.wrapper_frame.specs.Messages.{frames_of, rest_of}
use Rattle.wrapper_frame.specs.Stream.{IsFirst, IsPart, KeepsFrames, Stops}
use Rattle.wrapper_frame.specs.declared.header.Head.{Head}
use Rattle.wrapper_frame.specs.declared.header.Head.TheVariants.{Part, BadVersion, TooLong, Whole}
use Rattle.wrapper_frame.specs.declared.parts.Frame.{Frame}
use Rattle.wrapper_frame.proofs.CutLemmas.{after_shorter}
use Rattle.client_core.specs.declared.job.Verb.{Verb}
use Rattle.client_core.specs.declared.job.Outcome.{Outcome}
use Rattle.client_core.specs.declared.job.Outcome.TheVariants.{Unknown}
use Rattle.client_core.specs.declared.progress.Progress.{Progress}
use Rattle.client_core.specs.Outcomes.{payloads_of, or_unknown, progress_by_head}
use Rattle.client_core.specs.Steps.{progress_after, progress_after_all, progress_after_frame, progress_after_bytes, Moves, Hears}

-- the effect of frames and of the front of the bytes after them
abbrev does : Verb → Progress → List Frame → Head → Progress
does verb p frames front = progress_by_head (progress_after_all verb p (payloads_of frames)) front

goes_does : (verb : Verb) (p : Progress) (bytes : List ℕ) → progress_after_bytes verb p bytes
    ≡ does verb p (frames_of bytes) (head_of (rest_of bytes))
unfolding progress_after_bytes
goes_does verb p bytes = refl

-- ---- a settled outcome remains

-- a progress whose outcome is settled
abbrev pub with_outcome : Bool → Outcome → Progress
with_outcome accepted outcome = record { accepted = accepted; outcome = Some outcome }

pub all_settled : (verb : Verb) (accepted : Bool) (outcome : Outcome) (payloads : List (List ℕ))
    → progress_after_all verb (with_outcome accepted outcome) payloads
    ≡ with_outcome accepted outcome
all_settled verb accepted outcome [] = refl
all_settled verb accepted outcome (payload ∷ later) = all_settled verb accepted outcome later

ended_settled : (accepted : Bool) (outcome : Outcome) (front : Head)
    → progress_by_head (with_outcome accepted outcome) front ≡ with_outcome accepted outcome
ended_settled accepted outcome Part = refl
ended_settled accepted outcome BadVersion = refl
ended_settled accepted outcome TooLong = refl
ended_settled accepted outcome (Whole n) = refl

settled_goes : (verb : Verb) (accepted : Bool) (outcome : Outcome) (bytes : List ℕ)
    → progress_after_bytes verb (with_outcome accepted outcome) bytes
    ≡ with_outcome accepted outcome
settled_goes verb accepted outcome bytes =
    goes_does verb (with_outcome accepted outcome) bytes
    ∙ ap (λ (p : Progress). progress_by_head p (head_of (rest_of bytes)))
    (all_settled verb accepted outcome (payloads_of (frames_of bytes)))
    ∙ ended_settled accepted outcome (head_of (rest_of bytes))

-- a progress with this outcome
abbrev outcome_as : Progress → Option Outcome → Progress
outcome_as p o = record p { outcome = o }

-- a settled outcome remains, whatever bytes follow
pub goes_settled : (verb : Verb) (p : Progress) (outcome : Outcome) (bytes : List ℕ) → p.outcome
    ≡ Some outcome → progress_after_bytes verb p bytes ≡ p
goes_settled verb p outcome bytes is =
    let same : with_outcome p.accepted outcome ≡ p =
    ap (λ (o : Option Outcome). outcome_as p o) (sym is) in
    subst (λ (q : Progress). progress_after_bytes verb q bytes ≡ q) same
    (settled_goes verb p.accepted outcome bytes)

-- ---- one more frame

frame_cases : (ours : Bool) (verb : Verb) (p : Progress) (payload : List ℕ) (later : List (List ℕ))
    → progress_after_all verb p (if ours then payload ∷ later else later)
    ≡ progress_after_all verb (if ours then progress_after verb p payload else p) later
frame_cases true verb p payload later = refl
frame_cases false verb p payload later = refl

-- a frame that is removed has its effect, followed by that of the others
pub moves_frame : (verb : Verb) (p : Progress) (old : List ℕ) (frame : Frame) (new : List ℕ)
    → KeepsFrames old (Some frame) new → Moves verb p old (progress_after_frame verb p frame) new
moves_frame verb p old frame new goes_on = record {
  on = λ more.
      goes_does verb p (old ++ more)
      ∙ ap (λ (frames : List Frame). does verb p frames (head_of (rest_of (old ++ more))))
      (goes_on.frames more)
      ∙ ap (λ (rest : List ℕ). does verb p (frame ∷ frames_of (new ++ more)) (head_of rest))
      (goes_on.rest more)
      ∙ ap (λ (q : Progress). progress_by_head q (head_of (rest_of (new ++ more))))
      (frame_cases (frame.src == 1 && frame.dst == 1) verb p frame.payload
      (payloads_of (frames_of (new ++ more))))
      ∙ sym (goes_does verb (progress_after_frame verb p frame) (new ++ more));
}

-- no frame is removed yet
pub moves_none : (verb : Verb) (p : Progress) (bytes : List ℕ) → Moves verb p bytes p bytes
moves_none verb p bytes = record { on = λ more. refl }

-- two consecutive moves
pub moves_twice : (verb : Verb) (first : Progress) (old : List ℕ) (p : Progress) (bytes : List ℕ)
    (q : Progress) (new : List ℕ)
    → Moves verb first old p bytes → Moves verb p bytes q new → Moves verb first old q new
moves_twice verb first old p bytes q new a b = record { on = λ more. a.on more ∙ b.on more }

-- ---- the end of the frames that can be removed

-- part of a frame has no effect
pub part_says : (verb : Verb) (p : Progress) (bytes : List ℕ) → IsPart bytes
    → progress_after_bytes verb p bytes ≡ p
part_says verb p bytes part =
    goes_does verb p bytes
    ∙ ap (λ (frames : List Frame). does verb p frames (head_of (rest_of bytes))) part.frames
    ∙ ap (λ (rest : List ℕ). does verb p [] (head_of rest)) part.rest
    ∙ ap (λ (front : Head). does verb p [] front) part.front

pub hears_part : (verb : Verb) (first : Progress) (old : List ℕ) (p : Progress) (bytes : List ℕ)
    → Moves verb first old p bytes → IsPart bytes → Hears verb first old p bytes
hears_part verb first old p bytes moves part =
    record { moves = moves; here = part_says verb p bytes part }

-- a wrong header ends the reading
stops_goes : (verb : Verb) (p : Progress) (front : Head) (bytes more : List ℕ) → Stops front bytes
    → progress_after_bytes verb p (bytes ++ more) ≡ progress_by_head p front
stops_goes verb p front bytes more stops =
    goes_does verb p (bytes ++ more)
    ∙ ap (λ (frames : List Frame). does verb p frames (head_of (rest_of (bytes ++ more))))
    (stops.frames more)
    ∙ ap (λ (rest : List ℕ). does verb p [] (head_of rest)) (stops.rest more)
    ∙ ap (λ (at : Head). does verb p [] at) (stops.heads more)

-- an unknown outcome remains
unknown_goes : (verb : Verb) (p : Progress) (bytes : List ℕ)
    → progress_after_bytes verb (or_unknown p) bytes
    ≡ or_unknown p
unknown_goes verb p bytes = goes_settled verb (or_unknown p)
    (unwrap_or p.outcome Unknown) bytes refl

-- bytes that begin with a wrong header, whatever is kept of them
hears_front : (verb : Verb) (p : Progress) (front : Head) (bytes kept : List ℕ) → Stops front bytes
    → progress_by_head p front ≡ or_unknown p → Hears verb p bytes (or_unknown p) kept
hears_front verb p front bytes kept stops ends = record {
  moves = record {
    on = λ more. stops_goes verb p front bytes more stops ∙ ends
        ∙ sym (unknown_goes verb p (kept ++ more));
  };
  here = unknown_goes verb p kept;
}

hears_after : (verb : Verb) (first : Progress) (old : List ℕ) (p : Progress) (bytes : List ℕ)
    (q : Progress) (kept : List ℕ)
    → Moves verb first old p bytes → Hears verb p bytes q kept → Hears verb first old q kept
hears_after verb first old p bytes q kept moves hears = record
    { moves = moves_twice verb first old p bytes q kept moves hears.moves; here = hears.here }

pub hears_version : (verb : Verb) (first : Progress) (old : List ℕ) (p : Progress)
    (bytes kept : List ℕ)
    → Moves verb first old p bytes → Stops BadVersion bytes
    → Hears verb first old (or_unknown p) kept
hears_version verb first old p bytes kept moves stops =
    hears_after verb first old p bytes (or_unknown p) kept moves
    (hears_front verb p BadVersion bytes kept stops refl)

pub hears_long : (verb : Verb) (first : Progress) (old : List ℕ) (p : Progress)
    (bytes kept : List ℕ)
    → Moves verb first old p bytes → Stops TooLong bytes → Hears verb first old (or_unknown p) kept
hears_long verb first old p bytes kept moves stops =
    hears_after verb first old p bytes (or_unknown p) kept moves
    (hears_front verb p TooLong bytes kept stops refl)

-- bytes after a wrong header change nothing
more_stops : (front : Head) (bytes more : List ℕ) → Stops front bytes → Stops front (bytes ++ more)
more_stops front bytes more stops = record {
  frames = λ others. ap frames_of (append_assoc bytes more others) ∙ stops.frames (more ++ others);
  rest = λ others. ap rest_of (append_assoc bytes more others) ∙ stops.rest (more ++ others)
      ∙ sym (append_assoc bytes more others);
  heads = λ others. ap head_of (append_assoc bytes more others) ∙ stops.heads (more ++ others);
}

pub skips_version : (verb : Verb) (p : Progress) (bytes more kept : List ℕ) → Stops BadVersion bytes
    → Hears verb p (bytes ++ more) (or_unknown p) kept
skips_version verb p bytes more kept stops = hears_front verb p BadVersion (bytes ++ more) kept
    (more_stops BadVersion bytes more stops) refl

pub skips_long : (verb : Verb) (p : Progress) (bytes more kept : List ℕ) → Stops TooLong bytes
    → Hears verb p (bytes ++ more) (or_unknown p) kept
skips_long verb p bytes more kept stops = hears_front verb p TooLong (bytes ++ more) kept
    (more_stops TooLong bytes more stops) refl

-- after a frame is removed fewer bytes are left
pub fewer : (old : List ℕ) (frame : Frame) (new : List ℕ) → IsFirst old frame new
    → length new < length old
fewer old frame new first = rw first.after (after_shorter old (length frame.payload) first.front)
