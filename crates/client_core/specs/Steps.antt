-- The progress payload by payload.
--     progress_after        the effect of one more payload; progress_after_frame: of one more frame
--     progress_after_bytes  the effect of more bytes on the progress so far
--     Moves                 bytes have their effect, and the rest of them is kept
--     Hears                 Moves, with a kept rest that has no effect by itself
use Rattle.std.specs.Prelude.{◌≡◌, ℕ, ◌&&◌, ◌==◌, if◌then◌else◌, Some, is_none, List, [], ◌∷◌, ◌++◌}
use Rattle.wrapper_frame.specs.Header.{head_of}
use Rattle.wrapper_frame.specs.Messages.{frames_of, rest_of}
use Rattle.wrapper_frame.specs.declared.parts.Frame.{Frame}
use Rattle.client_core.specs.declared.job.Verb.{Verb}
use Rattle.client_core.specs.declared.progress.Progress.{Progress}
use Rattle.client_core.specs.Replies.{progress_after_aare, outcome_of_response}
use Rattle.client_core.specs.Outcomes.{payloads_of, progress_by_head}

-- the progress after one more payload: the AARE, then the response to the request; any later one
-- is ignored
abbrev pub progress_after : Verb → Progress → List ℕ → Progress
progress_after verb progress payload =
    if is_none progress.outcome then
    (if progress.accepted then record progress { outcome = Some (outcome_of_response verb payload) }
    else progress_after_aare verb payload)
    else progress

-- the progress after one more frame, which has an effect only from port 1 to port 1
abbrev pub progress_after_frame : Verb → Progress → Frame → Progress
progress_after_frame verb progress frame = if frame.src == 1 && frame.dst == 1
    then progress_after verb progress frame.payload else progress

-- the progress after payloads, one after the other
abbrev pub progress_after_all : Verb → Progress → List (List ℕ) → Progress
progress_after_all verb progress [] = progress
progress_after_all verb progress (payload ∷ later) = progress_after_all verb
    (progress_after verb progress payload) later

-- the progress after more bytes: by the payloads of their whole frames, then by the header of the
-- unfinished one
unfoldable pub progress_after_bytes : Verb → Progress → List ℕ → Progress
progress_after_bytes verb progress bytes =
    progress_by_head (progress_after_all verb progress (payloads_of (frames_of bytes)))
    (head_of (rest_of bytes))

-- whether, whatever bytes follow, the old bytes have the same effect on the old progress as the
-- kept bytes on the new one
pub record Moves (verb : Verb) (old : Progress) (bytes : List ℕ) (new : Progress) (kept : List ℕ)
    : Type 0 where
  pub on : (more : List ℕ) → progress_after_bytes verb old (bytes ++ more)
      ≡ progress_after_bytes verb new (kept ++ more)

-- whether, whatever bytes follow, the old bytes have the same effect on the old progress as the
-- kept bytes on the new one, and the kept bytes have none by themselves
pub record Hears (verb : Verb) (old : Progress) (bytes : List ℕ) (new : Progress) (kept : List ℕ)
    : Type 0 where
  pub moves : Moves verb old bytes new kept
  pub here : progress_after_bytes verb new kept ≡ new
