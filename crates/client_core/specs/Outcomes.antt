-- The outcome of a job, as a function of the bytes received on its connection.
--     payloads_of       the payloads that came from port 1 to port 1
--     progress_of       the progress by the first two of them, and by a wrong header after all
--                       whole frames
--     outcome_after     the outcome, if the bytes settle it
--     outcome_of        the outcome if the connection is over after these bytes
--     due_frames        the messages to send, in order
use Rattle.std.specs.Prelude.{ℕ, Bool, true, false, ◌&&◌, ◌==◌, if◌then◌else◌, Option, Some, None, is_none, unwrap_or, List, [], ◌∷◌}
use Rattle.wrapper_frame.specs.Header.{head_of}
use Rattle.wrapper_frame.specs.Messages.{frames_of, rest_of}
use Rattle.wrapper_frame.specs.declared.header.Head.{Head}
use Rattle.wrapper_frame.specs.declared.header.Head.TheVariants.{Part, BadVersion, TooLong, Whole}
use Rattle.wrapper_frame.specs.declared.parts.Frame.{Frame}
use Rattle.client_core.specs.declared.job.Verb.{Verb}
use Rattle.client_core.specs.declared.job.Outcome.{Outcome}
use Rattle.client_core.specs.declared.job.Outcome.TheVariants.{Done, Refused, Rejected, Unknown}
use Rattle.client_core.specs.declared.progress.Progress.{Progress}
use Rattle.client_core.specs.Replies.{new_progress, progress_after_aare, outcome_of_response}
use Rattle.client_core.specs.Texts.{aarq_frame, request_frame, release_frame}

-- the payloads of the frames from port 1 to port 1 (IEC 62056-4-7, wPort), in order; the others are
-- skipped
abbrev pub payloads_of : List Frame → List (List ℕ)
payloads_of [] = []
payloads_of (frame ∷ frames) = if frame.src == 1 && frame.dst == 1 then frame.payload
    ∷ payloads_of frames
    else payloads_of frames

-- whether the request may be sent, and its response has not come
abbrev pub is_asking : Progress → Bool
is_asking progress = progress.accepted && is_none progress.outcome

-- the response to the request, which is the first of these payloads, settles the outcome
abbrev pub with_answer : Verb → Progress → List (List ℕ) → Progress
with_answer verb progress [] = progress
with_answer verb progress (answer ∷ later) = if is_asking progress
    then record progress { outcome = Some (outcome_of_response verb answer) } else progress

-- the progress by all payloads: the first is the AARE, the second the response to the request
abbrev pub progress_by_payloads : Verb → List (List ℕ) → Progress
progress_by_payloads verb [] = new_progress
progress_by_payloads verb (aare ∷ later) = with_answer verb (progress_after_aare verb aare) later

-- an outcome that is not settled becomes unknown
abbrev pub or_unknown : Progress → Progress
or_unknown progress = record progress { outcome = Some (unwrap_or progress.outcome Unknown) }

-- a wrong header ends the reading
abbrev pub progress_by_head : Progress → Head → Progress
progress_by_head progress Part = progress
progress_by_head progress (Whole n) = progress
progress_by_head progress BadVersion = or_unknown progress
progress_by_head progress TooLong = or_unknown progress

-- the progress of a job after these bytes: by the payloads of the whole frames, then by the header
-- of the unfinished one
unfoldable pub progress_of : Verb → List ℕ → Progress
progress_of verb bytes = progress_by_head
    (progress_by_payloads verb (payloads_of (frames_of bytes)))
    (head_of (rest_of bytes))

-- the outcome of a job, if the bytes received so far settle it
abbrev pub outcome_after : Verb → List ℕ → Option Outcome
outcome_after verb bytes = (progress_of verb bytes).outcome

-- the outcome of a job whose connection is over after these bytes; unknown if they do not settle it
unfoldable pub outcome_of : Verb → List ℕ → Outcome
outcome_of verb bytes = unwrap_or (outcome_after verb bytes) Unknown

-- whether the meter has responded to the request
abbrev pub is_served : Option Outcome → Bool
is_served (Some (Done code)) = true
is_served (Some (Refused code)) = true
is_served (Some (Rejected diagnostic)) = false
is_served (Some Unknown) = false
is_served None = false

-- the AARQ, the request if the association is open, and the release if the meter has responded to
-- the request (IEC 62056-5-3, AARQ, ACTION and GET, RLRQ)
abbrev pub due_frames : Verb → List ℕ → Progress → List (List ℕ)
due_frames verb password progress =
    aarq_frame password ∷ (if progress.accepted
    then request_frame verb ∷ (if is_served progress.outcome then release_frame ∷ [] else [])
    else [])
