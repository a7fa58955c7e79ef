-- Conversations: logs in which each read and each write is in its turn.
--     due_text          the messages that may be sent after the bytes received, concatenated
--     Listens           all of them were sent, and the outcome is open: a read follows
--     IsDueNext         bytes that may be sent next
--     Conversation      each read and each write in its turn, up to the end
--     HasConversed      the log of a connection is a conversation, and the outcome is that of its
--                       bytes
use Rattle.std.specs.Prelude.{◌≡◌, ℕ, zero, suc, Bool, false, true, is_some, IsSome, IfSome, ◌⊎◌, List, [], ◌∷◌, ◌++◌, Option, Some, None, ⊤}
use Rattle.std.specs.List.{concat}
use Rattle.client_core.specs.declared.job.Outcome.{Outcome}
use Rattle.client_core.specs.declared.job.Verb.{Verb}
use Rattle.client_core.specs.Texts.{aarq_frame, request_frame, release_frame}
use Rattle.client_core.specs.Outcomes.{progress_of, outcome_after, outcome_of, due_frames}
use Rattle.head_end.specs.Logs.{Happening, heard, heard_nothing, sent, cut_off, bytes_received, bytes_sent, reads_made, IsFront}

-- the messages that may be sent after the bytes received, concatenated: the AARQ, then the request,
-- then the release
unfoldable pub due_text : Verb → List ℕ → List ℕ → List ℕ
due_text verb password bytes = concat (due_frames verb password (progress_of verb bytes))

-- whether exactly the messages that may be sent were sent, and the outcome is not settled
pub record Listens (verb : Verb) (password : List ℕ) (log : List Happening) : Type 0 where
  pub sent_is : bytes_sent log ≡ due_text verb password (bytes_received log)
  pub unsettled : outcome_after verb (bytes_received log) ≡ None

-- whether with these bytes at most the messages that may be sent are sent
abbrev pub IsDueNext : Verb → List ℕ → List Happening → List ℕ → Type 0
IsDueNext verb password log bytes =
    IsFront (bytes_sent log ++ bytes) (due_text verb password (bytes_received log))

-- whether no read follows: the outcome is settled, or 65,536 reads have not settled it
abbrev pub IsOver : Verb → List Happening → Type 0
IsOver verb log = IsSome (outcome_after verb (bytes_received log)) ⊎ (reads_made log ≡ 65536)

-- whether a conversation may end here: exactly the messages that may be sent were sent, and no read
-- follows. If it was cut short out of memory, it may end anywhere
abbrev pub EndsAt : Bool → Verb → List ℕ → List Happening → Type 0
EndsAt false verb password log = ⊤
EndsAt true verb password log = (bytes_sent log ≡ due_text verb password (bytes_received log))
    × IsOver verb log

-- whether these reads and writes may follow a log: bytes that may be sent next, or, if all were
-- sent, a read. Nothing follows a read without bytes or a write that failed
abbrev pub Permits : Bool → Verb → List ℕ → List Happening → List Happening → Type 0
Permits whole verb password log [] = EndsAt whole verb password log
Permits whole verb password log (heard bytes ∷ later) = Listens verb password log
    × Permits whole verb password (log ++ heard bytes ∷ []) later
Permits whole verb password log (heard_nothing ∷ later) = Listens verb password log × (later ≡ [])
Permits whole verb password log (sent bytes ∷ later) = IsDueNext verb password log bytes
    × Permits whole verb password (log ++ sent bytes ∷ []) later
Permits whole verb password log (cut_off bytes ∷ later) = IsDueNext verb password log bytes
    × (later ≡ [])

-- whether a log is a conversation from its start: whole, for `true`, or cut short out of memory
abbrev pub Conversation : Bool → Verb → List ℕ → List Happening → Type 0
Conversation whole verb password log = Permits whole verb password [] log

-- whether this log is a conversation: a whole one, with the outcome of the bytes received; or one
-- without an outcome, cut short out of memory
pub record HasConversed (verb : Verb) (password : List ℕ) (outcome : Option Outcome)
    (now : Option (List Happening)) : Type 0 where
  pub log : List Happening
  pub log_is : now ≡ Some log
  pub conversation : Conversation (is_some outcome) verb password log
  pub outcome_is : IfSome outcome (λ o. o ≡ outcome_of verb (bytes_received log))

-- the first of the three messages, up to this number, concatenated
abbrev pub given_text : Verb → List ℕ → ℕ → List ℕ
given_text verb password zero = []
given_text verb password (suc zero) = aarq_frame password
given_text verb password (suc (suc zero)) = aarq_frame password ++ request_frame verb
given_text verb password (suc (suc (suc given))) =
    aarq_frame password ++ (request_frame verb ++ release_frame)
