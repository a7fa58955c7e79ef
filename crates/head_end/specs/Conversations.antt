-- A client on a connection, by its position in the initially predicted reads.
--     Follows                 the bytes read so far, and the reads that are left
--     At, AtEnd               a client that was fed the bytes read so far, and one that was fed all
--     GivesUp .. Converses    the effect of the steps of a conversation on that
--     Talks .. Speaks         their effect on the log of the connection
use Rattle.std.specs.Prelude.{◌≡◌, ◌≤◌, ℕ, suc, Bool, false, true, List, [], ◌++◌, length, Option, Some, None, Result, Ok, Err}
use Rattle.client_core.specs.declared.client.Client.{Client}
use Rattle.client_core.specs.declared.job.Outcome.{Outcome}
use Rattle.client_core.specs.declared.job.Verb.{Verb}
use Rattle.client_core.specs.Outcomes.{progress_of, due_frames, outcome_of}
use Rattle.client_core.specs.Standing.{Stands}
use Rattle.head_end.specs.Connections.{Forecast}
use Rattle.head_end.specs.Logs.{Happening, bytes_received, bytes_sent, reads_made}
use Rattle.head_end.specs.Wires.{due_text, given_text, Listens, Permits, Conversation, HasConversed}

-- whether these are the bytes read of those initially predicted, and this number of reads is left
pub record Follows (start : Forecast) (now : Option Forecast) (seen : List ℕ)
    (left : ℕ) : Type 0 where
  pub rest : List ℕ
  pub now_is : now ≡ Some (record { reads = left; bytes = rest; stop = start.stop })
  pub bytes_are : start.bytes ≡ seen ++ rest
  pub last : left ≡ 0 → rest ≡ []

-- whether the client was fed the bytes read so far, and this number of reads is left
pub record At (start : Forecast) (verb : Verb) (password : List ℕ) (left : ℕ) (client : Client)
    (now : Option Forecast) : Type 0 where
  pub fed : List ℕ
  pub given : ℕ
  pub stands : Stands verb password fed given false client
  pub follows : Follows start now fed left

-- whether the client was fed all predicted bytes
pub record AtEnd (start : Forecast) (verb : Verb) (password : List ℕ)
    (client : Client) : Type 0 where
  pub given : ℕ
  pub stands : Stands verb password start.bytes given false client

-- whether the outcome is that of the predicted bytes, if the client was fed all of them
pub record GivesUp (old : Client) (outcome : Outcome) : Type 0 where
  pub outcome_is : (start : Forecast) (verb : Verb) (password : List ℕ)
      → AtEnd start verb password old
      → outcome ≡ outcome_of verb start.bytes

-- whether the messages were written, for `true`, and the client was fed the bytes read so far; or a
-- write failed, and it was fed all predicted bytes
abbrev pub AtAfter : Bool → Forecast → Verb → List ℕ → ℕ → Client → Option Forecast → Type 0
AtAfter true start verb password left client now = At start verb password left client now
AtAfter false start verb password left client now = AtEnd start verb password client

-- whether sending all messages that may be sent had this result, if the client was fed the bytes
-- read so far
pub record SendsAll (old : Client) (before : Option Forecast) (result : Bool) (new : Client)
    (after : Option Forecast) : Type 0 where
  pub on : (start : Forecast) (verb : Verb) (password : List ℕ) (left : ℕ)
      → At start verb password left old before → AtAfter result start verb password left new after

-- whether, after a turn, the outcome is the predicted one, or, without an outcome, the client was
-- fed the bytes read so far
abbrev pub AtTurn : Option Outcome → Forecast → Verb → List ℕ → ℕ → Client
    → Option Forecast → Type 0
AtTurn None start verb password left client now = At start verb password left client now
AtTurn (Some outcome) start verb password left client now = outcome ≡ outcome_of verb start.bytes

-- whether one turn, with one read, had this result, if the client was fed the bytes read so far
pub record Turns (old : Client) (before : Option Forecast) (result : Option Outcome) (new : Client)
    (after : Option Forecast) : Type 0 where
  pub on : (start : Forecast) (verb : Verb) (password : List ℕ) (left : ℕ)
      → At start verb password (suc left) old before
      → AtTurn result start verb password left new after

-- whether a conversation on a connection with 65,536 predicted reads has the outcome of the
-- predicted bytes
pub record Converses (old : Client) (before : Option Forecast) (outcome : Outcome) : Type 0 where
  pub outcome_is : (start : Forecast) (verb : Verb) (password : List ℕ)
      → At start verb password 65536 old before → outcome ≡ outcome_of verb start.bytes

-- ---- the bytes read and written on a connection

-- Whether, by the log, the client was fed the bytes received and returned the messages sent. If the
-- conversation continues correctly from here, the whole is a conversation.
pub record Talks (verb : Verb) (password : List ℕ) (reads : ℕ) (client : Client) (now : Option
    (List Happening)) : Type 0 where
  pub log : List Happening
  pub log_is : now ≡ Some log
  pub given : ℕ
  pub stands : Stands verb password (bytes_received log) given false client
  pub sent_is : bytes_sent log ≡ given_text verb password given
  pub within : given ≤ length (due_frames verb password (progress_of verb (bytes_received log)))
  pub reads_are : reads_made log ≡ reads
  pub more : (whole : Bool) (next : List Happening) → Permits whole verb password log next
      → Permits whole verb password [] (log ++ next)

-- whether `Talks` holds, and all messages that may be sent were sent
pub record HasSent (verb : Verb) (password : List ℕ) (reads : ℕ) (client : Client) (now : Option
    (List Happening)) : Type 0 where
  pub talks : Talks verb password reads client now
  pub all_is : bytes_sent talks.log ≡ due_text verb password (bytes_received talks.log)

-- whether `Talks` holds, and a read follows: all messages that may be sent were sent, and the
-- outcome is not settled
pub record Waits (verb : Verb) (password : List ℕ) (reads : ℕ) (client : Client) (now : Option
    (List Happening)) : Type 0 where
  pub talks : Talks verb password reads client now
  pub listens : Listens verb password talks.log

-- whether the log is a conversation that ended at a failed write, and the client was fed the bytes
-- received
pub record IsCut (verb : Verb) (password : List ℕ) (client : Client) (now : Option
    (List Happening)) : Type 0 where
  pub log : List Happening
  pub log_is : now ≡ Some log
  pub given : ℕ
  pub stands : Stands verb password (bytes_received log) given false client
  pub conversation : Conversation true verb password log

-- whether the messages that may be sent were sent, for `true`, or the conversation ended at a
-- failed write
abbrev pub SentAfter : Bool → Verb → List ℕ → ℕ → Client → Option (List Happening) → Type 0
SentAfter true verb password reads client now = HasSent verb password reads client now
SentAfter false verb password reads client now = IsCut verb password client now

-- whether sending all messages that may be sent had this result, by the log of the connection; an
-- unknown log remains unknown
pub record Sends (old : Client) (before : Option (List Happening)) (result : Bool) (new : Client)
    (after : Option (List Happening)) : Type 0 where
  pub on : (verb : Verb) (password : List ℕ) (reads : ℕ) → Talks verb password reads old before
      → SentAfter result verb password reads new after
  pub unknown : before ≡ None → after ≡ None

-- whether, after a read, the next one follows, the conversation is over, or it is cut short out of
-- memory
abbrev pub TurnAfter : {E : Type 0} → Result (Option Outcome) E → Verb → List ℕ → ℕ → Client
    → Option (List Happening) → Type 0
TurnAfter (Ok None) verb password reads client now = Waits verb password reads client now
TurnAfter (Ok (Some outcome)) verb password reads client now = HasConversed verb password
    (Some outcome) now
TurnAfter (Err error) verb password reads client now = HasConversed verb password None now

-- whether one turn, with one read, had this result, by the log of the connection; an unknown log
-- remains unknown
pub record TakesTurn {E : Type 0} (old : Client) (before : Option (List Happening))
    (result : Result (Option Outcome) E) (new : Client) (after : Option
    (List Happening)) : Type 0 where
  pub on : (verb : Verb) (password : List ℕ) (reads : ℕ) → Waits verb password reads old before
      → TurnAfter result verb password (suc reads) new after
  pub unknown : before ≡ None → after ≡ None

-- the outcome, unless out of memory
abbrev pub outcome_in : {E : Type 0} → Result Outcome E → Option Outcome
outcome_in (Ok outcome) = Some outcome
outcome_in (Err error) = None

-- whether the log of a new client on a new connection is a conversation with this result; an
-- unknown log remains unknown
pub record Speaks {E : Type 0} (old : Client) (before : Option (List Happening))
    (result : Result Outcome E) (after : Option (List Happening)) : Type 0 where
  pub on : (verb : Verb) (password : List ℕ) → Stands verb password [] 0 false old
      → before ≡ Some [] → HasConversed verb password (outcome_in result) after
  pub unknown : before ≡ None → after ≡ None
