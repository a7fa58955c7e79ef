-- The order in time of a session's reads, writes and calls. A list of them begins with the last
-- one.
--     Happening      a read, a write or a call, with its result
--     IsAnswered     all answers that the bytes read and the replies ask for were written
--     IsOrdered      each read and each call follows the answers before it, and nothing follows a
--                    failure
--     IsInOrder      the reads, writes and calls of a session were in this order
use Rattle.std.specs.Prelude.{◌≡◌, ℕ, Bool, true, false, Option, Some, None, List, [], ◌∷◌, ◌++◌, take, ⊤, Result, Ok, Err}
use Rattle.std.specs.List.{flat_map}
use Rattle.std.specs.Io.KnownBytes.{Consumes}
use Rattle.counted_io.specs.declared.fault.StreamFault.{StreamFault}
use Rattle.session_io.specs.declared.fault.ServeFault.{ServeFault}
use Rattle.session_io.specs.declared.fault.ServeFault.TheVariants as fault
use Rattle.relay_events.specs.declared.event.Event.{Event}
use Rattle.relay_events.specs.declared.reply.Reply.{Reply}
use Rattle.session_core.specs.Backwards.{Answers}
use Rattle.turn_lock.specs.declared.call_fault.CallFault.{CallFault}

-- A read, a write or a call of the meter, with its result. A call that was refused is a failure.
pub data Happening : Type 0 where
  reads : List ℕ → Happening
  fails_to_read : Happening
  writes : List ℕ → Happening
  fails_to_write : Happening
  calls : Event → Reply → Happening
  refuses : Event → Happening

-- the entry for a read into a buffer
abbrev pub read_entry : Result ℕ StreamFault → List ℕ → Happening
read_entry (Ok count) buffer = reads (take count buffer)
read_entry (Err fault) buffer = fails_to_read

-- the entry for a write of these bytes
abbrev pub write_entry : {U : Type 0} → Result U StreamFault → List ℕ → Happening
write_entry (Ok done) bytes = writes bytes
write_entry (Err fault) bytes = fails_to_write

-- the entry for a call of the meter with this event
abbrev pub call_entry : Event → Result Reply CallFault → Happening
call_entry event (Ok reply) = calls event reply
call_entry event (Err fault) = refuses event

-- the list with these entries added, if the list before is known
abbrev pub after_all : List Happening → Option (List Happening) → Option (List Happening)
after_all new None = None
after_all new (Some earlier) = Some (new ++ earlier)

-- whether this entry was added last
abbrev pub Passes : Option (List Happening) → Happening → Option (List Happening) → Type 0
Passes before happening after = after ≡ after_all (happening ∷ []) before

-- whether a frame was not written, with the entry of a failed write; if memory ran out, nothing was
-- added to the list
abbrev pub FailsToPass : Option (List Happening) → ServeFault → Option (List Happening) → Type 0
FailsToPass before fault.Read after = ⊥
FailsToPass before fault.Write after = Passes before fails_to_write after
FailsToPass before fault.Memory after = after ≡ before
FailsToPass before fault.Exhausted after = ⊥
FailsToPass before fault.Listen after = ⊥
FailsToPass before fault.Journal after = ⊥

-- ---- the contents of the list

-- the bytes that were read
abbrev pub bytes_read : List Happening → List ℕ
bytes_read [] = []
bytes_read (reads bytes ∷ earlier) = bytes_read earlier ++ bytes
bytes_read (fails_to_read ∷ earlier) = bytes_read earlier
bytes_read (writes bytes ∷ earlier) = bytes_read earlier
bytes_read (fails_to_write ∷ earlier) = bytes_read earlier
bytes_read (calls event reply ∷ earlier) = bytes_read earlier
bytes_read (refuses event ∷ earlier) = bytes_read earlier

-- the bytes that were written
abbrev pub bytes_written : List Happening → List ℕ
bytes_written [] = []
bytes_written (reads bytes ∷ earlier) = bytes_written earlier
bytes_written (fails_to_read ∷ earlier) = bytes_written earlier
bytes_written (writes bytes ∷ earlier) = bytes_written earlier ++ bytes
bytes_written (fails_to_write ∷ earlier) = bytes_written earlier
bytes_written (calls event reply ∷ earlier) = bytes_written earlier
bytes_written (refuses event ∷ earlier) = bytes_written earlier

-- the replies of the meter
abbrev pub replies_in : List Happening → List Reply
replies_in [] = []
replies_in (reads bytes ∷ earlier) = replies_in earlier
replies_in (fails_to_read ∷ earlier) = replies_in earlier
replies_in (writes bytes ∷ earlier) = replies_in earlier
replies_in (fails_to_write ∷ earlier) = replies_in earlier
replies_in (calls event reply ∷ earlier) = replies_in earlier ++ reply ∷ []
replies_in (refuses event ∷ earlier) = replies_in earlier

-- whether a read, a write or a call has failed
abbrev pub has_failed : List Happening → Bool
has_failed [] = false
has_failed (reads bytes ∷ earlier) = has_failed earlier
has_failed (fails_to_read ∷ earlier) = true
has_failed (writes bytes ∷ earlier) = has_failed earlier
has_failed (fails_to_write ∷ earlier) = true
has_failed (calls event reply ∷ earlier) = has_failed earlier
has_failed (refuses event ∷ earlier) = true

-- ---- the order

module _ (written_as : List ℕ → List ℕ) (password : List ℕ) where
  -- whether all answers that the bytes read and the replies ask for were written, and no more
  abbrev pub IsAnswered : List Happening → Type 0
  IsAnswered happened =
      bytes_written happened ≡ flat_map written_as
      (Answers password (bytes_read happened) (replies_in happened))

  -- whether a read or a call follows all answers so far; a write may follow anything
  abbrev pub Follows : Happening → List Happening → Type 0
  Follows (reads bytes) earlier = IsAnswered earlier
  Follows fails_to_read earlier = IsAnswered earlier
  Follows (writes bytes) earlier = ⊤
  Follows fails_to_write earlier = ⊤
  Follows (calls event reply) earlier = IsAnswered earlier
  Follows (refuses event) earlier = IsAnswered earlier

  -- whether each read and each call follows the answers before it, and nothing follows a failure
  abbrev pub IsOrdered : List Happening → Type 0
  IsOrdered [] = ⊤
  IsOrdered (happening ∷ earlier) =
      (has_failed earlier ≡ false) × Follows happening earlier × IsOrdered earlier

  -- whether the reads, writes and calls of a session were in this order, and its reads took these
  -- bytes from the input
  pub record IsInOrder (before after : Option (List Happening)) (left left' : Option (List ℕ)) :
      Type 0 where
    pub happened : List Happening
    pub passed : after ≡ after_all happened before
    pub ordered : IsOrdered happened
    pub read : Consumes left left' (bytes_read happened)

  -- ---- the position of a session

  -- whether, of the texts for all further bytes and replies, those for the replies so far were
  -- written, and the session has yet to send the rest
  pub record IsAt (texts_of still : List ℕ → List Reply → List (List ℕ))
      (happened : List Happening) : Type 0 where
    pub texts : List (List ℕ)
    pub rest : (more : List ℕ) (later : List Reply)
        → texts_of more (replies_in happened ++ later) ≡ texts ++ still more later
    pub so_far : (replies : List Reply)
        → texts_of [] replies ≡ Answers password (bytes_read happened) replies
    pub wrote : bytes_written happened ≡ flat_map written_as texts
    pub ordered : IsOrdered happened
    pub fine : has_failed happened ≡ false

  -- whether the session took a step further, without a read
  pub record ComesOn (texts_of still : List ℕ → List Reply → List (List ℕ))
      (happened : List Happening)
      (before after : Option (List Happening)) : Type 0 where
    pub new : List Happening
    pub passed : after ≡ after_all new before
    pub unread : bytes_read (new ++ happened) ≡ bytes_read happened
    pub is_at : IsAt texts_of still (new ++ happened)

  -- whether the session stopped with an error: it read no more, and all that it did is in the order
  -- of `IsOrdered`
  pub record StopsInOrder (happened : List Happening) (before after : Option (List Happening)) :
      Type 0 where
    pub new : List Happening
    pub passed : after ≡ after_all new before
    pub unread : bytes_read (new ++ happened) ≡ bytes_read happened
    pub ordered : IsOrdered (new ++ happened)

  -- whether a session with this result took a step further or, on an error, stopped in order
  abbrev pub Orders : {X E : Type 0} → (List ℕ → List Reply → List (List ℕ))
      → (List ℕ → List Reply → List (List ℕ))
      → List Happening → Option (List Happening) → Result X E → Option (List Happening) → Type 0
  Orders texts_of still happened before (Ok x) after = ComesOn texts_of still happened before after
  Orders texts_of still happened before (Err fault) after = StopsInOrder happened before after
