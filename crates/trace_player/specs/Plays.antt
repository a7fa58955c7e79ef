-- The results of reading, running and writing a trace.
--     HasOutput          a trace was read and run, or this fault
--     PlaysBytes        the result of playing the bytes that were read
--     TakesTrace    a trace was read from a reader and run, or this fault
--     Plays         a trace was played from a reader to a writer, or this fault
use Rattle.std.specs.Prelude.{◌≡◌, ◌<◌, ◌≤◌, ℕ, Option, List, [], length, ⊤, Result, Ok, Err}
use Rattle.std.specs.Io.KnownBytes.{Appends, Consumes, IsAtEnd}
use Rattle.relay_recorder.specs.declared.trace.Trace.{Trace}
use Rattle.trace_words.specs.declared.fault.TraceFault.TheVariants as trace_fault
use Rattle.trace_player.specs.Playing.{PlaysTrace, output_of_trace}
use Rattle.trace_player.specs.Traces.{max_bytes, trace_of}
use Rattle.trace_player.specs.declared.fault.PlayFault.{PlayFault}
use Rattle.trace_player.specs.declared.fault.PlayFault.TheVariants as fault
use Rattle.trace_player.specs.declared.output.PlayedLines.{PlayedLines}

-- Whether the bytes that were read have this result: the output of the trace that they all are, or
-- a fault. The two numbers count the failed reads before and after.
abbrev pub HasOutput : List ℕ → ℕ → Result PlayedLines PlayFault → Option (List ℕ) → ℕ → Type 0
HasOutput bytes failed (Ok output) left' failed' =
    PlaysTrace (trace_of bytes) output.lines.items output.count × IsAtEnd left'
HasOutput bytes failed (Err (fault.Line number)) left' failed' =
    (trace_of bytes ≡ Err (trace_fault.Line number)) × IsAtEnd left'
HasOutput bytes failed (Err fault.TooLong) left' failed' = max_bytes < length bytes
HasOutput bytes failed (Err fault.Read) left' failed' = (length bytes ≤ max_bytes)
    × (failed < failed')
HasOutput bytes failed (Err fault.Write) left' failed' = ⊥
HasOutput bytes failed (Err fault.Memory) left' failed' = ⊤

-- whether taking in a trace has this result, which is that for the bytes that were read
pub record TakesTrace (left : Option (List ℕ)) (failed : ℕ) (result : Result PlayedLines PlayFault)
    (left' : Option (List ℕ)) (failed' : ℕ) : Type 0 where
  pub bytes : List ℕ
  pub read : Consumes left left' bytes
  pub gave : HasOutput bytes failed result left' failed'

module _ {R W : Type 0}
    (remaining : R → Option (List ℕ)) (read_failures : R → ℕ)
    (contents : W → Option (List ℕ)) (write_failures : W → ℕ) where
  -- whether playing the bytes that were read has this result; nothing is written but the whole
  -- output of their trace
  abbrev pub PlaysBytes : List ℕ → R → W → Result ℕ PlayFault → R → W → Type 0
  PlaysBytes bytes r w (Ok count) r' w' =
      (trace : Trace) × (trace_of bytes ≡ Ok trace) × IsAtEnd (remaining r')
      × Appends (contents w) (contents w') (output_of_trace trace) × (count ≡ length trace.events)
  PlaysBytes bytes r w (Err (fault.Line number)) r' w' =
      (trace_of bytes ≡ Err (trace_fault.Line number)) × IsAtEnd (remaining r')
      × Appends (contents w) (contents w') []
  PlaysBytes bytes r w (Err fault.TooLong) r' w' =
      (max_bytes < length bytes) × Appends (contents w) (contents w') []
  PlaysBytes bytes r w (Err fault.Read) r' w' =
      (length bytes ≤ max_bytes) × (read_failures r < read_failures r')
      × Appends (contents w) (contents w') []
  PlaysBytes bytes r w (Err fault.Write) r' w' =
      (trace : Trace) × (trace_of bytes ≡ Ok trace) × IsAtEnd (remaining r')
      × (write_failures w < write_failures w')
  PlaysBytes bytes r w (Err fault.Memory) r' w' = Appends (contents w) (contents w') []

  -- whether playing a trace has this result, which is that of playing the bytes that were read
  pub record Plays (r : R) (w : W) (result : Result ℕ PlayFault) (r' : R) (w' : W) : Type 0 where
    pub bytes : List ℕ
    pub read : Consumes (remaining r) (remaining r') bytes
    pub did : PlaysBytes bytes r w result r' w'
