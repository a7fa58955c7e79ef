-- The results of playing the text of a trace in a view.
--     ShowsTrace       the text of a view of the trace of a text, or why the text is none
--     ViewsFront   the text of a view of the front of a text
--     PlaysView    a view was written to a writer, or this fault
--     PlaysFront   the front of a text was written as a view shows it, or this fault
use Rattle.std.specs.Prelude.{◌≡◌, ◌<◌, ℕ, Option, List, [], Result, Ok, Err, IfErr, length}
use Rattle.std.specs.Io.KnownBytes.{Appends}
use Rattle.relay_recorder.specs.declared.trace.Trace.{Trace}
use Rattle.trace_words.specs.declared.fault.TraceFault.{TraceFault}
use Rattle.trace_words.specs.declared.fault.TraceFault.TheVariants as trace_fault
use Rattle.trace_player.specs.Traces.{max_bytes, trace_of}
use Rattle.trace_player.specs.declared.fault.PlayFault.{PlayFault}
use Rattle.trace_player.specs.declared.fault.PlayFault.TheVariants as fault
use Rattle.trace_views.specs.Fronts.{End, IsLine, front_of, front_text}
use Rattle.trace_views.specs.Views.{view_text}
use Rattle.trace_views.specs.declared.view.TraceView.{TraceView}

-- the fault of a player for the fault of a text
abbrev pub play_fault_of : TraceFault → PlayFault
play_fault_of (trace_fault.Line number) = fault.Line number
play_fault_of trace_fault.TooLong = fault.TooLong
play_fault_of trace_fault.Memory = fault.Memory

-- whether the text is that of a trace, and this is what the view shows of the trace
pub record ShowsTrace (view : TraceView) (text : List ℕ) (shown : List ℕ) : Type 0 where
  pub trace : Trace
  pub read : trace_of text ≡ Ok trace
  pub wrote : shown ≡ view_text view trace

-- whether the text has a front, and this is what the view shows of it
pub record ViewsFront (view : TraceView) (text : List ℕ) (shown : List ℕ) (end : End) : Type 0 where
  pub trace : Trace
  pub read : front_of text ≡ Ok (trace, end)
  pub wrote : shown ≡ view_text view trace
  pub line : IfErr end IsLine

module _ {W : Type 0} (contents : W → Option (List ℕ)) (write_failures : W → ℕ) where
  -- whether playing a text in a view has this result; nothing is written but the whole text of the
  -- view of its trace
  abbrev pub PlaysView : TraceView → List ℕ → W → Result (Unit {0}) PlayFault → W → Type 0
  PlaysView view text w (Ok done) w' =
      (trace : Trace) × (trace_of text ≡ Ok trace)
      × Appends (contents w) (contents w') (view_text view trace)
  PlaysView view text w (Err (fault.Line number)) w' =
      (trace_of text ≡ Err (trace_fault.Line number)) × Appends (contents w) (contents w') []
  PlaysView view text w (Err fault.TooLong) w' =
      (max_bytes < length text) × Appends (contents w) (contents w') []
  PlaysView view text w (Err fault.Read) w' = ⊥
  PlaysView view text w (Err fault.Write) w' =
      (trace : Trace) × (trace_of text ≡ Ok trace) × (write_failures w < write_failures w')
  PlaysView view text w (Err fault.Memory) w' = Appends (contents w) (contents w') []

  -- whether playing the front of a text in a view has this result: what the view shows of it was
  -- written, even if a line is wrong, whose fault is that of the trace
  abbrev pub PlaysFront : TraceView → List ℕ → W → Result (Unit {0}) PlayFault → W → Type 0
  PlaysFront view text w (Ok done) w' =
      (trace : Trace) × (trace_of text ≡ Ok trace)
      × Appends (contents w) (contents w') (front_text view text)
  PlaysFront view text w (Err (fault.Line number)) w' =
      (trace_of text ≡ Err (trace_fault.Line number))
      × Appends (contents w) (contents w') (front_text view text)
  PlaysFront view text w (Err fault.TooLong) w' =
      (max_bytes < length text) × Appends (contents w) (contents w') []
  PlaysFront view text w (Err fault.Read) w' = ⊥
  PlaysFront view text w (Err fault.Write) w' = write_failures w < write_failures w'
  PlaysFront view text w (Err fault.Memory) w' = Appends (contents w) (contents w') []
