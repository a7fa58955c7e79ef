-- What a player of a front returns for a text that has no front.
use Rattle.std.proofs.Common.{◌≡◌, rules, ℕ, Option, List, [], Err, ap, ◌∙◌, inl}
use Rattle.std.proofs.Common.{inr}
use Rattle.std.specs.Io.KnownBytes.{Appends}
use Rattle.wire_bytes.specs.Outcome.{Fails}
use Rattle.trace_player.proofs.Faults.{told_too_long}
use Rattle.trace_player.specs.Traces.{trace_of}
use Rattle.trace_words.specs.declared.fault.TraceFault.{TraceFault}
use Rattle.trace_words.specs.declared.fault.TraceFault.TheVariants.{Line, Memory, TooLong}
use Rattle.trace_views.proofs.WholeFronts.{text_whole}
use Rattle.trace_views.specs.Fronts.{front_of, front_text, text_by, trace_by}
use Rattle.trace_views.specs.Plays.{PlaysFront, play_fault_of}
use Rattle.trace_views.specs.declared.view.TraceView.{TraceView}

-- a writer that was not used has the same bytes
unused : (bytes : Option (List ℕ)) → Appends bytes bytes []
unused bytes = search rules

-- a text without a front is no trace, with the same fault
no_trace : (text : List ℕ) (fault : TraceFault) → front_of text ≡ Err fault → trace_of text
    ≡ Err fault
no_trace text fault none = text_whole text ∙ ap trace_by none

pub no_front : {W : Type 0} (contents : W → Option (List ℕ)) (failures : W → ℕ) (view : TraceView)
    (text : List ℕ) (w : W) (fault : TraceFault) → Fails Memory fault (front_of text)
    → PlaysFront contents failures view text w (Err (play_fault_of fault)) w
no_front contents failures view text w (Line number) (inl memory) = absurd cc
no_front contents failures view text w (Line number) (inr none) =
    let nothing : front_text view text ≡ [] = ap (text_by view) none in
    (no_trace text (Line number) none, rw nothing (unused (contents w)))
no_front contents failures view text w TooLong (inl memory) = absurd cc
no_front contents failures view text w TooLong (inr none) =
    (told_too_long text (no_trace text TooLong none), unused (contents w))
no_front contents failures view text w Memory fails = unused (contents w)
