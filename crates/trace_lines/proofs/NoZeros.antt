-- The line of an event that a trace can hold has no byte 0.
use Rattle.std.proofs.Common.{◌≡◌, ℕ, false, List, [], ◌∷◌, refl}
use Rattle.std.proofs.lemmas.Bool.{ne_eqb}
use Rattle.relay_events.specs.declared.event.Event.{Event}
use Rattle.text_lines.specs.Lines.{IsPlain}
use Rattle.text_lines.specs.Words.{line_of}
use Rattle.trace_words.specs.WholeLines.{has_zero}
use Rattle.trace_lines.specs.Traced.{IsTraced}
use Rattle.trace_lines.specs.Writing.{event_row}
use Rattle.trace_lines.proofs.EventLaws.{traced_plain}
use Rattle.trace_lines.proofs.PlainLines.{event_line_plain}

no_zero : (line : List ℕ) → IsPlain line → has_zero line ≡ false
no_zero [] plain = refl
no_zero (byte ∷ line) plain = rw (ne_eqb byte 0 plain.0.0, no_zero line plain.1) refl

pub event_plain : (event : Event) → IsTraced event → has_zero (line_of (event_row event)) ≡ false
event_plain event traced =
    let plain = traced_plain event traced in
    no_zero (line_of (event_row event)) (event_line_plain event plain.0 plain.1)
