-- The line of an event has no byte 0 and no byte 0A.
use Rattle.std.proofs.Common.{OnOk, Result, Ok, Err}
use Rattle.relay_events.specs.declared.event.Event.{Event}
use Rattle.text_lines.specs.Lines.{IsPlain}
use Rattle.text_lines.specs.Words.{line_of}
use Rattle.text_lines.proofs.PlainLemmas.{decimal_is_plain, hex_is_plain, line_is_plain, plain_word}
use Rattle.trace_lines.proofs.EventLaws.{WordsHave, event_words}
use Rattle.trace_lines.specs.Traced.{IsNamed, HasPlainData}
use Rattle.trace_lines.specs.Writing.{event_row}

-- a fact holds if a call returned `Ok`
pub on_ok_any : {T E P : Type 0} (r : Result T E) → P → OnOk r P
on_ok_any (Ok value) holds = holds
on_ok_any (Err error) holds = tt

words_plain : WordsHave (Unit {0}) IsPlain
words_plain = record {
  fixed = λ word above ascii. plain_word word above;
  number = decimal_is_plain;
  name = λ bytes known. hex_is_plain bytes (known tt);
  value = λ value known. known tt;
}

pub event_line_plain : (event : Event) → IsNamed event → HasPlainData event
    → IsPlain (line_of (event_row event))
event_line_plain event named plain = line_is_plain (event_row event)
    (event_words words_plain event (λ known. named) (λ known. plain))
