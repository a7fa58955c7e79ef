use Rattle.std.proofs.Common.{rules, OnOk, Result, Ok, Err}
use Rattle.text_lines.specs.Lines.{IsPlain}
use Rattle.trace_words.specs.Writing.{data_word}
use Rattle.trace_words.proofs.writing.add_data.Goals as goal

on_ok_any : {T E P : Type 0} (r : Result T E) → P → OnOk r P
on_ok_any (Ok value) holds = holds
on_ok_any (Err error) holds = tt

pub returns-clause-plain : goal.returns-clause-plain
returns-clause-plain c =
    let plain : IsPlain (data_word c.args.value.now) = search rules in
    on_ok_any c.add_hex.result plain
