-- The line that is written for a reply.
use Rattle.std.specs.Prelude.{ℕ, Bool, true, false, codes, decimal, List, [], ◌∷◌, ◌++◌, length}
use Rattle.cosem_names.specs.ResultCode.{code_of}
use Rattle.cosem_names.specs.declared.service.GetResult.{GetResult}
use Rattle.cosem_names.specs.declared.service.GetResult.TheVariants as result
use Rattle.disconnect_control.specs.Transitions.{state_number}
use Rattle.relay_events.specs.declared.reply.Line.{Line}
use Rattle.relay_events.specs.declared.reply.Reply.{Reply}
use Rattle.relay_events.specs.declared.reply.Reply.TheVariants.{Value, Values, Code, Sampled, SampledBoth, Ran, Stale}
use Rattle.trace_words.specs.Rows.{Row}
use Rattle.trace_words.specs.Writing.{data_word, words_after_blanks, all_words}

-- the result of reading one attribute of a list, before other words
abbrev pub result_words : GetResult → Row → Row
result_words (result.Value value) words = codes "value" ∷ data_word value ∷ words
result_words (result.Code code) words = codes "code" ∷ decimal (code_of code) ∷ words

-- the words of a reply
unfoldable pub reply_row : Reply → Row
reply_row (Value value) = codes "value" ∷ data_word value ∷ []
reply_row (Code code) = codes "code" ∷ decimal (code_of code) ∷ []
reply_row (Values items) = codes "values" ∷ decimal (length items) ∷ all_words result_words items
reply_row (Sampled over under) = codes "sampled" ∷ decimal over ∷ decimal under ∷ []
reply_row (SampledBoth over under export_over export_under) =
    codes "sampled" ∷ decimal over ∷ decimal under ∷ decimal export_over ∷ decimal export_under ∷ []
reply_row (Ran due) = codes "ran" ∷ decimal due ∷ []
reply_row (Stale last) = codes "stale" ∷ decimal last ∷ []

-- `on` if the supply is on, else `off`
abbrev pub supply_text : Bool → List ℕ
supply_text true = codes "on"
supply_text false = codes "off"

-- the number of an event, the reply to it, and the switch after it
unfoldable pub line_text : ℕ → Line → List ℕ
line_text number line =
    decimal number ++ codes ":" ++ words_after_blanks (reply_row line.reply) ++ codes "; state "
    ++ decimal (state_number line.state) ++ codes "; supply " ++ supply_text line.output
