-- The reply in the line of event 0.
use Rattle.std.proofs.Common.{◌≡◌, ℕ, ◌+◌, ◌-◌, ◌≤◌, Bool, true, false, List, [], ◌∷◌, ◌++◌}
use Rattle.std.proofs.Common.{length, take, drop, codes, decimal, refl, ap, ◌∙◌, arith}
use Rattle.std.proofs.Math.Seq.{take-append_seam}
use Rattle.std.proofs.lemmas.List.{length-append}
use Rattle.std.specs.Fmt.{digits}
use Rattle.disconnect_control.specs.Transitions.{state_number}
use Rattle.disconnect_control.specs.declared.state.ControlState.{ControlState}
use Rattle.disconnect_control.specs.declared.state.ControlState.TheVariants.{Disconnected}
use Rattle.disconnect_control.specs.declared.state.ControlState.TheVariants.{Connected}
use Rattle.disconnect_control.specs.declared.state.ControlState.TheVariants.{ReadyForReconnection}
use Rattle.relay_events.specs.declared.reply.Line.{Line}
use Rattle.relay_events.specs.declared.reply.Reply.{Reply}
use Rattle.relay_events.specs.declared.reply.Reply.TheVariants.{Value, Values, Code, Sampled}
use Rattle.relay_events.specs.declared.reply.Reply.TheVariants.{SampledBoth, Ran, Stale}
use Rattle.trace_lines.specs.Replies.{line_text, reply_row, supply_text}
use Rattle.trace_words.specs.Writing.{words_after_blanks}
use Rattle.trace_records.proofs.AsciiTexts.{reply_is_ascii}
use Rattle.trace_records.specs.Records.{len_after_reply, reply_text}

-- what follows the reply
abbrev after_reply : ControlState → Bool → List ℕ
after_reply state output =
    codes "; state " ++ decimal (state_number state) ++ codes "; supply " ++ supply_text output

-- a reply has a first word
blank_before : (reply : Reply) → words_after_blanks (reply_row reply) ≡ 32 ∷ reply_text reply
unfolding reply_row
blank_before (Value value) = refl
blank_before (Values items) = refl
blank_before (Code code) = refl
blank_before (Sampled over under) = refl
blank_before (SampledBoth over under export_over export_under) = refl
blank_before (Ran due) = refl
blank_before (Stale last) = refl

-- the line of event 0
zero_digits : decimal 0 ≡ 48 ∷ []
unfolding digits
zero_digits = refl

regrouped : (words a b c d : List ℕ) → words ++ a ++ b ++ c ++ d ≡ words ++ (a ++ b ++ c ++ d)
regrouped [] a b c d = refl
regrouped (byte ∷ words) a b c d =
    ap (λ (bytes : List ℕ). byte ∷ bytes) (regrouped words a b c d)

numbered : (line : Line) → line_text 0 line
    ≡ 48 ∷ 58 ∷ (words_after_blanks (reply_row line.reply) ++ after_reply line.state line.output)
unfolding line_text
numbered line =
    let words = words_after_blanks (reply_row line.reply) in
    let state = decimal (state_number line.state) in
    let supply = supply_text line.output in
    ap (λ (number : List ℕ). number ++ codes ":" ++ words ++ codes "; state " ++ state
    ++ codes "; supply " ++ supply) zero_digits
    ∙ ap (λ (bytes : List ℕ). 48 ∷ 58 ∷ bytes)
    (regrouped words (codes "; state ") state (codes "; supply ") supply)

parts : (line : Line) → line_text 0 line
    ≡ 48 ∷ 58 ∷ 32 ∷ (reply_text line.reply ++ after_reply line.state line.output)
parts line =
    numbered line
    ∙ ap (λ (words : List ℕ). 48 ∷ 58 ∷ (words ++ after_reply line.state line.output))
    (blank_before line.reply)

len_is : (state : ControlState) (output : Bool) → length (after_reply state output)
    ≡ len_after_reply output
unfolding digits
len_is Disconnected true = refl
len_is Disconnected false = refl
len_is Connected true = refl
len_is Connected false = refl
len_is ReadyForReconnection true = refl
len_is ReadyForReconnection false = refl

-- the front of a text before a part of this length
front : (reply after : List ℕ) (n : ℕ) → n ≡ length reply → take n (reply ++ after) ≡ reply
front reply after n is = rw is (take-append_seam reply after)

pub line_is_long : (line : Line)
    → len_after_reply line.output + 3 ≤ length (line_text 0 line)
line_is_long line =
    let after = after_reply line.state line.output in
    rw (parts line) (omega (
      arith,
      len_is line.state line.output,
      length-append (reply_text line.reply) after,
    ))

pub reply_cut : (line : Line)
    → take (length (line_text 0 line) - len_after_reply line.output - 3)
    (drop 3 (line_text 0 line)) ≡ reply_text line.reply
reply_cut line =
    let after = after_reply line.state line.output in
    rw (parts line) (front (reply_text line.reply) after _ (omega (
      arith,
      len_is line.state line.output,
      length-append (reply_text line.reply) after,
    )))

pub ruleset replies = (line_is_long, reply_cut, reply_is_ascii)
