-- The laws of texts of lines.
use Rattle.std.proofs.Common.{ℕ, List, [], sym, ◌∙◌, ap}
use Rattle.std.proofs.lemmas.List.{append-nil}
use Rattle.std.specs.List.{AllByRecursion}
use Rattle.durable_lines.specs.Lines.{lines_in, text_of, IsPlain, IsText}
use Rattle.durable_lines.proofs.LineLemmas.{lines_in-text_of, lines_in-same, lines_in-append}
use Rattle.durable_lines.proofs.LineLemmas.{plain_lines, text_of-append, is_text-append}

pub text_is_text : (lines : List (List ℕ)) → AllByRecursion IsPlain lines → IsText (text_of lines)
text_is_text lines plain = ap text_of (sym (ap lines_in (sym (append-nil (text_of lines)))
    ∙ lines_in-text_of lines [] plain ∙ append-nil lines))

pub lines_are_plain : (bytes : List ℕ) → AllByRecursion IsPlain (lines_in bytes)
lines_are_plain bytes = plain_lines [] bytes tt

pub ruleset text_laws =
    (lines_in-text_of, text_is_text, lines_are_plain, lines_in-same, text_of-append)

pub ruleset append_laws = (is_text-append, lines_in-append)
