-- The lines that a file's bytes are, each ended by the byte 0A.
--     lines_in        the whole lines before the first byte 0
--     text_of         the text of lines, of text_lines
--     IsText          bytes that are whole lines without a byte 0, and nothing else
--     IsPlain         a line that a text can hold, of text_lines
--     IsBetween       some lines, followed by a front of others
--     HasLinesAfterDamage   whole lines follow a damaged one
--     IsSettled       a file of whole lines, all of them on the disk
--     IsReady         such a file, if files of its type act as the crash model says
use Rattle.std.specs.Prelude.{◌≡◌, ◌≤◌, ◌==◌, ℕ, List, [], ◌∷◌, ◌++◌, length, take, drop}
use Rattle.std.specs.Prelude.{if◌then◌else◌}
unfoldable pub use Rattle.text_lines.specs.Lines.{text_of}
pub use Rattle.text_lines.specs.Lines.{IsPlain, lines_of}
use Rattle.durable_lines.specs.CrashModel.{HasOneOutcome}
use Rattle.durable_lines.specs.FileModel.{FileModel}

-- the whole lines of bytes that follow the beginning of a line, up to the first byte 0
abbrev pub lines_after : List ℕ → List ℕ → List (List ℕ)
lines_after begun [] = []
lines_after begun (byte ∷ rest) =
    if byte == 0 then []
    else if byte == 10 then begun ∷ lines_after [] rest
    else lines_after (begun ++ byte ∷ []) rest

-- the whole lines before the first byte 0, without the bytes 0A that end them
abbrev pub lines_in : List ℕ → List (List ℕ)
lines_in bytes = lines_after [] bytes

-- whether bytes are whole lines without a byte 0, and nothing else
abbrev pub IsText : List ℕ → Type 0
IsText bytes = bytes ≡ text_of (lines_in bytes)

-- whether whole lines follow a damaged one: after the whole lines before the first byte 0, two
-- lines or more end. Such bytes are not what one interrupted line leaves
abbrev pub HasLinesAfterDamage : List ℕ → Type 0
HasLinesAfterDamage bytes = 2 ≤ length (lines_of (drop (length (text_of (lines_in bytes))) bytes))

-- whether bytes are the old lines, followed by a front of the added ones
abbrev pub IsBetween : List (List ℕ) → List (List ℕ) → List (List ℕ) → Type 0
IsBetween old added lines = (k : ℕ) × (k ≤ length added) × (lines ≡ old ++ take k added)

-- whether a file consists of whole lines, all of them on the disk: a sync of this file returned
-- while it had these bytes
pub record IsSettled {F : Type 0} (model : FileModel F) (file : F) : Type 0 where
  pub text : IsText (model.seen file)
  pub durable : HasOneOutcome (model.seen file) (model.may_leave file)
  pub kept : model.stored (model.identity file) (model.seen file)

-- whether a file is ready for an append of lines: it is settled, if files of its type act as the
-- crash model says
abbrev pub IsReady : {F : Type 0} → FileModel F → F → Type 0
IsReady model file = model.acts → IsSettled model file
