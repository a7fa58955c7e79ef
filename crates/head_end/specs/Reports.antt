-- The text of a report: a line for each job.
--     report_text       the text
--     longest_line      the length of the longest line, if names have at most 32 bytes
use Rattle.std.specs.Prelude.{ℕ, ◌+◌, List, [], ◌∷◌, ◌++◌, codes, decimal}
use Rattle.std.specs.List.{flat_map}
use Rattle.client_core.specs.declared.job.Outcome.TheVariants.{Done, Refused, Rejected, Unknown}
use Rattle.head_end.specs.declared.row.Row.{Row}
use Rattle.head_end.specs.declared.row.Row.TheVariants.{Came, Memory}
use Rattle.head_end.specs.declared.row.ReportLine.{ReportLine}

-- a word followed by a number in decimal
abbrev pub named_number : List ℕ → ℕ → List ℕ
named_number word number = word ++ decimal number

-- the result of a job, in words
abbrev pub row_text : Row → List ℕ
row_text (Came (Done number)) = named_number (codes " done ") number
row_text (Came (Refused number)) = named_number (codes " refused ") number
row_text (Came (Rejected number)) = named_number (codes " rejected ") number
row_text (Came Unknown) = codes " unknown"
row_text Memory = codes " memory"

-- a line: the name of the job, a blank, its result, and the byte 0A
abbrev pub line_text : ReportLine → List ℕ
line_text line = line.id ++ (row_text line.row ++ 10 ∷ [])

-- the lines, in order
unfoldable pub report_text : List ReportLine → List ℕ
report_text lines = flat_map line_text lines

-- ---- lengths, in bytes

-- the longest name of a job in a list of jobs
abbrev pub longest_name : ℕ
longest_name = 32

-- the longest result, ` rejected 255`: a word with its blanks, and three digits
abbrev pub longest_result : ℕ
longest_result = 10 + 3

-- the longest line of a job with such a name: the name, the result, and the byte 0A
abbrev pub longest_line : ℕ
longest_line = longest_name + longest_result + 1
