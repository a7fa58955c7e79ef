-- The requests of a text, a line of hexadecimal for each.
--     request_fault    why a line is not a request
--     line_request     the request of a line, or the fault of the line
--     requests_from    the requests of lines, or the fault of the first invalid one
--     requests_of      the requests of a text
--     ReadsRequests    the result of reading a text
use Rattle.std.specs.Prelude.{◌≡◌, ◌+◌, ◌==◌, ◌&&◌, ℕ, suc, Bool, not, if◌then◌else◌, Option, Some, None, length, position, slice_index, List, [], ◌∷◌, ◌++◌, take, drop, ⊤, Result, Ok, Err}
use Rattle.hex.specs.Hex.{decode_of, is_hex_digit}
use Rattle.hex.specs.declared.error.FromHexError.{FromHexError}
use Rattle.text_lines.specs.Parts.{parts_at}
use Rattle.server_commands.specs.declared.messages.CommandFault.{CommandFault}
use Rattle.server_commands.specs.declared.messages.CommandFault.TheVariants as fault
use Rattle.server_commands.specs.declared.messages.RequestFault.{RequestFault}
use Rattle.server_commands.specs.declared.messages.RequestFault.TheVariants.{Odd, Character, Blank, CarriageReturn}

-- why a character is not a hexadecimal digit, by its place in the line, counted from 1, and whether
-- it is the last: a carriage return at the end, a blank, or another character
abbrev pub character_fault : ℕ → ℕ → Bool → RequestFault
character_fault character place is_last = if character == 0x0D && is_last then CarriageReturn
    else if character == 0x20 then Blank place else Character place

-- why a line is not a request, by the index of its first character that is not a hexadecimal digit;
-- without such a character it has an odd number of digits
abbrev pub fault_at : List ℕ → Option ℕ → RequestFault
fault_at line (Some index) = character_fault (slice_index line index) (index + 1)
    (index + 1 == length line)
fault_at line None = Odd

-- why a line is not pairs of hexadecimal digits: its first character that is not a digit, else its
-- odd number of digits
abbrev pub request_fault : List ℕ → RequestFault
request_fault line = fault_at line (position (λ character. not (is_hex_digit character)) line)

-- the request of the line with this number, by the result of decoding its digits
abbrev pub request_by : ℕ → List ℕ → Result (List ℕ) FromHexError → Result (List ℕ) CommandFault
request_by number line (Ok bytes) = Ok bytes
request_by number line (Err error) = Err (fault.Line number (request_fault line))

-- the request of the line with this number: its pairs of hexadecimal digits, in either case
unfoldable pub line_request : ℕ → List ℕ → Result (List ℕ) CommandFault
line_request number line = request_by number line (decode_of line)

-- a request followed by others; its fault takes precedence over theirs
abbrev pub before_others : Result (List ℕ) CommandFault → Result (List (List ℕ)) CommandFault
    → Result (List (List ℕ)) CommandFault
before_others (Err wrong) others = Err wrong
before_others (Ok request) (Err wrong) = Err wrong
before_others (Ok request) (Ok requests) = Ok (request ∷ requests)

-- the requests of lines that are numbered from here; empty lines are skipped
unfoldable pub requests_from : ℕ → List (List ℕ) → Result (List (List ℕ)) CommandFault
requests_from number [] = Ok []
requests_from number ([] ∷ lines) = requests_from (suc number) lines
requests_from number ((byte ∷ bytes) ∷ lines) =
    before_others (line_request number (byte ∷ bytes)) (requests_from (suc number) lines)

-- the requests of a text: of the lines before, between and after its bytes 0A
abbrev pub requests_of : List ℕ → Result (List (List ℕ)) CommandFault
requests_of text = requests_from 1 (parts_at 10 text)

-- whether reading lines, numbered from `number`, has this result: their requests, their first
-- fault, or out of memory
abbrev pub ReadsLines : ℕ → List (List ℕ) → Result (List (List ℕ)) CommandFault → Type 0
ReadsLines number lines (Ok requests) = requests_from number lines ≡ Ok requests
ReadsLines number lines (Err fault.Memory) = ⊤
ReadsLines number lines (Err (fault.Line at why)) =
    requests_from number lines ≡ Err (fault.Line at why)
ReadsLines number lines (Err wrong) = ⊥

-- whether reading a text has this result: its requests, its first fault, or out of memory
abbrev pub ReadsRequests : List ℕ → Result (List (List ℕ)) CommandFault → Type 0
ReadsRequests text result = ReadsLines 1 (parts_at 10 text) result

-- the total number of bytes of pieces of these lengths
abbrev pub total : List ℕ → ℕ
total [] = 0
total (count ∷ counts) = count + total counts

-- bytes cut into pieces of these lengths
abbrev pub pieces_of : List ℕ → List ℕ → List (List ℕ)
pieces_of [] bytes = []
pieces_of (count ∷ counts) bytes = take count bytes ∷ pieces_of counts (drop count bytes)

-- whether this is why the request of a line was not appended: the fault of the line, or out of
-- memory
abbrev pub IsRequestFault : ℕ → List ℕ → CommandFault → Type 0
IsRequestFault number line fault.Memory = ⊤
IsRequestFault number line (fault.Line at why) = line_request number line ≡ Err (fault.Line at why)
IsRequestFault number line other = ⊥

-- whether the request of a line was appended to the others; on an error it is the fault of the
-- line, or out of memory
abbrev pub AddsRequest : {X : Type 0} → ℕ → List ℕ → List (List ℕ) → Result X CommandFault
    → List (List ℕ) → Type 0
AddsRequest number line old (Ok done) new = (request : List ℕ)
    × (line_request number line ≡ Ok request) × (new ≡ old ++ request ∷ [])
AddsRequest number line old (Err wrong) new = IsRequestFault number line wrong

-- whether a line was read, which may be empty; an empty line appends no request
abbrev pub AddsLine : {X : Type 0} → ℕ → List ℕ → List (List ℕ) → Result X CommandFault
    → List (List ℕ) → Type 0
AddsLine number [] old (Ok done) new = new ≡ old
AddsLine number [] old (Err wrong) new = ⊥
AddsLine number (byte ∷ bytes) old result new = AddsRequest number (byte ∷ bytes) old result new
