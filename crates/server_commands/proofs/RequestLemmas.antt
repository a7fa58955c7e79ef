-- Requests that are read line by line.
use Rattle.std.proofs.Common.{◌≡◌, ◌+◌, ◌≤◌, ℕ, suc, add-one, List, [], ◌∷◌, ◌++◌, length, Ok, Err, refl, sym, ap, subst, ◌∙◌, arith, append_assoc, append-nil}
use Rattle.std.specs.Prelude.{Result}
use Rattle.std.proofs.lemmas.List.Sums.{count_by-le-length}
use Rattle.std.proofs.lemmas.List.Splits.{length-slice_split}
use Rattle.memchr.specs.Find.{is_byte}
use Rattle.text_lines.specs.Parts.{parts_at}
use Rattle.server_commands.specs.Requests.{AddsLine, ReadsLines, before_others, line_request, requests_from}
use Rattle.server_commands.specs.declared.messages.CommandFault.{CommandFault}
use Rattle.server_commands.specs.declared.messages.CommandFault.TheVariants as fault

-- requests followed by others; a fault of the others is kept
abbrev pub joined : List (List ℕ) → Result (List (List ℕ)) CommandFault
    → Result (List (List ℕ)) CommandFault
joined requests (Ok others) = Ok (requests ++ others)
joined requests (Err wrong) = Err wrong

-- the requests of one line
abbrev pub line_requests : ℕ → List ℕ → Result (List (List ℕ)) CommandFault
line_requests number [] = Ok []
line_requests number (byte ∷ bytes) = before_others (line_request number (byte ∷ bytes)) (Ok [])

-- requests that were read, and the rest of the text
pub record Left (text : List ℕ) (requests : List (List ℕ)) (number : ℕ)
    (rest : List ℕ) : Type 0 where
  pub all : requests_from 1 (parts_at 10 text)
      ≡ joined requests (requests_from number (parts_at 10 rest))
  pub count : number + length (parts_at 10 rest) ≡ 1 + length (parts_at 10 text)

joined_none : (others : Result (List (List ℕ)) CommandFault) → others ≡ joined [] others
joined_none (Ok others) = refl
joined_none (Err wrong) = refl

pub left_all : (text : List ℕ) → Left text [] 1 text
left_all text = record { all = joined_none (requests_from 1 (parts_at 10 text)); count = refl }

joined_more : (requests : List (List ℕ)) (request : List ℕ)
    (others : Result (List (List ℕ)) CommandFault)
    → joined requests (before_others (Ok request) others) ≡ joined (requests ++ request ∷ []) others
joined_more requests request (Ok others) = ap
    (λ (all : List (List ℕ)). let r : Result (List (List ℕ)) CommandFault = Ok all in r)
    (sym (append_assoc requests (request ∷ []) others))
joined_more requests request (Err wrong) = refl

-- a line was taken whose requests were appended
line_added : (number : ℕ) (line : List ℕ) (lines : List (List ℕ)) (old new : List (List ℕ))
    → AddsLine {X = Unit {0}} number line old (Ok tt) new
    → joined old (requests_from number (line ∷ lines))
    ≡ joined new (requests_from (suc number) lines)
unfolding requests_from
line_added number [] lines old new adds = ap (λ (requests : List (List ℕ)). joined requests
    (requests_from (suc number) lines)) (sym adds)
line_added number (byte ∷ bytes) lines old new (request, read, added) =
    ap (λ (first : Result (List ℕ) CommandFault). joined old
    (before_others first (requests_from (suc number) lines))) read
    ∙ joined_more old request (requests_from (suc number) lines)
    ∙ ap (λ (requests : List (List ℕ)). joined requests
    (requests_from (suc number) lines)) (sym added)

pub left_more : (text : List ℕ) (old new : List (List ℕ)) (number : ℕ) (rest line after : List ℕ)
    → Left text old number rest
    → parts_at 10 rest ≡ line ∷ parts_at 10 after
    → AddsLine {X = Unit {0}} number line old (Ok tt) new → Left text new (number + 1) after
left_more text old new number rest line after left taken adds = record {
  all = rw add-one (left.all ∙ ap (λ (lines : List (List ℕ)). joined old
      (requests_from number lines)) taken ∙ line_added number line
      (parts_at 10 after) old new adds);
  count = omega (arith, left.count, ap length taken);
}

-- the last line was taken
pub left_none : (text : List ℕ) (old new : List (List ℕ)) (number : ℕ) (rest : List ℕ)
    → Left text old number rest
    → parts_at 10 rest ≡ rest ∷ [] → AddsLine {X = Unit {0}} number rest old (Ok tt) new
    → requests_from 1 (parts_at 10 text) ≡ Ok new
unfolding requests_from
left_none text old new number rest left last adds =
    left.all ∙ ap (λ (lines : List (List ℕ)). joined old (requests_from number lines)) last
    ∙ line_added number rest [] old new adds
    ∙ ap (λ (all : List (List ℕ)). let r : Result (List (List ℕ)) CommandFault = Ok all in r)
    (append-nil new)

-- a line is wrong
line_wrong : (number : ℕ) (line : List ℕ) (lines : List (List ℕ)) (old new : List (List ℕ))
    (wrong : CommandFault) → AddsLine {X = Unit {0}} number line old (Err wrong) new
    → ReadsLines number (line ∷ lines) (Err wrong)
unfolding requests_from
line_wrong number [] lines old new wrong adds = absurd adds
line_wrong number (byte ∷ bytes) lines old new fault.Memory adds = tt
line_wrong number (byte ∷ bytes) lines old new (fault.Line at why) adds = ap
    (λ (first : Result (List ℕ) CommandFault). before_others first
    (requests_from (suc number) lines)) adds
line_wrong number (byte ∷ bytes) lines old new fault.TooLong adds = adds
line_wrong number (byte ∷ bytes) lines old new (fault.Digit at) adds = adds
line_wrong number (byte ∷ bytes) lines old new fault.OddDigits adds = adds
line_wrong number (byte ∷ bytes) lines old new fault.Password adds = adds
line_wrong number (byte ∷ bytes) lines old new fault.Device adds = adds
line_wrong number (byte ∷ bytes) lines old new fault.Read adds = adds
line_wrong number (byte ∷ bytes) lines old new fault.Write adds = adds

-- so the text is
reads_wrong : (text : List ℕ) (old : List (List ℕ)) (number : ℕ) (rest : List ℕ)
    (wrong : CommandFault) → Left text old number rest
    → ReadsLines number (parts_at 10 rest) (Err wrong) → ReadsLines 1 (parts_at 10 text) (Err wrong)
reads_wrong text old number rest fault.Memory left wrong = tt
reads_wrong text old number rest (fault.Line at why) left wrong = left.all ∙ ap (joined old) wrong
reads_wrong text old number rest fault.TooLong left wrong = wrong
reads_wrong text old number rest (fault.Digit at) left wrong = wrong
reads_wrong text old number rest fault.OddDigits left wrong = wrong
reads_wrong text old number rest fault.Password left wrong = wrong
reads_wrong text old number rest fault.Device left wrong = wrong
reads_wrong text old number rest fault.Read left wrong = wrong
reads_wrong text old number rest fault.Write left wrong = wrong

pub wrong_line : (text : List ℕ) (old new : List (List ℕ)) (number : ℕ) (rest line : List ℕ)
    (lines : List (List ℕ)) (wrong : CommandFault) → Left text old number rest
    → parts_at 10 rest ≡ line ∷ lines → AddsLine {X = Unit {0}} number line old (Err wrong) new
    → ReadsLines 1 (parts_at 10 text) (Err wrong)
wrong_line text old new number rest line lines wrong left taken adds =
    reads_wrong text old number rest wrong left
    (subst (λ (all : List (List ℕ)). ReadsLines number all (Err wrong)) (sym taken)
    (line_wrong number line lines old new wrong adds))

-- a text has few lines
pub lines_few : (text : List ℕ) → length (parts_at 10 text) ≤ length text + 1
lines_few text = omega (
  arith,
  length-slice_split (is_byte 10) text,
  count_by-le-length (is_byte 10) text,
)
