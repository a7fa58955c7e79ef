-- The output of `meter_server apdu` for its input.
--     answer_lines    the answers of a meter to requests, a line each
--     AddsAnswer      a request was answered
--     AnswersOn       all requests but the last ones were answered
--     AnswersText     the effect of answering a text, by the result
use Rattle.std.specs.Prelude.{◌≡◌, ◌≤◌, ◌<◌, ℕ, codes, Option, List, [], ◌∷◌, ◌++◌, length, Result, Ok, Err}
use Rattle.std.specs.Io.KnownBytes.{Appends, Consumes, IsAtEnd}
use Rattle.session_io.specs.Answering.{answer_to_payload}
use Rattle.session_io.specs.Hexadecimal.{hex_line}
use Rattle.relay_core.specs.declared.relay.RelayCore.{RelayCore}
use Rattle.relay_core.specs.Stands.{StandsFor}
use Rattle.relay_core.specs.World.{World, new_world}
use Rattle.server_commands.specs.Requests.{requests_of}
use Rattle.server_commands.specs.declared.messages.CommandFault.{CommandFault}
use Rattle.server_commands.specs.declared.messages.CommandFault.TheVariants as fault

-- the answers to requests, one after the other, each a line of hexadecimal in capitals
unfoldable pub answer_lines : World → List (List ℕ) → List ℕ
answer_lines world [] = []
answer_lines world (request ∷ requests) =
    hex_line (answer_to_payload request world).text
    ++ answer_lines (answer_to_payload request world).world requests

-- the answers of a new meter with the device name RELAY1
abbrev pub new_answers : List (List ℕ) → List ℕ
new_answers requests = answer_lines (new_world (codes "RELAY1")) requests

-- whether a core answered a request, and its answer was appended as a line
pub record AddsAnswer (request : List ℕ) (old new : RelayCore) (before after : List ℕ) : Type 0
  where
    pub world : (w : World) → StandsFor old w → StandsFor new (answer_to_payload request w).world
    pub text : (w : World) → StandsFor old w → after ≡ before
        ++ hex_line (answer_to_payload request w).text

-- whether a core answered all of these requests except those that are left in `last`, and its
-- answers were appended as lines
pub record AnswersOn (requests last : List (List ℕ)) (old new : RelayCore) (before after : List ℕ)
    : Type 0 where
  pub on : (w : World) → StandsFor old w
      → (w' : World) × StandsFor new w'
      × (before ++ answer_lines w requests ≡ after ++ answer_lines w' last)

-- the maximum number of bytes of standard input
abbrev pub max_bytes : ℕ
max_bytes = 1048576

module _ {R W : Type 0}
    (remaining : R → Option (List ℕ)) (read_failures : R → ℕ)
    (contents : W → Option (List ℕ)) (write_failures : W → ℕ) where
  -- whether a whole text of a fit length was read
  abbrev pub IsWholeText : List ℕ → R → Type 0
  IsWholeText text r = (length text ≤ max_bytes) × IsAtEnd (remaining r)

  -- whether answering the requests in the bytes that were read has this result
  abbrev pub AnswersBytes : List ℕ → R → W → Result (Unit {0}) CommandFault → R → W → Type 0
  AnswersBytes text r w (Ok done) r' w' =
      (requests : List (List ℕ)) × (requests_of text ≡ Ok requests) × IsWholeText text r'
      × Appends (contents w) (contents w') (new_answers requests)
  AnswersBytes text r w (Err fault.TooLong) r' w' = (max_bytes < length text) × (w' ≡ w)
  AnswersBytes text r w (Err fault.Read) r' w' = (length text ≤ max_bytes)
      × (read_failures r < read_failures r') × (w' ≡ w)
  AnswersBytes text r w (Err (fault.Line number why)) r' w' =
      (requests_of text ≡ Err (fault.Line number why)) × IsWholeText text r' × (w' ≡ w)
  AnswersBytes text r w (Err fault.Write) r' w' =
      (requests : List (List ℕ)) × (requests_of text ≡ Ok requests) × IsWholeText text r'
      × (write_failures w < write_failures w')
  AnswersBytes text r w (Err fault.Memory) r' w' = w' ≡ w
  AnswersBytes text r w (Err (fault.Digit byte)) r' w' = ⊥
  AnswersBytes text r w (Err fault.OddDigits) r' w' = ⊥
  AnswersBytes text r w (Err fault.Password) r' w' = ⊥
  AnswersBytes text r w (Err fault.Device) r' w' = ⊥

  -- whether reading a text of requests and answering them has this result
  pub record AnswersText (r : R) (w : W) (result : Result (Unit {0}) CommandFault) (r' : R) (w' : W)
      : Type 0 where
    pub text : List ℕ
    pub read : Consumes (remaining r) (remaining r') text
    pub did : AnswersBytes text r w result r' w'
