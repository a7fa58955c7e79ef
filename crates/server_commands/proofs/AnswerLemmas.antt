-- Requests that are answered one after the other.
use Rattle.std.proofs.Common.{◌≡◌, ◌+◌, ◌<◌, ◌≤◌, ℕ, add-one, codes, append-nil, length-drop, drop-cons, List, [], ◌∷◌, ◌++◌, length, take, drop, get_or, refl, sym, ap, ◌∙◌, arith, append_assoc}
use Rattle.relay_core.specs.declared.relay.RelayCore.{RelayCore}
use Rattle.relay_core.specs.Stands.{StandsFor}
use Rattle.relay_core.specs.World.{World, new_world}
use Rattle.session_io.specs.Answering.{answer_to_payload}
use Rattle.session_io.specs.Hexadecimal.{hex_line}
use Rattle.server_commands.specs.Apdu.{AddsAnswer, AnswersOn, answer_lines, new_answers}
use Rattle.server_commands.specs.Requests.{pieces_of, total}

pub none_answered : (requests : List (List ℕ)) (core : RelayCore) (lines : List ℕ)
    → AnswersOn requests requests core core lines lines
none_answered requests core lines = record { on = λ w stands. (w, stands, refl) }

-- one request more
pub one_answered : (requests later : List (List ℕ)) (request : List ℕ)
    (first core core' : RelayCore) (before lines lines' : List ℕ)
    → AnswersOn requests (request ∷ later) first core before lines
    → AddsAnswer request core core' lines lines'
    → AnswersOn requests later first core' before lines'
unfolding answer_lines
one_answered requests later request first core core' before lines lines' on adds = record {
  on = λ w stands.
      let here = on.on w stands in
      let at : World = here.0 in
      let text = adds.text at here.1 in (
        (answer_to_payload request at).world,
        adds.world at here.1,
        here.2 ∙ sym (append_assoc lines (hex_line (answer_to_payload request at).text)
            (answer_lines (answer_to_payload request at).world later))
            ∙ ap (λ (front : List ℕ). front ++ answer_lines (answer_to_payload request at).world
            later) (sym text),
      );
}

-- the answers of a new meter
pub new_answered : (device : List ℕ) (requests : List (List ℕ)) (core core' : RelayCore)
    (lines : List ℕ) → device ≡ codes "RELAY1"
    → StandsFor core (new_world device) → AnswersOn requests [] core core' [] lines → lines
    ≡ new_answers requests
unfolding answer_lines
new_answered device requests core core' lines named stands on =
    let all = on.on (new_world device) stands in
    sym (ap (λ (name : List ℕ). answer_lines (new_world name) requests) (sym named) ∙ all.2
    ∙ append-nil lines)

-- the next request of those whose bytes are left
pub next_answered : (requests : List (List ℕ)) (lengths left request after : List ℕ) (i count : ℕ)
    (first core core' : RelayCore) (before lines lines' : List ℕ)
    → i < length lengths → get_or lengths i 0 ≡ count → request ≡ take count left → after
    ≡ drop count left
    → AnswersOn requests (pieces_of (drop i lengths) left) first core before lines
    → AddsAnswer request core core' lines lines'
    → AnswersOn requests (pieces_of (drop (i + 1) lengths) after) first core' before lines'
next_answered requests lengths left request after i count first core core' before lines lines' lt
    here taken rest on adds =
    let cons : drop i lengths ≡ count ∷ drop (i + 1) lengths =
    rw (← here, add-one) (drop-cons lengths i 0 lt) in
    let on' : AnswersOn requests (request ∷ pieces_of (drop (i + 1) lengths) after) first core
    before lines =
    rw (taken, rest) (rw cons at on) in
    one_answered requests (pieces_of (drop (i + 1) lengths) after) request first core core' before
    lines lines' on' adds

pub next_sized : (lengths left after : List ℕ) (i count : ℕ) → i < length lengths
    → get_or lengths i 0 ≡ count → after ≡ drop count left
    → total (drop i lengths) ≡ length left → total (drop (i + 1) lengths) ≡ length after
next_sized lengths left after i count lt here rest sized =
    let cons : drop i lengths ≡ count ∷ drop (i + 1) lengths =
    rw (← here, add-one) (drop-cons lengths i 0 lt) in
    let whole = rw cons at sized in
    rw rest (omega (arith, whole, length-drop count left))

-- the next piece is not longer than the rest of the bytes
pub next_within : (lengths left : List ℕ) (i count : ℕ) → i < length lengths
    → get_or lengths i 0 ≡ count
    → total (drop i lengths) ≡ length left → count ≤ length left
next_within lengths left i count lt here sized =
    let cons : drop i lengths ≡ count ∷ drop (i + 1) lengths =
    rw (← here, add-one) (drop-cons lengths i 0 lt) in
    let whole = rw cons at sized in
    omega (arith, whole)
