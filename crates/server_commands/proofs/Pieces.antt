-- Bytes cut into pieces.
use Rattle.std.proofs.Common.{◌≡◌, ℕ, ◌+◌, ◌≤◌, List, [], ◌∷◌, ◌++◌, length, drop, refl, sym, ap, ap₂, ◌∙◌, arith}
use Rattle.std.proofs.lemmas.List.{take-append-le, drop-append-le, length-append, length-drop, nil_from_length}
use Rattle.std.proofs.Math.Seq.{take-length}
use Rattle.server_commands.specs.Requests.{pieces_of, total}

-- one piece more
pub pieces_more : (counts bytes piece : List ℕ) → total counts ≡ length bytes
    → pieces_of (counts ++ length piece ∷ []) (bytes ++ piece) ≡ pieces_of counts bytes
    ++ piece ∷ []
pieces_more [] bytes piece whole =
    let none : bytes ≡ [] = nil_from_length bytes (sym whole) in
    rw (none, take-length piece) refl
pieces_more (count ∷ counts) bytes piece whole =
    let le : count ≤ length bytes = omega arith in
    let rest : total counts ≡ length (drop count bytes) = omega (arith, length-drop count bytes) in
    ap₂ (λ (first : List ℕ) (others : List (List ℕ)). first ∷ others)
    (take-append-le count bytes piece le)
    (ap (pieces_of (counts ++ length piece ∷ [])) (drop-append-le count bytes piece le)
    ∙ pieces_more counts (drop count bytes) piece rest)

-- the total of one count more
pub total_more : (counts : List ℕ) (count : ℕ) → total (counts ++ count ∷ []) ≡ total counts + count
total_more [] count = omega arith
total_more (first ∷ counts) count = omega (arith, total_more counts count)

-- so a piece is appended
pub pieces_pushed : (counts counts' bytes bytes' piece : List ℕ) (view : List (List ℕ)) → view
    ≡ pieces_of counts bytes → total counts ≡ length bytes
    → counts' ≡ counts ++ length piece ∷ [] → bytes' ≡ bytes ++ piece → pieces_of counts' bytes'
    ≡ view ++ piece ∷ []
pieces_pushed counts counts' bytes bytes' piece view shown whole more added =
    rw (more, added, shown) (pieces_more counts bytes piece whole)

pub total_pushed : (counts counts' bytes bytes' piece : List ℕ) → total counts ≡ length bytes
    → counts' ≡ counts ++ length piece ∷ [] → bytes' ≡ bytes ++ piece → total counts'
    ≡ length bytes'
total_pushed counts counts' bytes bytes' piece whole more added =
    rw (more, added) (omega (arith, total_more counts (length piece), length-append bytes piece))
