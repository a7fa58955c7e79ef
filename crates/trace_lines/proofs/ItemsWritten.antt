-- Items of a line, each after a blank, written one after the other.
use Rattle.std.proofs.Common.{◌≡◌, ℕ, suc, ◌+◌, ◌<◌, ◌≤◌, List, [], ◌∷◌, ◌++◌, length, drop, get_or, sym, ap, ◌∙◌, append_assoc, append-nil, add-one, arith, drop-cons, decimal}
use Rattle.trace_words.specs.Writing.{words_after_blanks, all_words}
use Rattle.trace_lines.specs.Parts.{pairs_words}
use Rattle.trace_lines.specs.Replies.{result_words}
use Rattle.cosem_names.specs.declared.service.GetResult.{GetResult}
use Rattle.cosem_names.specs.declared.service.GetResult.TheVariants as result
use Rattle.trace_words.proofs.Blanks.{Stands, blanked-append, behind_all}

pub result_stands : Stands GetResult result_words
result_stands (result.Value value) words = blanked-append
    (result_words (result.Value value) []) words
result_stands (result.Code code) words = blanked-append (result_words (result.Code code) []) words

-- pairs that were written, joined with those still to be written from a place on
pub record LeftPairs (xs ys : List ℕ) (i : ℕ) (out total : List ℕ) : Type 0 where
  pub all : out ++ words_after_blanks (pairs_words (drop i xs) (drop i ys)) ≡ total

-- one more pair is written
pub pair_more : (xs ys : List ℕ) (i : ℕ) (out middle new total : List ℕ) → i < length xs → length xs
    ≡ length ys
    → middle ≡ out ++ 32 ∷ decimal (get_or xs i 0) → new ≡ middle ++ 32 ∷ decimal (get_or ys i 0)
    → LeftPairs xs ys i out total → LeftPairs xs ys (i + 1) new total
unfolding all_words
pair_more xs ys i out middle new total lt even first second left =
    let ly : i < length ys = omega arith in
    let rest = words_after_blanks (pairs_words (drop (suc i) xs) (drop (suc i) ys)) in
    let a : List ℕ = 32 ∷ decimal (get_or xs i 0) in
    let b : List ℕ = 32 ∷ decimal (get_or ys i 0) in
    let one : out ++ words_after_blanks (pairs_words (drop i xs) (drop i ys)) ≡ new ++ rest =
    ap (λ (zs : List ℕ). out ++ words_after_blanks (pairs_words zs (drop i ys)))
    (drop-cons xs i 0 lt)
    ∙ ap (λ (zs : List ℕ). out ++ words_after_blanks
    (pairs_words (get_or xs i 0 ∷ drop (suc i) xs) zs)) (drop-cons ys i 0 ly)
    ∙ sym (append_assoc out a (b ++ rest))
    ∙ sym (append_assoc (out ++ a) b rest)
    ∙ ap (λ (bs : List ℕ). (bs ++ b) ++ rest) (sym first)
    ∙ ap (λ (bs : List ℕ). bs ++ rest) (sym second) in
    record { all = rw add-one (sym one ∙ left.all) }

pub all_pairs_written : (xs ys : List ℕ) (i : ℕ) (out total : List ℕ) → length xs ≤ i
    → length ys ≤ i → LeftPairs xs ys i out total → out ≡ total
unfolding all_words
all_pairs_written xs ys i out total lx ly left =
    sym (append-nil out)
    ∙ ap (λ (zs : List ℕ). out ++ words_after_blanks (pairs_words zs [])) (sym (behind_all xs i lx))
    ∙ ap (λ (zs : List ℕ). out ++ words_after_blanks (pairs_words (drop i xs) zs))
    (sym (behind_all ys i ly))
    ∙ left.all
