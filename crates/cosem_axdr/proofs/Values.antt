-- The two laws of reading a Data from the front of bytes, in the form that crates depending on this
-- one use.
--     data_found      what is read is spelled by the bytes that it takes
--     data_again      what is spelled is read, whatever bytes follow
--     text_again      the text of a value that fits is read back
--     read_only, begins_no_other      consequences for code that reads, and for spellings
use Rattle.std.proofs.Common.{◌≡◌, ℕ, ◌+◌, ◌-◌, ◌≤◌, List, [], ◌++◌, length, take, drop, Result, Ok, Err, MatchResult, inl, inr, append-nil, refl, sym, ap, subst, ◌∙◌, arith}
use Rattle.std.proofs.lemmas.List.{take_at, take-append-drop, length-append, length-take, nil_from_length}
use Rattle.wire_bytes.specs.Outcome.{Gives}
use Rattle.wire_bytes.proofs.OutcomeLemmas.{done, failed, ok_is, bind_ok}
use Rattle.cosem_axdr.specs.Limits.{max_text, max_nesting}
use Rattle.cosem_axdr.specs.Reading.{Place, start, value_at, nested_at, first_data}
use Rattle.cosem_axdr.specs.Spelling.{IsSpelling, IsFit, text}
use Rattle.cosem_axdr.specs.Tree.{Tree}
use Rattle.cosem_axdr.specs.View.{tree_of, data_of}
use Rattle.cosem_axdr.specs.declared.fault.DataFault.{DataFault}
use Rattle.cosem_axdr.specs.declared.fault.DataFault.TheVariants.{Memory}
use Rattle.cosem_axdr.specs.declared.value.Data.{Data}
use Rattle.cosem_axdr.proofs.Again.{value_again, nested_again}
use Rattle.cosem_axdr.proofs.OneTree.{data_of-tree_of, tree_of-data_of}
use Rattle.cosem_axdr.proofs.Taken.{Takes, value_takes, nested_takes}
use Rattle.cosem_axdr.proofs.Texts.{text_spells}

-- a Data and its number of bytes, which spell it and are at most all the bytes
abbrev pub IsFound : List ℕ → Data × ℕ → Type 0
IsFound bytes found = (found.1 ≤ length bytes) × IsSpelling (take found.1 bytes) (tree_of found.0)

pub data_found : (bytes : List ℕ) (found : Data × ℕ) → first_data bytes ≡ Ok found
    → IsFound bytes found
unfolding first_data
data_found bytes found e =
    let b = bind_ok (value_at (nested_at max_nesting) (start bytes))
    (λ value. done DataFault (value.0, length bytes - length value.1.bytes)) found e in
    let t = value_takes max_nesting (nested_at max_nesting) (nested_takes max_nesting)
    (start bytes) b.0 b.1 in
    let n = length bytes - length b.0.1.bytes in
    let len : length bytes ≡ length t.text + length b.0.1.bytes =
    ap (λ (bs : List ℕ). length bs) t.takes.bytes ∙ length-append t.text b.0.1.bytes in
    let front : take n bytes ≡ t.text = ap (take n) t.takes.bytes
    ∙ take_at t.text b.0.1.bytes n (omega arith) in
    let spelling : IsSpelling t.text (tree_of b.0.0) =
    record { spells = t.spelled.0; flat = t.spelled.1; short = omega (arith, t.takes.room) } in
    subst (λ (z : Data × ℕ). IsFound bytes z) (ok_is (b.0.0, n) found b.2) (
      omega arith,
      subst (λ (s : List ℕ). IsSpelling s (tree_of b.0.0)) (sym front) spelling,
    )

pub data_again : (bytes rest : List ℕ) (d : Data) → IsSpelling bytes (tree_of d)
    → first_data (bytes ++ rest) ≡ Ok (d, length bytes)
unfolding first_data
data_again bytes rest d spelling =
    let new : Place = record { bytes = rest; room = max_text - length bytes } in
    let taken : Takes (start (bytes ++ rest)) bytes new =
    record { bytes = refl; room = omega (arith, spelling.short) } in
    let value : value_at (nested_at max_nesting) (start (bytes ++ rest))
    ≡ Ok (data_of (tree_of d), new) = value_again max_nesting (nested_at max_nesting)
    (nested_again max_nesting) (tree_of d) bytes (start (bytes ++ rest)) new taken
    spelling.spells spelling.flat in
    let count : length (bytes ++ rest) - length rest ≡ length bytes =
    omega (arith, length-append bytes rest) in
    rw (value, count) (ap (λ (e : Data). done DataFault (e, length bytes)) (data_of-tree_of d))

-- bytes of which the first n spell a Data
pub data_only : (bytes : List ℕ) (d : Data) (n : ℕ) → n ≤ length bytes
    → IsSpelling (take n bytes) (tree_of d) → first_data bytes ≡ Ok (d, n)
data_only bytes d n within spelling =
    let whole : take n bytes ++ drop n bytes ≡ bytes = take-append-drop n bytes in
    let len : length (take n bytes) ≡ n = omega (arith, length-take n bytes) in
    ap first_data (sym whole) ∙ data_again (take n bytes) (drop n bytes) d spelling
    ∙ ap (λ (m : ℕ). done DataFault (d, m)) len

-- the text of a value that fits is read back, whatever bytes follow
pub text_again : (d : Data) (rest : List ℕ) → IsFit (tree_of d)
    → first_data (text (tree_of d) ++ rest) ≡ Ok (d, length (text (tree_of d)))
text_again d rest fit = data_again (text (tree_of d)) rest d (text_spells (tree_of d) fit)

-- code with the outcome of the definition reads a Data that is spelled
pub read_only : (bytes : List ℕ) (read : Result (Data × ℕ) DataFault)
    → Gives Memory (λ x. x) read (first_data bytes) → (d : Data) (n : ℕ) → n ≤ length bytes
    → IsSpelling (take n bytes) (tree_of d)
    → MatchResult read (λ x. (x.0 ≡ d) × (x.1 ≡ n)) (λ fault. fault ≡ Memory)
read_only bytes (Ok x) gives d n within spelling =
    let same : x ≡ (d, n) = ok_is {F = DataFault} x (d, n) (sym gives
    ∙ data_only bytes d n within spelling) in
    (ap (λ (y : Data × ℕ). y.0) same, ap (λ (y : Data × ℕ). y.1) same)
read_only bytes (Err fault) (inl memory) d n within spelling = memory
read_only bytes (Err fault) (inr gives) d n within spelling =
    absurd (no_value (d, n) fault (sym (data_only bytes d n within spelling) ∙ gives))
  where
    no_value : (y : Data × ℕ) (f : DataFault) → done DataFault y ≡ failed (Data × ℕ) f → ⊥
    no_value y f e = cc

-- no spelling is a proper prefix of another, and no bytes spell two values
pub begins_no_other : (bytes rest : List ℕ) (s t : Tree) → IsSpelling bytes s
    → IsSpelling (bytes ++ rest) t → (rest ≡ []) × (s ≡ t)
begins_no_other bytes rest s t first second =
    let d = data_of s in
    let e = data_of t in
    let shorter : first_data (bytes ++ rest) ≡ Ok (d, length bytes) =
    data_again bytes rest d (subst (IsSpelling bytes) (sym (tree_of-data_of s)) first) in
    let whole : first_data ((bytes ++ rest) ++ [])
    ≡ Ok (e, length (bytes ++ rest)) = data_again (bytes ++ rest) [] e
    (subst (IsSpelling (bytes ++ rest)) (sym (tree_of-data_of t)) second) in
    let longer : first_data (bytes ++ rest) ≡ Ok (e, length (bytes ++ rest)) =
    ap first_data (sym (append-nil (bytes ++ rest))) ∙ whole in
    let same : (d, length bytes) ≡ (e, length (bytes ++ rest)) = ok_is {A = Data
    × ℕ} {F = DataFault} (d, length bytes) (e, length (bytes ++ rest)) (sym shorter ∙ longer) in
    let none : length rest ≡ 0 = omega (
      arith,
      ap (λ (y : Data × ℕ). y.1) same,
      length-append bytes rest,
    ) in (
      nil_from_length rest none,
      sym (tree_of-data_of s) ∙ ap (λ (y : Data × ℕ). tree_of y.0) same
          ∙ tree_of-data_of t,
    )
