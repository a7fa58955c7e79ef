-- Lines that are appended to what a file has of a history.
use Rattle.std.proofs.Common.{◌≡◌, ℕ, zero, suc, ◌+◌, ◌≤◌, List, [], ◌∷◌, ◌++◌}
use Rattle.std.proofs.Common.{length, take, drop, refl, sym, ap, ◌∙◌, subst, arith, append_assoc}
use Rattle.std.proofs.Common.{append-nil, length-append, length-drop}
use Rattle.std.proofs.lemmas.List.{take-append-le, take_all}
use Rattle.std.specs.List.{AllByRecursion}
use Rattle.text_lines.specs.Lines.{text_of, IsPlain}
use Rattle.durable_lines.specs.CrashModel.{LeavesOnly}
use Rattle.durable_lines.specs.FileModel.{FileModel}
use Rattle.durable_lines.specs.Holding.{Holds}
use Rattle.durable_lines.specs.Lines.{lines_in, IsSettled, IsText}
use Rattle.durable_lines.proofs.LineLemmas.{lines_in-text_of}
use Rattle.durable_lines.proofs.Moments.{begin, leaves_as}
use Rattle.durable_lines.proofs.TextLaws.{text_is_text}
use Rattle.turn_lock.specs.History.{StartsWith}
use Rattle.shared_meter.specs.Calls.{Calls}
use Rattle.shared_meter.specs.Pending.{event_lines, lines_of_calls, IsRest}
use Rattle.meter_journal.specs.Saving.{IsSaved, IsSavedFrom}

abbrev pub Lines : Type 0
Lines = List (List ℕ)

-- ---- lists of lines

abbrev no_lines : Lines
no_lines = []

take_none : (n : ℕ) → take n no_lines ≡ no_lines
take_none zero = refl
take_none (suc n) = refl

pub take_zero : (lines : Lines) → take 0 lines ≡ []
take_zero [] = refl
take_zero (line ∷ lines) = refl

take_plus : (m k : ℕ) (xs : Lines) → take m xs ++ take k (drop m xs) ≡ take (m + k) xs
take_plus zero k [] = let e : k ≡ 0 + k = omega arith in ap (λ n. take n no_lines) e
take_plus zero k (x ∷ xs) = let e : k ≡ 0 + k = omega arith in ap (λ n. take n (x ∷ xs)) e
take_plus (suc m) k [] = take_none k ∙ sym (take_none (suc m + k))
take_plus (suc m) k (x ∷ xs) =
    let e : suc (m + k) ≡ suc m + k = omega arith in
    ap (λ (ls : Lines). x ∷ ls) (take_plus m k xs) ∙ ap (λ n. take n (x ∷ xs)) e

plain_drop : (n : ℕ) (lines : Lines) → AllByRecursion IsPlain lines
    → AllByRecursion IsPlain (drop n lines)
plain_drop zero [] plain = tt
plain_drop (suc n) [] plain = tt
plain_drop zero (line ∷ lines) plain = plain
plain_drop (suc n) (line ∷ lines) plain = plain_drop n lines plain.1

-- ---- the lines of a history

pub lines_append : (calls more : Calls)
    → lines_of_calls (calls ++ more) ≡ lines_of_calls calls ++ lines_of_calls more
lines_append [] more = refl
lines_append (call ∷ calls) more =
    ap (λ (ls : Lines). event_lines call.event ++ ls) (lines_append calls more)
    ∙ sym (append_assoc (event_lines call.event) (lines_of_calls calls) (lines_of_calls more))

-- the lines that were taken are those of their text
lines_taken : (lines : Lines) (taken count : ℕ) (text : List ℕ) → IsRest lines taken text count
    → lines_in text ≡ drop taken lines
lines_taken lines taken count text rest =
    let others = drop taken lines in
    ap lines_in rest.text_is ∙ (ap lines_in (sym (append-nil (text_of others)))
    ∙ lines_in-text_of others [] (plain_drop taken lines rest.plain) ∙ append-nil others)

pub is_text_taken : (lines : Lines) (taken count : ℕ) (text : List ℕ)
    → IsRest lines taken text count → IsText text
is_text_taken lines taken count text rest = subst IsText (sym rest.text_is)
    (text_is_text (drop taken lines) (plain_drop taken lines rest.plain))

-- ---- what a file holds of them

module _ (Renews : List ℕ → List ℕ → Type 0) where
  -- what a file holds of a history, it holds of a longer one
  pub saved_later : (first : Lines) (n : ℕ) (p q : Calls) (file : List ℕ) → StartsWith q p
      → IsSaved Renews first n p file → IsSaved Renews first n q file
  saved_later first n p q file starts saved =
      let before = lines_of_calls p in
      let more = lines_of_calls starts.0 in
      let all : lines_of_calls q ≡ before ++ more = ap lines_of_calls starts.1
      ∙ lines_append p starts.0 in
      record {
        within = omega (arith, saved.within, ap length all, length-append before more);
        lines = subst (λ (ls : Lines). Holds Renews first ls file)
            (sym (ap (take n) all ∙ take-append-le n before more saved.within)) saved.lines;
      }

  -- a front of the further lines was appended
  pub saved_front : (first : Lines) (taken k : ℕ) (q : Calls) (file new : List ℕ)
      → IsSaved Renews first taken q file → k ≤ length (drop taken (lines_of_calls q))
      → Holds Renews first (take taken (lines_of_calls q) ++ take k (drop taken (lines_of_calls q)))
      new → IsSaved Renews first (taken + k) q new
  saved_front first taken k q file new saved few held =
      let all = lines_of_calls q in
      let size = length-drop taken all in
      record {
        within = omega (arith, saved.within, few, size);
        lines = subst (λ (ls : Lines). Holds Renews first ls new) (take_plus taken k all) held;
      }

  -- all further lines were appended
  pub saved_all : (first : Lines) (taken count : ℕ) (text : List ℕ) (p q : Calls)
      (file new : List ℕ) → StartsWith q p → IsRest (lines_of_calls q) taken text count
      → IsSaved Renews first taken p file
      → ((lines : Lines) → Holds Renews first lines file
      → Holds Renews first (lines ++ lines_in text) new)
      → IsSaved Renews first count q new
  saved_all first taken count text p q file new starts rest saved appends =
      let all = lines_of_calls q in
      let others = drop taken all in
      let size = length-drop taken all in
      let read = lines_taken all taken count text rest in
      let whole : take (length others) others ≡ others =
      take_all (length others) others (omega arith) in
      let few : length others ≤ length others = omega arith in
      let before = saved_later first taken p q file starts saved in
      let now = saved_front first taken (length others) q file new before few
      (subst (λ (ls : Lines). Holds Renews first (take taken all ++ ls) new) (read ∙ sym whole)
      (appends (take taken all) before.lines)) in
      let same : taken + length others ≡ count = omega (arith, rest.count_is, rest.within, size) in
      subst (λ n. IsSaved Renews first n q new) same now

-- ---- what a crash leaves

module _ {F : Type 0} (model : FileModel F) where
  -- a front of the lines of a text, after those that a file holds
  abbrev pub HoldsMore : Lines → Lines → List ℕ → List ℕ → Type 0
  HoldsMore first lines text c = (k : ℕ) × (k ≤ length (lines_in text))
      × Holds model.renews first (lines ++ take k (lines_in text)) c

  -- a crash during the append of the further lines leaves a front of them
  pub appended_leaves : (old new : F) (first : Lines) (taken count : ℕ) (text : List ℕ)
      (p q : Calls) → StartsWith q p → IsRest (lines_of_calls q) taken text count
      → IsSaved model.renews first taken p (model.seen old)
      → ((lines : Lines) → Holds model.renews first lines (model.seen old)
      → LeavesOnly model old new (HoldsMore first lines text))
      → LeavesOnly model old new (IsSavedFrom model.renews taken first q)
  appended_leaves old new first taken count text p q starts rest saved leaves =
      let all = lines_of_calls q in
      let read = lines_taken all taken count text rest in
      let now = saved_later model.renews first taken p q (model.seen old) starts saved in
      leaves_as model old new (HoldsMore first (take taken all) text)
      (IsSavedFrom model.renews taken first q)
      (λ c held. (
        taken + held.0,
        omega arith,
        saved_front model.renews first taken held.0 q (model.seen old) c now
            (subst (λ (ls : Lines). held.0 ≤ length ls) read held.1)
            (subst (λ (ls : Lines). Holds model.renews first (take taken all ++ take held.0 ls) c)
            read held.2),
      )) (leaves (take taken all) now.lines)

  -- a file to which nothing was appended holds as many lines as before
  pub unchanged_leaves : (old : F) (first : Lines) (taken : ℕ) (p q : Calls) → StartsWith q p
      → IsSettled model old → IsSaved model.renews first taken p (model.seen old)
      → LeavesOnly model old old (IsSavedFrom model.renews taken first q)
  unchanged_leaves old first taken p q starts settled saved =
      begin model old (IsSavedFrom model.renews taken first q)
      (λ c now. (
        taken,
        omega arith,
        subst (IsSaved model.renews first taken q) (sym (settled.durable c now))
            (saved_later model.renews first taken p q (model.seen old) starts saved),
      ))
