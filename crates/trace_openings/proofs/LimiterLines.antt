-- The lines of a limiter that have several values, by the laws of their parts.
--     label_is_word, named       the label of a line
--     profile_line .. under_line the laws of each line
use Rattle.std.proofs.Common.{◌≡◌, ℕ, ◌≤◌, true, [], ◌∷◌, length, Ok, refl, arith}
use Rattle.std.proofs.Common.{decimal, codes}
use Rattle.std.specs.Prelude.{◌↔◌, IsTrue}
use Rattle.hex.specs.Hex.{encode_upper}
use Rattle.cosem_datetime.proofs.Lengths.{twelve_bytes}
use Rattle.cosem_datetime.proofs.Spelled.{date_time_again}
use Rattle.cosem_datetime.specs.Fields.{DateTimeFields, IsDateTimeFields, date_time_bytes}
use Rattle.cosem_names.specs.declared.objects.Which.{Which}
use Rattle.cosem_names.specs.declared.objects.Which.TheVariants.{Import, Export}
use Rattle.limiter_core.specs.Counting.{cap, no_run}
use Rattle.limiter_core.specs.State.{IsFit, are_fit}
use Rattle.limiter_core.specs.declared.count.Count.{Count}
use Rattle.text_lines.proofs.HexadecimalLemmas.{hex_is_word}
use Rattle.text_lines.specs.Words.{is_word}
use Rattle.trace_words.proofs.LineLaws.{IsLine, part_line, tested_line}
use Rattle.trace_words.proofs.PartLaws.{IsExact, word_exact, number_exact, flag_exact, iso_exact}
use Rattle.trace_words.proofs.PartLaws.{both_exact, to_end_exact}
use Rattle.trace_words.proofs.ShortRows.{bytes_short, run_short}
use Rattle.trace_words.proofs.WordLaws.{bytes_word_again, number_word_again, number_is_word}
use Rattle.trace_words.proofs.WordsBack.{number_back}
use Rattle.trace_words.specs.Parts.{number_part}
use Rattle.trace_words.specs.Reading.{number_in}
use Rattle.trace_words.specs.Rows.{Word, Row}
use Rattle.trace_openings.proofs.OpeningDates.{date_time_is_bytes, date_time_has_bytes}
use Rattle.trace_openings.proofs.OpeningWordsBack.{start_back}
use Rattle.trace_openings.specs.OpeningFields.{label, start_in, start_part, profile_part, groups_part}
use Rattle.trace_openings.specs.OpeningFields.{actions_part, count_part, profile_from, groups_from}
use Rattle.trace_openings.specs.OpeningFields.{actions_from, count_from, over_from, under_from}
use Rattle.trace_openings.specs.OpeningRows.{profile_row, groups_row, actions_row, count_row}

-- ---- labels

pub label_is_word : (which : Which) (name : Word) → is_word name ≡ true
    → is_word (label which name) ≡ true
label_is_word Import name is = is
label_is_word Export [] is = refl
label_is_word Export (b ∷ bytes) is = is

-- the label of a limiter's line has at most one byte more than its name
pub named : (which : Which) (name : Word) → length name ≤ 19 → length (label which name) ≤ 20
named Import name le = omega (arith, le)
named Export name le = omega (arith, le)

-- ---- the lines of the settings

start_again : (p : DateTimeFields) → IsDateTimeFields p
    → start_in (encode_upper (date_time_bytes p)) ≡ Ok p
unfolding start_in
start_again p fits =
    let read = bytes_word_again (date_time_bytes p) (date_time_has_bytes p)
    (date_time_is_bytes p fits) in
    let found = date_time_again p fits in
    rw (read, found) refl

start_exact : {MayFollow : Row → Type 0} → IsExact MayFollow 25 start_part
start_exact =
    word_exact 24 start_in _ IsDateTimeFields start_back start_again
    (λ p fits. hex_is_word (date_time_bytes p) (date_time_has_bytes p) (date_time_is_bytes p fits))
    (λ p fits. bytes_short (date_time_bytes p) 12 (omega (arith, twelve_bytes p)))

pub profile_line : (which : Which) → IsLine (profile_from which) (profile_row which)
    profile_part.Fits
unfolding profile_from
profile_line which =
    part_line (label which (codes "profile")) profile_part
    (label_is_word which (codes "profile") refl) (named which (codes "profile") (omega arith))
    (omega arith) (iso_exact _ _ _ (λ profile. refl) (λ parts. refl)
    (both_exact _ _ (number_exact 65535 (omega arith))
    (both_exact _ _ start_exact (number_exact 4294967295 (omega arith)))))

pub groups_line : (which : Which) → IsLine (groups_from which) (groups_row which) groups_part.Fits
unfolding groups_from
groups_line which =
    part_line (label which (codes "groups")) groups_part (label_is_word which (codes "groups") refl)
    (named which (codes "groups") (omega arith)) (omega arith)
    (to_end_exact (number_part 65535) (number_exact 65535 (omega arith)) 32 352
    (λ n le. omega (arith, le)) (λ n. (decimal n, [], refl)))

pub actions_line : (which : Which) → IsLine (actions_from which) (actions_row which)
    actions_part.Fits
unfolding actions_from
actions_line which =
    part_line (label which (codes "actions")) actions_part
    (label_is_word which (codes "actions") refl) (named which (codes "actions") (omega arith))
    (omega arith) (iso_exact _ _ _ (λ actions. refl) (λ parts. refl)
    (both_exact _ _ (number_exact 65535 (omega arith)) (number_exact 65535 (omega arith))))

-- ---- the lines of the runs

run_exact : {MayFollow : Row → Type 0} → IsExact MayFollow 12 (number_part cap)
run_exact =
    word_exact 11 (number_in cap) decimal (λ n. n ≤ cap) (number_back cap (omega arith))
    (λ n le. number_word_again cap n le (omega arith))
    (λ n le. number_is_word n (omega (arith, le))) (λ n le. run_short n (omega (arith, le)))

pub count_line : (which : Which) (name : Word) → is_word name ≡ true → length name ≤ 19
    → IsLine (count_from (label which name)) (count_row (label which name)) count_part.Fits
unfolding count_from
count_line which name is short =
    part_line (label which name) count_part (label_is_word which name is) (named which name short)
    (omega arith) (iso_exact _ _ _ (λ count. refl) (λ parts. refl)
    (both_exact _ _ run_exact flag_exact))

pub over_line : (which : Which) (last : ℕ) → IsLine (over_from which last)
    (count_row (label which (codes "over")))
    (λ over. count_part.Fits over × (are_fit last over no_run ≡ true))
unfolding over_from
over_line which last =
    tested_line (λ over. are_fit last over no_run) _ _ _
    (count_line which (codes "over") refl (omega arith))

pub under_line : (which : Which) (last : ℕ) (over : Count) → IsLine (under_from which last over)
    (count_row (label which (codes "under")))
    (λ under. count_part.Fits under × (are_fit last over under ≡ true))
unfolding under_from
under_line which last over =
    tested_line (λ under. are_fit last over under) _ _ _
    (count_line which (codes "under") refl (omega arith))

-- runs pass the test exactly if samples can give them
abbrev pub FitRunsMean : Type 0
FitRunsMean = (last : ℕ) (over under : Count) → IsTrue (are_fit last over under)
    ↔ IsFit last over under

-- the run over the threshold fits the last value even without the run under it
over_fits : (last : ℕ) (over under : Count) → IsFit last over under → IsFit last over no_run
over_fits last over under fits = record {
  over_fits = fits.over_fits;
  under_fits = record { within = omega arith; none = λ z. refl; full = λ f. absurd (omega arith) };
  one = λ some. refl;
  above = fits.above;
  below = λ some. absurd (omega arith);
}

-- runs that fit the last value
pub over_passes : FitRunsMean → (last : ℕ) (over under : Count) → IsFit last over under
    → count_part.Fits over × (are_fit last over no_run ≡ true)
over_passes mean last over under fits =
    ((fits.over_fits.within, tt), (mean last over no_run).1 (over_fits last over under fits))

pub under_passes : FitRunsMean → (last : ℕ) (over under : Count) → IsFit last over under
    → count_part.Fits under × (are_fit last over under ≡ true)
under_passes mean last over under fits =
    ((fits.under_fits.within, tt), (mean last over under).1 fits)
