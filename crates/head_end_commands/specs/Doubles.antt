-- Lines of a list of passwords that have one name.
--     name_of      the name of a line
--     name_at      the name of a line of a list
--     AreDouble    two lines of a list have one name
--     HasDouble    some lines of a list have one name
--     HasNames     a filter has the names of the first lines of a list
use Rattle.std.specs.Prelude.{◌≡◌, ◌<◌, ℕ, true, List, [], ◌∷◌, Option, Some, None, slice_get}
use Rattle.std.specs.Prelude.{option_and_then}
use Rattle.text_lines.specs.Words.{words_of}
use Rattle.head_end_commands.specs.Filters.{has_place}
use Rattle.head_end_commands.specs.declared.text_filter.TextFilter.{TextFilter}

-- the name of a line: its first word; an empty line has none
abbrev pub name_of : List ℕ → Option (List ℕ)
name_of [] = None
name_of (byte ∷ bytes) = slice_get (words_of (byte ∷ bytes)) 0

-- the name of the line at this place, counted from 0
abbrev pub name_at : List (List ℕ) → ℕ → Option (List ℕ)
name_at lines place = option_and_then name_of (slice_get lines place)

-- whether the lines at these places have one name, in this order
pub record AreDouble (lines : List (List ℕ)) (first second : ℕ) : Type 0 where
  pub name : List ℕ
  pub in_order : first < second
  pub of_first : name_at lines first ≡ Some name
  pub of_second : name_at lines second ≡ Some name

-- whether two of these lines have one name
abbrev pub HasDouble : List (List ℕ) → Type 0
HasDouble lines = (first : ℕ) × (second : ℕ) × AreDouble lines first second

-- whether a filter has the names of the lines before this place
abbrev pub HasNames : TextFilter → List (List ℕ) → ℕ → Type 0
HasNames filter lines end = (place : ℕ) → place < end → (name : List ℕ)
    → name_at lines place ≡ Some name → has_place filter name ≡ true
