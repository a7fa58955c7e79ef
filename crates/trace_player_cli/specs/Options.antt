-- The options of the command line.
--     IsBound        the number of an event, if the option is given
--     IsFormat       the format that the option `--format` names
--     IsView         the view that the options describe
--     AreInOrder     bounds of which the upper one is not below the lower one
use Rattle.std.specs.Prelude.{◌≡◌, ◌<◌, ◌≤◌, ◌^◌, ◌⊎◌, Bool, true, false}
use Rattle.std.specs.Prelude.{codes, List, ℕ, Option, Some, None}
use Rattle.std.specs.Str.Parse.{IsNumeral, digits_value, without_leading_plus}
use Rattle.clap.specs.Matches.{first_value, one_text}
use Rattle.clap.specs.declared.parser.matches.Found.{Found}
use Rattle.program.specs.Values.{IsFlag}
use Rattle.trace_views.specs.declared.format.TraceFormat.{TraceFormat}
use Rattle.trace_views.specs.declared.format.TraceFormat.TheVariants.{Lines, Csv, Json}
use Rattle.trace_views.specs.declared.view.TraceView.{TraceView}

-- whether this is the number of the option of this name, which is written in decimal and fits in 32
-- bits; there is none if the option is not given
pub record IsBound (found : Found) (name : List ℕ) (bound : Option ℕ) : Type 0 where
  pub given : (text : List ℕ) → one_text found name ≡ Some text
      → IsNumeral 10 (without_leading_plus text)
      → digits_value 10 (without_leading_plus text) < 2 ^ 32
      → bound ≡ Some (digits_value 10 (without_leading_plus text))
  pub absent : one_text found name ≡ None → bound ≡ None

-- whether this is the format that the option `--format` names, comma-separated values or JSON;
-- without the option it is that of the lines that the player prints
pub record IsFormat (found : Found) (format : TraceFormat) : Type 0 where
  pub csv : first_value found (codes "format") ≡ Some (codes "csv") → format ≡ Csv
  pub json : first_value found (codes "format") ≡ Some (codes "json") → format ≡ Json
  pub absent : first_value found (codes "format") ≡ None → format ≡ Lines

-- whether this is the view that the options describe
pub record IsView (found : Found) (view : TraceView) : Type 0 where
  pub first : IsBound found (codes "from") view.first
  pub last : IsBound found (codes "to") view.last
  pub changes_only : IsFlag found (codes "changes") view.changes_only
  pub with_events : IsFlag found (codes "events") view.with_events
  pub format : IsFormat found view.format

-- whether the upper bound is not below the lower one, if there are both
abbrev pub AreInOrder : Option ℕ → Option ℕ → Type 0
AreInOrder (Some first) (Some last) = first ≤ last
AreInOrder _ _ = Unit {0}
