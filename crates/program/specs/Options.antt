-- The options of a command, from a table of texts.
--     is_required     whether the command line is wrong without an option
--     default_by      the value of an option of a presence that is not given
--     default_text    the value of an option of a table that is not given
--     default_of      the value of an argument that is not given
--     parser_of       the numbers of a range, as clap parses them
--     value_parser    what the value of an option has to be, as clap parses it
--     IsArgument      the argument of an option
--     AddsOption      an option was added to a command
use Rattle.std.specs.Prelude.{◌≡◌, ℕ, Bool, true, false, not, List, Option, Some, None, slice_get, pos}
use Rattle.std.specs.Option.{option_map}
use Rattle.clap.specs.Built.{AddsArg}
use Rattle.clap.specs.Texts.{items_of}
use Rattle.clap.specs.declared.builder.arg.Arg.{Arg}
use Rattle.clap.specs.declared.builder.command.Command.{Command}
use Rattle.clap.specs.declared.builder.value_parser.ValueParser.{ValueParser}
use Rattle.clap.specs.declared.builder.value_parser.ValueParser.TheVariants.{Signed, Unsigned, Names}
use Rattle.program.specs.declared.options.NumberRange.{NumberRange}
use Rattle.program.specs.declared.options.NumberRange.TheVariants.{U8, U16, U32, U64}
use Rattle.program.specs.declared.options.OptionText.{OptionText}
use Rattle.program.specs.declared.options.OptionValue.{OptionValue}
use Rattle.program.specs.declared.options.OptionValue.TheVariants.{Number, Word}
use Rattle.program.specs.declared.options.Presence.{Presence}
use Rattle.program.specs.declared.options.Presence.TheVariants.{Optional, Required, Password, Default}

-- whether the command line is wrong without an option; `has_password`: a password is given without
-- the option `--password`
abbrev pub is_required : Bool → Presence → Bool
is_required has_password Optional = false
is_required has_password Required = true
is_required has_password Password = not has_password
is_required has_password (Default text) = false

-- the value of an option of this presence that is not given
abbrev pub default_by : Presence → Option (List ℕ)
default_by (Default text) = Some text.now
default_by other = None

-- the value of an option of a table that is not given
abbrev pub default_text : OptionText → Option (List ℕ)
default_text option = default_by option.presence

-- the value of an argument that is not given
abbrev pub default_of : Arg → Option (List ℕ)
default_of argument = option_map (λ text. text.now) (slice_get (items_of argument.default_vals) 0)

-- the numbers of a range, as clap parses them: those of the narrower types as `i64`
abbrev pub parser_of : NumberRange → ValueParser
parser_of (U8 least greatest) = Signed (pos least) (pos greatest)
parser_of (U16 least greatest) = Signed (pos least) (pos greatest)
parser_of (U32 least greatest) = Signed (pos least) (pos greatest)
parser_of U64 = Unsigned 0 18446744073709551615

-- what the value of an option has to be, as clap parses it; `None` is any text
abbrev pub value_parser : OptionValue → Option ValueParser
value_parser (Number name range) = Some (parser_of range)
value_parser (Word name words) = Some (Names words)
value_parser other = None

-- whether this is the argument of an option
pub record IsArgument (has_password : Bool) (option : OptionText) (argument : Arg) : Type 0 where
  pub id : argument.id.now ≡ option.name.now
  pub long : option_map (λ name. name.now) argument.long ≡ Some option.name.now
  pub help : option_map (λ text. text.now) argument.help ≡ Some option.help.now
  pub required : argument.required ≡ is_required has_password option.presence
  pub default : default_of argument ≡ default_text option
  pub parser : argument.value_parser ≡ value_parser option.value

-- whether an option was added to a command, as the last one
abbrev pub AddsOption : Bool → Command → OptionText → Command → Type 0
AddsOption has_password old option new = (argument : Arg)
    × IsArgument has_password option argument × AddsArg old argument new
