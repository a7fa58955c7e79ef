-- The command line is made of its commands.
use Rattle.std.proofs.Common.{◌≡◌, Bool, true, false, codes, [], Result, Ok, Err, IfOk}
use Rattle.std.specs.Result.{IsOk}
use Rattle.clap.specs.Words.{AddsSubcommand}
use Rattle.clap.specs.declared.builder.command.Command.{Command}
use Rattle.server_commands.specs.CommandLine.{IsCommandLine, IsCommandOf, hex_defaults, serve_defaults}

-- whether a command was added to a program, if both were made
pub record Adds {E : Type 0} (program made added : Result Command E) : Type 0 where
  pub program_made : IfOk added (λ _. IsOk program)
  pub command_made : IfOk added (λ _. IsOk made)
  pub adds : IfOk added (λ command. IfOk program (λ before. IfOk made
      (λ subcommand. AddsSubcommand before subcommand command)))

pub made_of_three : {E : Type 0} (given : Bool)
    (start apdu with_apdu hex with_hex serve made : Result Command E)
    → IfOk apdu (IsCommandOf true (codes "apdu") [])
    → IfOk hex (IsCommandOf given (codes "hex") hex_defaults)
    → IfOk serve (IsCommandOf given (codes "serve") serve_defaults)
    → Adds start apdu with_apdu → Adds with_apdu hex with_hex → Adds with_hex serve made
    → IfOk made (IsCommandLine given)
made_of_three given (Ok start) (Ok apdu) (Ok with_apdu) (Ok hex) (Ok with_hex) (Ok serve)
    (Ok made) is_apdu is_hex is_serve first second third = record {
      start = start;
      apdu = apdu;
      with_apdu = with_apdu;
      hex = hex;
      with_hex = with_hex;
      serve = serve;
      adds_apdu = first.adds;
      adds_hex = second.adds;
      adds_serve = third.adds;
      is_apdu = is_apdu;
      is_hex = is_hex;
      is_serve = is_serve;
    }
made_of_three given start apdu with_apdu hex with_hex serve (Err error) is_apdu is_hex is_serve
    first second third = tt
made_of_three given start apdu with_apdu hex with_hex (Err error) (Ok made) is_apdu is_hex
    is_serve first second third = let wrong : false ≡ true = third.command_made in absurd cc
made_of_three given start apdu with_apdu hex (Err error) serve (Ok made) is_apdu is_hex
    is_serve first second third = let wrong : false ≡ true = third.program_made in absurd cc
made_of_three given start apdu with_apdu (Err error) (Ok with_hex) serve (Ok made) is_apdu
    is_hex is_serve first second third =
    let wrong : false ≡ true = second.command_made in absurd cc
made_of_three given start apdu (Err error) hex (Ok with_hex) serve (Ok made) is_apdu is_hex
    is_serve first second third = let wrong : false ≡ true = second.program_made in absurd cc
made_of_three given start (Err error) (Ok with_apdu) hex (Ok with_hex) serve (Ok made) is_apdu
    is_hex is_serve first second third =
    let wrong : false ≡ true = first.command_made in absurd cc
made_of_three given (Err error) apdu (Ok with_apdu) hex (Ok with_hex) serve (Ok made) is_apdu
    is_hex is_serve first second third =
    let wrong : false ≡ true = first.program_made in absurd cc
