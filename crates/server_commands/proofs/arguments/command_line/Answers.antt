use Rattle.server_commands.proofs.CommandLines.{made_of_three}
use Rattle.server_commands.proofs.arguments.command_line.Goals as goal

pub returns : goal.returns
returns c =
    made_of_three c.args.has_password c.program.result c.apdu.result
    c.with_subcommand-program.result c.hex.result c.with_subcommand-program-2.result c.serve.result
    c.with_subcommand.result c.apdu.ensures c.hex.ensures c.serve.ensures
    (record {
      program_made = c.with_subcommand-program.ensures.program;
      command_made = c.with_subcommand-program.ensures.made_ok;
      adds = c.with_subcommand-program.ensures.added;
    })
    (record {
      program_made = c.with_subcommand-program-2.ensures.program;
      command_made = c.with_subcommand-program-2.ensures.made_ok;
      adds = c.with_subcommand-program-2.ensures.added;
    })
    (record {
      program_made = c.with_subcommand.ensures.program;
      command_made = c.with_subcommand.ensures.made_ok;
      adds = c.with_subcommand.ensures.added;
    })
