-- The command that a work is of.
use Rattle.std.specs.Prelude.{ℕ, codes, List, Option, Some, None}
use Rattle.server_commands.specs.declared.reading.Work.{Work}
use Rattle.server_commands.specs.declared.reading.Work.TheVariants.{Exit, Apdu, Hex, Serve}

-- the name of the command that a work is of; none if the command line asks for no work
abbrev pub command_of : Work → Option (List ℕ)
command_of (Exit status) = None
command_of Apdu = Some (codes "apdu")
command_of (Hex options) = Some (codes "hex")
command_of (Serve options) = Some (codes "serve")
