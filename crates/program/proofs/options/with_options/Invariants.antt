use Rattle.std.proofs.Common.{take}
use Rattle.clap.specs.Built.{AddsInTurn}
use Rattle.program.specs.Options.{AddsOption}
use Rattle.program.proofs.options.with_options.Given as goal

-- the options before the index were added
abbrev pub invariant-loop-option : goal.invariant-loop-option
invariant-loop-option l =
    AddsInTurn (AddsOption l.has_password) l.initial.command (take l.option-index l.options)
    l.command
