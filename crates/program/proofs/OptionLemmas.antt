-- Options that are added to a command in turn.
use Rattle.std.proofs.Common.{◌<◌, ◌+◌, ℕ, Bool, List, [], ◌∷◌, ◌++◌, length, take, get_or}
use Rattle.std.proofs.Common.{refl, sym, subst}
use Rattle.std.proofs.lemmas.List.{take_more}
use Rattle.clap.specs.Built.{AddsInTurn}
use Rattle.clap.specs.declared.builder.command.Command.{Command}
use Rattle.program.specs.Options.{AddsOption}
use Rattle.program.specs.declared.options.OptionText.{OptionText}

-- one more is added after those in turn
added_more : {X : Type 0} (step : Command → X → Command → Type 0) (old mid new : Command)
    (xs : List X) (x : X) → AddsInTurn step old xs mid → step mid x new
    → AddsInTurn step old (xs ++ x ∷ []) new
added_more step old mid new [] x before added = (
  new,
  subst (λ (start : Command). step start x new) (sym before) added,
  refl,
)
added_more step old mid new (y ∷ ys) x before added = (
  before.0,
  before.1,
  added_more step before.0 mid new ys x before.2 added,
)

-- the option at an index is added after those before it
pub added_option : (has_password : Bool) (old mid new : Command) (options : List OptionText) (i : ℕ)
    (option : OptionText) → i < length options
    → AddsInTurn (AddsOption has_password) old (take i options) mid
    → AddsOption has_password mid (get_or options i option) new
    → AddsInTurn (AddsOption has_password) old (take (i + 1) options) new
added_option has_password old mid new options i option below before added =
    rw (take_more options i option below)
    (added_more (AddsOption has_password) old mid new (take i options) (get_or options i option)
    before added)
