-- The two limiters of a world, by direction of power.
use Rattle.cosem_names.specs.declared.objects.Which.{Which}
use Rattle.cosem_names.specs.declared.objects.Which.TheVariants.{Import, Export}
use Rattle.limiter_core.specs.declared.settings.Settings.{Settings}
use Rattle.relay_core.specs.World.{World, LimiterState}

-- one of the limiters
abbrev pub limiter_state_of : Which → World → LimiterState
limiter_state_of Import w = w.import
limiter_state_of Export w = w.export

-- the world with one of its limiters replaced
abbrev pub with_limiter_state : Which → LimiterState → World → World
with_limiter_state Import m w = record w { import = m }
with_limiter_state Export m w = record w { export = m }

-- a limiter with its settings replaced
abbrev pub with_settings : Settings → LimiterState → LimiterState
with_settings settings m = record m { settings = settings }
