-- When connections were last active: a list of moments, in the order of the keys.
--     times_after_touch      the moments after a connection was active
--     is_idle                whether a connection was not active for the limit
--     idle_keys              the connections that are idle
--     moment_after_search    the moment of a connection after a search for idle ones
--     TakesFirst             some of the connections that are idle
use Rattle.std.specs.Prelude.{◌≡◌, ℕ, ◌+◌, ◌-◌, ◌++◌, Bool, List, [], ◌∷◌, length, replicate, slice_set}
use Rattle.std.specs.Prelude.{if◌then◌else◌, nat_le, nat_lt}

-- The moments after the connection with this key was active now. The keys before it that had no
-- moment count as active now, too.
abbrev pub times_after_touch : ℕ → ℕ → List ℕ → List ℕ
times_after_touch key now moments =
    if nat_lt key (length moments)
    then slice_set moments key now
    else moments ++ replicate (key + 1 - length moments) now

-- whether a connection that was last active at this moment is idle now
abbrev pub is_idle : ℕ → ℕ → ℕ → Bool
is_idle limit now moment = nat_le limit (now - moment)

-- the key of a connection, if it is idle
abbrev pub idle_at : ℕ → ℕ → ℕ → ℕ → List ℕ
idle_at limit now key moment = if is_idle limit now moment then key ∷ [] else []

-- the keys of the connections that are idle, where the first moment is that of this key
abbrev pub idle_from : ℕ → ℕ → ℕ → List ℕ → List ℕ
idle_from limit now key [] = []
idle_from limit now key (moment ∷ moments) =
    idle_at limit now key moment ++ idle_from limit now (key + 1) moments

-- the keys of the connections that are idle, in ascending order
abbrev pub idle_keys : ℕ → ℕ → List ℕ → List ℕ
idle_keys limit now moments = idle_from limit now 0 moments

-- the moment of a connection after a search: an idle one counts as active now
abbrev pub moment_after_search : ℕ → ℕ → ℕ → ℕ
moment_after_search limit now moment = if is_idle limit now moment then now else moment

-- whether the keys appended to `idle` are the first of those of the idle connections
pub record TakesFirst (limit now : ℕ) (moments idle idle' : List ℕ) : Type 0 where
  pub taken : List ℕ
  pub left : List ℕ
  pub split : taken ++ left ≡ idle_keys limit now moments
  pub grown : idle' ≡ idle ++ taken
