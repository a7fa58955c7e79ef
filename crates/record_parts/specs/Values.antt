-- A value of JSON.
--     nullable     a value that may be missing
use Rattle.std.specs.Prelude.{Option, Some, None}
use Rattle.serde_json.specs.Data.{Data, null}

-- a value that may be missing: then it is null
abbrev pub nullable : Option Data → Data
nullable (Some value) = value
nullable None = null
