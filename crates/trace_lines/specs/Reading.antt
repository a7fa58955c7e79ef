-- The values of single words of an event, and the words that are written for them.
--     level_in, level_number             the port of a client
--     name_in                            a logical name
--     parameter_in, parameter_word       the parameter of a method
use Rattle.std.specs.Prelude.{ℕ, ◌==◌, nat_eq, codes, length, Option, Some, None, Result, Ok, Err}
use Rattle.std.specs.Prelude.{if◌then◌else◌}
use Rattle.std.specs.Cmp.Lexicographic.{pointwise}
use Rattle.wire_bytes.specs.Outcome.{◌>>=◌, ◌>>◌, guard}
use Rattle.cosem_axdr.specs.declared.value.Data.{Data}
use Rattle.cosem_names.specs.declared.level.Level.{Level}
use Rattle.cosem_names.specs.declared.level.Level.TheVariants.{Public, Management}
use Rattle.cosem_names.specs.declared.name.Obis.{Obis}
use Rattle.trace_words.specs.Rows.{Word}
use Rattle.trace_words.specs.declared.fault.RowFault.{RowFault}
use Rattle.trace_words.specs.declared.fault.RowFault.TheVariants.{Wrong}
use Rattle.trace_words.specs.Reading.{number_in, bytes_in, data_in}
use Rattle.trace_words.specs.Writing.{data_word}

-- the access level of a client's port: 1 for the management client, 16 for the public one
abbrev pub level_in : Word → Result Level RowFault
level_in word = do
  number ← number_in 16 word
  if number == 1 then Ok Management else if number == 16 then Ok Public else Err Wrong

-- the port of a client
abbrev pub level_number : Level → ℕ
level_number Management = 1
level_number Public = 16

-- a logical name: six bytes in hexadecimal
unfoldable pub name_in : Word → Result Obis RowFault
name_in word = do
  bytes ← bytes_in word
  guard (length bytes == 6) Wrong
  Ok (record { 0 = bytes })

-- the parameter of a method: a Data, or `-` for none
abbrev pub parameter_in : Word → Result (Option Data) RowFault
parameter_in word = if pointwise nat_eq word (codes "-") then Ok None else do
  value ← data_in word
  Ok (Some value)

-- the word that is written for the parameter of a method: a Data in hexadecimal, or `-` for none
abbrev pub parameter_word : Option Data → Word
parameter_word None = codes "-"
parameter_word (Some value) = data_word value
