-- The parts of the lines of events, as formats of words.
--     level_part .. selection_part    a port, names, attributes, methods
--     parameter_part                  the parameter of a method
--     sample_part .. pairs_words      samples
use Rattle.std.specs.List.{zip}
use Rattle.std.specs.Prelude.{◌≡◌, ℕ, decimal, List, length, IfSome, Option}
use Rattle.hex.specs.Hex.{encode_upper, IsBytes}
use Rattle.wire_bytes.specs.Format.{iso, ◌&◌}
use Rattle.cosem_axdr.specs.declared.value.Data.{Data}
use Rattle.cosem_names.specs.declared.level.Level.{Level}
use Rattle.cosem_names.specs.declared.name.AttrRef.{AttrRef}
use Rattle.cosem_names.specs.declared.name.ClassId.{ClassId}
use Rattle.cosem_names.specs.declared.name.MethodRef.{MethodRef}
use Rattle.cosem_names.specs.declared.name.Obis.{Obis}
use Rattle.cosem_names.specs.declared.service.AttributeSelection.{AttributeSelection}
use Rattle.trace_words.specs.Parts.{Part, words_before, word, number_part, flag_part}
use Rattle.trace_words.specs.Rows.{Row}
use Rattle.trace_words.specs.Writing.{IsHeld, all_words}
use Rattle.trace_lines.specs.Reading.{level_in, level_number, name_in, parameter_in, parameter_word}

-- the port of a client
abbrev pub level_part : Part Level
level_part = word level_in (λ level. decimal (level_number level)) (λ level. Unit {0})

-- a class_id, in decimal
abbrev pub class_part : Part ClassId
class_part = iso (λ n. record { 0 = n }) (λ class. class.0) (number_part 65535)

-- a logical name, six bytes in hexadecimal
abbrev pub name_part : Part Obis
name_part =
    word name_in (λ name. encode_upper name.0) (λ name. (length name.0 ≡ 6) × IsBytes name.0)

-- class, name, number
abbrev pub attribute_part : Part AttrRef
attribute_part = iso (λ p. record { class = p.0; name = p.1.0; number = p.1.1 })
    (λ a. (a.class, (a.name, a.number))) (class_part & name_part & number_part 255)

-- class, name, number
abbrev pub method_part : Part MethodRef
method_part = iso (λ p. record { class = p.0; name = p.1.0; number = p.1.1 })
    (λ m. (m.class, (m.name, m.number))) (class_part & name_part & number_part 255)

-- an attribute, and whether a part of it is requested
abbrev pub selection_part : Part AttributeSelection
selection_part = iso (λ p. record { attr = p.0; selected = p.1 }) (λ s. (s.attr, s.selected))
    (attribute_part & flag_part)

-- the parameter of a method: a Data, or `-` for none
abbrev pub parameter_part : Part (Option Data)
parameter_part = word parameter_in parameter_word (λ parameter. IfSome parameter IsHeld)

-- a sample, in watts
abbrev pub sample_part : Part ℕ
sample_part = number_part 4294967295

-- an import value and an export value
abbrev pub pair_part : Part (ℕ × ℕ)
pair_part = sample_part & sample_part

-- the words of pairs, given the import values and the export values
abbrev pub pairs_words : List ℕ → List ℕ → Row
pairs_words imports exports = all_words (words_before pair_part) (zip imports exports)
