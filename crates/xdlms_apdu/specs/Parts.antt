-- The parts of the services as formats (IEC 62056-5-3, xDLMS APDU), each with its ASN.1.
--     Reads                             how a step of the code is compared with a format's reading
--     flag_part .. code_part            a flag, a number, bytes, a Data, a result
--     attribute_part .. parameter_part  attributes, methods and parameters
--     block_part .. exception_part      blocks, results and exceptions
use Rattle.std.specs.Prelude.{◌≡◌, ℕ, Bool, true, false, ◌⊎◌, Option, Some, None, is_some, List}
use Rattle.std.specs.Prelude.{Result, Ok, Err}
use Rattle.std.proofs.Common.{inl, inr}
use Rattle.std.specs.Int.{w16, w32}
use Rattle.wire_bytes.specs.ByteFormats.{same_byte, byte, octets, number, flag, optional, one_of}
use Rattle.wire_bytes.specs.Choice.{Choice, on, under, otherwise, Parts}
use Rattle.wire_bytes.specs.Format.{Format, iso, empty, ◌&◌, exactly, placeholder}
use Rattle.wire_bytes.specs.Outcome.{Fails}
use Rattle.cosem_axdr.specs.Formats.{raw, list, axdr_data}
use Rattle.cosem_axdr.specs.declared.value.Data.{Data}
use Rattle.cosem_axdr.specs.declared.value.Data.TheVariants.{Null}
use Rattle.cosem_names.specs.ResultCode.{result}
use Rattle.cosem_names.specs.declared.name.Obis.{Obis}
use Rattle.cosem_names.specs.declared.name.ClassId.{ClassId}
use Rattle.cosem_names.specs.declared.name.AttrRef.{AttrRef}
use Rattle.cosem_names.specs.declared.name.MethodRef.{MethodRef}
use Rattle.cosem_names.specs.declared.result_code.ResultCode.{ResultCode}
use Rattle.cosem_names.specs.declared.service.AttributeSelection.{AttributeSelection}
use Rattle.cosem_names.specs.declared.service.GetResult.{GetResult}
use Rattle.cosem_names.specs.declared.service.GetResult.TheVariants.{Value, Code}
use Rattle.xdlms_apdu.specs.declared.block.DataBlock.{DataBlock}
use Rattle.xdlms_apdu.specs.declared.fault.ApduFault.{ApduFault}
use Rattle.xdlms_apdu.specs.declared.fault.ApduFault.TheVariants.{Unreadable, Memory}
use Rattle.xdlms_apdu.specs.declared.invoke_id.InvokeId.{InvokeId}
use Rattle.xdlms_apdu.specs.declared.response.Exception.{Exception}
use Rattle.xdlms_apdu.specs.declared.response.Exception.TheVariants as exception

-- whether a step of the code that advances through the bytes has the outcome of a format's reading,
-- or is out of memory
abbrev pub Reads : {X Y : Type 0} → (X → Y) → Result X ApduFault → List ℕ
    → Result (Y × List ℕ) ApduFault → Type 0
Reads view (Ok x) new given = given ≡ Ok (view x, new)
Reads view (Err fault) new given = Fails Memory fault given

-- a part of an APDU
abbrev pub Part : Type 0 → Type 1
Part A = Format ℕ ApduFault A

-- ---- bytes and numbers

-- BOOLEAN
abbrev pub flag_part : Part Bool
flag_part = flag Unreadable

-- Integer8 or Unsigned8
abbrev pub byte_part : Part ℕ
byte_part = byte Unreadable

-- block-number Unsigned32
abbrev pub number_part : Part ℕ
number_part = number Unreadable w32

-- raw-data OCTET STRING
abbrev pub raw_part : Part (List ℕ)
raw_part = raw Unreadable

-- SEQUENCE OF
abbrev pub list_part : {A : Type 0} → Part A → Part (List A)
list_part item = list Unreadable item

-- Data
abbrev pub data_part : Part Data
data_part = axdr_data Unreadable

-- Invoke-Id-And-Priority ::= Unsigned8
abbrev pub invoke_id_part : Part InvokeId
invoke_id_part = iso (λ n. record { 0 = n }) (λ id. id.0) byte_part

-- Data-Access-Result ::= ENUMERATED, and Action-Result, which has the same values
abbrev pub code_part : Part ResultCode
code_part = result Unreadable

-- ---- attributes and methods

-- Cosem-Class-Id ::= Unsigned16
abbrev pub class_part : Part ClassId
class_part = iso (λ n. record { 0 = n }) (λ class. class.0) (number Unreadable w16)

-- Cosem-Object-Instance-Id ::= OCTET STRING (SIZE(6))
abbrev pub name_part : Part Obis
name_part = iso (λ bytes. record { 0 = bytes }) (λ name. name.0) (octets Unreadable 6)

-- Cosem-Attribute-Descriptor ::= SEQUENCE
--     { class-id Cosem-Class-Id, instance-id Cosem-Object-Instance-Id,
--       attribute-id Cosem-Object-Attribute-Id }
abbrev pub attribute_part : Part AttrRef
attribute_part = iso (λ p. record { class = p.0; name = p.1.0; number = p.1.1 })
    (λ a. (a.class, (a.name, a.number))) (class_part & name_part & byte_part)

-- Cosem-Method-Descriptor ::= SEQUENCE
--     { class-id Cosem-Class-Id, instance-id Cosem-Object-Instance-Id,
--       method-id Cosem-Object-Method-Id }
abbrev pub method_part : Part MethodRef
method_part = iso (λ p. record { class = p.0; name = p.1.0; number = p.1.1 })
    (λ m. (m.class, (m.name, m.number))) (class_part & name_part & byte_part)

-- a part of which only the presence is kept
abbrev pub present_if : Bool → Option (Unit {0})
present_if true = Some tt
present_if false = None

-- Selective-Access-Descriptor ::= SEQUENCE { access-selector Unsigned8, access-parameters Data }
-- OPTIONAL, of which only the presence is kept; selector 0 with null-data is written
abbrev pub selection_part : Part Bool
selection_part =
    iso is_some present_if (optional Unreadable (placeholder (0, Null) (byte_part & data_part)))

-- Cosem-Attribute-Descriptor-With-Selection ::= SEQUENCE
--     { cosem-attribute-descriptor Cosem-Attribute-Descriptor,
--       access-selection Selective-Access-Descriptor OPTIONAL }
abbrev pub target_part : Part AttributeSelection
target_part = iso (λ p. record { attr = p.0; selected = p.1 }) (λ t. (t.attr, t.selected))
    (attribute_part & selection_part)

-- method-invocation-parameters Data OPTIONAL
abbrev pub parameter_part : Part (Option Data)
parameter_part = optional Unreadable data_part

-- return-parameters Get-Data-Result OPTIONAL, which this meter never returns
abbrev pub nothing_part : Part (Unit {0})
nothing_part = exactly same_byte Unreadable 0x00

-- ---- blocks and results

-- DataBlock-SA ::= SEQUENCE
--     { last-block BOOLEAN, block-number Unsigned32, raw-data OCTET STRING }
abbrev pub block_part : Part DataBlock
block_part = iso (λ p. record { last = p.0; number = p.1.0; raw = p.1.1 })
    (λ b. (b.last, (b.number, b.raw))) (flag_part & number_part & raw_part)

-- Get-Data-Result ::= CHOICE { data [0] Data, data-access-result [1] Data-Access-Result }
abbrev pub result_forms : Choice ℕ ApduFault GetResult
result_forms = on 0 data_part Value (on 1 code_part Code (otherwise Unreadable))

-- the place of a Get-Data-Result in its choice, and the Data or the code
abbrev pub result_parts : GetResult → Parts result_forms
result_parts (Value value) = inl value
result_parts (Code code) = inr (inl code)

-- Get-Data-Result: a Data, or a Data-Access-Result
abbrev pub result_part : Part GetResult
result_part = one_of Unreadable result_forms result_parts

-- result CHOICE { raw-data [0] OCTET STRING, data-access-result [1] Data-Access-Result }
abbrev pub raw_forms : Choice ℕ ApduFault (List ℕ ⊎ ResultCode)
raw_forms = on 0 raw_part inl (on 1 code_part inr (otherwise Unreadable))

-- the place of a block's result in its choice, and the raw data or the code
abbrev pub raw_parts : List ℕ ⊎ ResultCode → Parts raw_forms
raw_parts (inl bytes) = inl bytes
raw_parts (inr code) = inr (inl code)

-- DataBlock-G ::= SEQUENCE { last-block BOOLEAN, block-number Unsigned32, result CHOICE .. }
abbrev pub get_block_part : Part (Bool × (ℕ × (List ℕ ⊎ ResultCode)))
get_block_part = flag_part & number_part & one_of Unreadable raw_forms raw_parts

-- ---- exceptions

-- ExceptionResponse ::= SEQUENCE
--     { state-error ENUMERATED { service-not-allowed (1), service-unknown (2) },
--       service-error ENUMERATED { operation-not-possible (1), service-not-supported (2),
--           other-reason (3), .. } }
abbrev pub exception_forms : Choice ℕ ApduFault Exception
exception_forms =
    under 1 Unreadable (
    on 1 empty (λ none. exception.NotAllowed) (
    on 3 empty (λ none. exception.Unreadable) (
    otherwise Unreadable))) (
    under 2 Unreadable (
    on 2 empty (λ none. exception.Unknown) (
    otherwise Unreadable)) (
    otherwise Unreadable))

-- the place of each exception in its choice: its state-error and its service-error
abbrev pub exception_parts : Exception → Parts exception_forms
exception_parts exception.NotAllowed = inl (inl tt)
exception_parts exception.Unreadable = inl (inr (inl tt))
exception_parts exception.Unknown = inr (inl (inl tt))

-- ExceptionResponse, after its tag
abbrev pub exception_part : Part Exception
exception_part = one_of Unreadable exception_forms exception_parts
