-- The RLRQ that a client sends.
use Rattle.std.proofs.Common.{[], ◌∷◌, refl, arith}
use Rattle.wire_bytes.proofs.Lawful.{join}
use Rattle.acse_ber.specs.Spelling.{SpellsRelease}
use Rattle.acse_ber.specs.Text.{reason_text, release_request}
use Rattle.acse_ber.proofs.PartLaws.{tagged_lawful, field_lawful}

-- it is an RLRQ, whose only field is the reason
pub request_spelled : SpellsRelease release_request
request_spelled = (
  record { tag = 0x80; contents = 0x00 ∷ [] } ∷ [],
  record {
    body = reason_text 0;
    is_tagged = (tagged_lawful 0x62).written (reason_text 0) (tt, omega arith);
    are_fields = join (reason_text 0) [] (field_lawful.written
        (record { tag = 0x80; contents = 0x00 ∷ [] }) ((refl, tt), omega arith)) refl;
  },
)
