-- The APDUs whose text is read back.
--     IsFitAarq, IsFitAare            an AARQ that is not too long, and an AARE whose numbers are
--                                     in range
use Rattle.std.specs.Prelude.{◌≡◌, ◌^◌, ◌<◌, true, length}
use Rattle.acse_ber.specs.Reading.{is_response}
use Rattle.acse_ber.specs.Text.{aarq_body}
use Rattle.acse_ber.specs.declared.aarq.Aarq.{Aarq}
use Rattle.acse_ber.specs.declared.aare.Aare.{Aare}
use Rattle.acse_ber.specs.declared.aare.Info.{Info}
use Rattle.acse_ber.specs.declared.aare.Info.TheVariants.{Absent, Response, InitiateError}

-- whether the body of an AARQ has a length that fits in two bytes
abbrev pub IsFitAarq : Aarq → Type 0
IsFitAarq aarq = length (aarq_body aarq) < 2 ^ 16

-- whether the conformance bits of a response are 24, and its size fits in two bytes (IEC 62056-5-3,
-- InitiateResponse)
abbrev pub IsFitInfo : Info → Type 0
IsFitInfo Absent = Unit {0}
IsFitInfo (Response bits limit) = (bits < 2 ^ 24) × (limit < 2 ^ 16)
IsFitInfo (InitiateError error) = Unit {0}

-- whether the user information of an AARE is in range, and is an InitiateResponse if the AARE
-- accepts
pub record IsFitAare (aare : Aare) : Type 0 where
  pub info : IsFitInfo aare.info
  pub responds : aare.result ≡ 0 → is_response aare.info ≡ true
