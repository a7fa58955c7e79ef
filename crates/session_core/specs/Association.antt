-- The association that an AARQ opens, and its answer (IEC 62056-5-3, association control).
use Rattle.std.specs.Prelude.{ℕ, ◌==◌, min, max, if◌then◌else◌, Option, Some, None, List, Result, Ok, Err}
use Rattle.acse_ber.specs.Reading.{aarq_of}
use Rattle.acse_ber.specs.Verdict.{verdict_of}
use Rattle.acse_ber.specs.declared.fault.AcseFault.{AcseFault}
use Rattle.acse_ber.specs.declared.aarq.Aarq.{Aarq}
use Rattle.acse_ber.specs.declared.aare.Aare.{Aare}
use Rattle.acse_ber.specs.declared.aare.Info.TheVariants.{Absent, Response}
use Rattle.acse_ber.specs.declared.aare.Info.TheVariants as info
use Rattle.acse_ber.specs.declared.verdict.Verdict.{Verdict}
use Rattle.acse_ber.specs.declared.verdict.Verdict.TheVariants.{Accepted, Rejected, InitiateError}
use Rattle.session_core.specs.Standard.{least_pdu, greatest_pdu, result_accepted, result_rejected, null_diagnostic}
use Rattle.acse_ber.specs.Diagnostics.{no_reason_given}
use Rattle.session_core.specs.declared.link.Link.{Link}
use Rattle.wrapper_frame.specs.declared.parts.Frame.{Frame}

-- the longest PDU that is sent to a client: the size it proposed, limited to 64 to 1,024 bytes, or
-- 1,024 if it proposed 0 (no limit)
abbrev pub limit_of : ℕ → ℕ
limit_of proposed = if proposed == 0 then greatest_pdu
    else max least_pdu (min proposed greatest_pdu)

-- the association of a client that is accepted, with its wrapper port
abbrev pub link_by : ℕ → Verdict → Option Link
link_by source (Accepted level bits limit) =
    Some (record {
      source = source;
      level = level;
      conformance = record { 0 = bits };
      limit = limit_of limit;
    })
link_by source (Rejected diagnostic) = None
link_by source (InitiateError error) = None

-- the answer to an AARQ, by its verdict; the server receives PDUs of up to 1,024 bytes
abbrev pub aare_by : Verdict → Aare
aare_by (Accepted level bits limit) =
    record {
      result = result_accepted;
      diagnostic = null_diagnostic;
      info = Response bits greatest_pdu;
    }
aare_by (Rejected diagnostic) = record {
  result = result_rejected;
  diagnostic = diagnostic;
  info = Absent;
}
aare_by (InitiateError error) =
    record {
      result = result_rejected;
      diagnostic = no_reason_given;
      info = info.InitiateError error;
    }

-- the association that an AARQ from a port opens, if it was readable and is accepted
abbrev pub link_from : List ℕ → ℕ → Result Aarq AcseFault → Option Link
link_from password source (Ok aarq) = link_by source (verdict_of aarq source password)
link_from password source (Err fault) = None

-- the association that a frame with an AARQ opens, if any
unfoldable pub link_by_opening : List ℕ → Frame → Option Link
link_by_opening password f = link_from password f.src (aarq_of f.payload)
