-- A meter's decision on an AARQ (IEC 62056-5-3, AARE): the first check that fails decides. The
-- order of the checks is this meter's choice.
--     level_of                        the level of a client's port
--     association_check               the checks in their order
--     verdict_of                      the verdict
use Rattle.std.specs.Prelude.{ℕ, ◌+◌, Bool, true, false, not, ◌&&◌, ◌||◌, ◌==◌, nat_le, if◌then◌else◌, Option, Some, None, List, [], ◌∷◌, bytes_eq, bit_and, Result, Ok, Err}
use Rattle.wire_bytes.specs.Outcome.{◌>>=◌, ◌>>◌, guard}
use Rattle.cosem_names.specs.declared.level.Level.{Level}
use Rattle.cosem_names.specs.declared.level.Level.TheVariants.{Public, Management}
use Rattle.acse_ber.specs.Conformance.{get_in_blocks, set_in_blocks, action_in_blocks, multiple_references, get_service, set_service, action_service}
use Rattle.acse_ber.specs.Diagnostics as diagnostic
use Rattle.acse_ber.specs.Reading.{proposal_of}
use Rattle.acse_ber.specs.Text.{ln_context, low_level}
use Rattle.acse_ber.specs.declared.aarq.Aarq.{Aarq}
use Rattle.acse_ber.specs.declared.fault.AcseFault.{AcseFault}
use Rattle.acse_ber.specs.declared.initiate.Proposal.{Proposal}
use Rattle.acse_ber.specs.declared.verdict.Verdict.{Verdict}
use Rattle.acse_ber.specs.declared.verdict.Verdict.TheVariants.{Accepted, Rejected, InitiateError}

-- the name of the authentication mechanism of lowest level (Green Book, authentication mechanism
-- names)
abbrev pub lowest_level : List ℕ
lowest_level = 0x60 ∷ 0x85 ∷ 0x74 ∷ 0x05 ∷ 0x08 ∷ 0x02 ∷ 0x00 ∷ []

-- whether a mechanism name is empty, so that none is named, or that of the lowest level, which is
-- no authentication
abbrev pub is_no_mechanism : List ℕ → Bool
is_no_mechanism mechanism = bytes_eq mechanism [] || bytes_eq mechanism lowest_level

-- the level of a client's port: 1 is the management client, 16 the public client (IEC 62056-4-7,
-- wPort)
abbrev pub level_of : ℕ → Result Level Verdict
level_of sap =
    if sap == 1 then Ok Management
    else if sap == 16 then Ok Public
    else Err (Rejected diagnostic.no_reason_given)

-- whether a client of this level must authenticate
abbrev pub must_authenticate : Level → Bool
must_authenticate Management = true
must_authenticate Public = false

-- whether a password was given and is this one
abbrev pub is_password : List ℕ → Option (List ℕ) → Bool
is_password password None = false
is_password password (Some given) = bytes_eq given password

-- the InitiateRequest, or the diagnostic for no reason given if it is unreadable
abbrev pub proposal_or_refusal : Result Proposal AcseFault → Result Proposal Verdict
proposal_or_refusal (Ok proposal) = Ok proposal
proposal_or_refusal (Err fault) = Err (Rejected diagnostic.no_reason_given)

-- the services that the meter offers: block transfer with GET, SET and ACTION, multiple references,
-- GET, SET and ACTION
abbrev pub offered_services : ℕ
offered_services = get_in_blocks + set_in_blocks + action_in_blocks + multiple_references
    + get_service + set_service + action_service

-- the checks of an InitiateRequest (IEC 62056-5-3, InitiateRequest; the refusals:
-- ConfirmedServiceError)
unfoldable pub proposal_check : Level → Proposal → Result Verdict Verdict
proposal_check level proposal = do
  guard (nat_le 6 proposal.version) (InitiateError diagnostic.dlms_version_too_low)
  guard (not (bit_and offered_services proposal.conformance.0 == 0))
      (InitiateError diagnostic.incompatible_conformance)
  guard (proposal.size == 0 || nat_le 64 proposal.size)
      (InitiateError diagnostic.pdu_size_too_short)
  Ok (Accepted level (bit_and offered_services proposal.conformance.0) proposal.size)

-- the checks of the client's authentication
unfoldable pub authentication_check : Level → Aarq → List ℕ → Result (Unit {0}) Verdict
authentication_check level aarq password = do
  guard (is_no_mechanism aarq.mechanism || bytes_eq aarq.mechanism low_level)
      (Rejected diagnostic.authentication_mechanism_name_not_recognised)
  guard (not (must_authenticate level && is_no_mechanism aarq.mechanism))
      (Rejected diagnostic.authentication_required)
  guard (not (must_authenticate level) || is_password password aarq.password)
      (Rejected diagnostic.authentication_failure)

-- all the checks: the refusal of the first that fails, or the accepted association
unfoldable pub association_check : Aarq → ℕ → List ℕ → Result Verdict Verdict
association_check aarq sap password = do
  level ← level_of sap
  guard (bytes_eq aarq.context ln_context)
      (Rejected diagnostic.application_context_name_not_supported)
  authentication_check level aarq password
  proposal ← proposal_or_refusal (proposal_of aarq.user)
  proposal_check level proposal

-- the verdict, from an acceptance or a refusal
abbrev pub verdict_by : Result Verdict Verdict → Verdict
verdict_by (Ok accepted) = accepted
verdict_by (Err refusal) = refusal

-- the verdict on an AARQ from a client's port, with this password
unfoldable pub verdict_of : Aarq → ℕ → List ℕ → Verdict
verdict_of aarq sap password = verdict_by (association_check aarq sap password)
