-- The reasons for which an association is refused (IEC 62056-5-3).
--     no_reason_given ..        Acse-service-user, the diagnostics in an AARE
--     dlms_version_too_low ..   Initiate, the errors in a ConfirmedServiceError
use Rattle.std.specs.Prelude.{ℕ}

-- ---- Acse-service-user

-- the diagnostic no-reason-given: the port is that of no client, or the user information is not an
-- InitiateRequest
abbrev pub no_reason_given : ℕ
no_reason_given = 1

-- the diagnostic application-context-name-not-supported: the context is not logical names without
-- ciphering
abbrev pub application_context_name_not_supported : ℕ
application_context_name_not_supported = 2

-- the diagnostic authentication-mechanism-name-not-recognised: the mechanism is neither that of
-- lowest-level nor that of low-level security
abbrev pub authentication_mechanism_name_not_recognised : ℕ
authentication_mechanism_name_not_recognised = 11

-- the diagnostic authentication-failure: the management client's password is missing or wrong
abbrev pub authentication_failure : ℕ
authentication_failure = 13

-- the diagnostic authentication-required: the management client names no mechanism, or lowest-level
-- security
abbrev pub authentication_required : ℕ
authentication_required = 14

-- ---- Initiate

-- the error dlms-version-too-low: the proposed DLMS version is below 6
abbrev pub dlms_version_too_low : ℕ
dlms_version_too_low = 1

-- the error incompatible-conformance: the client proposes no service that the meter offers
abbrev pub incompatible_conformance : ℕ
incompatible_conformance = 2

-- the error pdu-size-too-short: the client's maximum APDU size is 1 to 63 bytes
abbrev pub pdu_size_too_short : ℕ
pdu_size_too_short = 3
