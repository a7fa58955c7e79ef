-- The diagnostics of an association that was refused, in words.
--     reason_words    the words of a diagnostic
use Rattle.std.specs.Prelude.{ℕ, ◌==◌, if◌then◌else◌, List, codes}
use Rattle.acse_ber.specs.Diagnostics as diagnostic

-- the words of a diagnostic (IEC 62056-5-3, Acse-service-user)
abbrev pub reason_words : ℕ → List ℕ
reason_words n =
    if n == diagnostic.no_reason_given then codes "no reason given" else
    if n == diagnostic.application_context_name_not_supported
    then codes "application context not supported" else
    if n == diagnostic.authentication_mechanism_name_not_recognised
    then codes "authentication mechanism not known" else
    if n == diagnostic.authentication_failure then codes "wrong password" else
    if n == diagnostic.authentication_required then codes "a password is required" else
    codes "another diagnostic"
