-- The AARQ that is written consists of the bytes of the standard.
use Rattle.std.proofs.Common.{◌≡◌, ℕ, ◌+◌, ◌<◌, ◌≤◌, List, [], ◌∷◌, ◌++◌, Some, length, refl, ◌∙◌}
use Rattle.std.proofs.Common.{ap, arith}
use Rattle.std.proofs.lemmas.Bool.{lt-ltb}
use Rattle.std.proofs.lemmas.List.{length-append}
use Rattle.cosem_axdr.specs.Spelling.{length_text}
use Rattle.acse_ber.specs.Text.{tagged_text, context_text, mechanism_text, password_text, user_text, request_text, ln_context, low_level, aarq_body, aarq_text, low_level_aarq}
use Rattle.client_core.specs.Texts.{opening_fields, initiate_field, aarq_payload}

-- a length below 80 hex is one byte
short_length : (n : ℕ) → n < 0x80 → length_text n ≡ n ∷ []
short_length n below = rw (lt-ltb n 0x80 below) refl

-- a tag, a length below 80 hex, and the contents
short_tagged : (tag n : ℕ) (contents : List ℕ) → length contents ≡ n → n < 0x80
    → tagged_text tag contents ≡ tag ∷ n ∷ contents
short_tagged tag n contents is below = rw (is, lt-ltb n 0x80 below) refl

password_written : (password : List ℕ) → length password ≤ 32 → password_text (Some password) ≡ 0xAC
    ∷ (2 + length password) ∷ 0x80 ∷ length password ∷ password
password_written password short =
    ap (tagged_text 0xAC) (short_tagged 0x80 (length password) password refl (omega arith))
    ∙ short_tagged 0xAC (2 + length password) (0x80 ∷ length password ∷ password) (omega arith)
    (omega arith)

body_written : (password : List ℕ) → length password ≤ 32
    → aarq_body (low_level_aarq password 0x1C19 1024) ≡ opening_fields
    ++ (0xAC ∷ (2 + length password) ∷ 0x80 ∷ length password ∷ (password ++ initiate_field))
unfolding low_level_aarq
body_written password short =
    ap (λ (text : List ℕ). context_text ln_context
    ++ (mechanism_text low_level ++ (text ++ user_text (request_text 0x1C19 1024))))
    (password_written password short)

-- an AARQ has at most 80 bytes
pub aarq_short : (password : List ℕ) → length password ≤ 32 → length (aarq_payload password) ≤ 1024
aarq_short password short = omega (arith, length-append password initiate_field)

-- the text that is written is that AARQ
pub aarq_written : (password : List ℕ) → length password ≤ 32
    → aarq_text (low_level_aarq password 0x1C19 1024) ≡ aarq_payload password
unfolding aarq_text
aarq_written password short =
    ap (tagged_text 0x60) (body_written password short)
    ∙ short_tagged 0x60 (46 + length password) (opening_fields
    ++ (0xAC ∷ (2 + length password) ∷ 0x80 ∷ length password ∷ (password ++ initiate_field)))
    (omega (arith, length-append password initiate_field)) (omega arith)
