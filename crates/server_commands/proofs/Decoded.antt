-- Lines that are decoded.
use Rattle.std.proofs.Common.{◌≡◌, ◌/◌, ℕ, List, [], ◌∷◌, ◌++◌, length, Ok, Err, refl, sym, ap, ◌∙◌, arith, inr}
use Rattle.std.specs.Prelude.{◌⊎◌, Result, MatchResult, OnOk, IfErr}
use Rattle.hex.specs.Hex.{decode_of, decode_sized}
use Rattle.hex.specs.declared.error.FromHexError.{FromHexError}
use Rattle.hex.specs.declared.error.FromHexError.TheVariants as hex_fault
use Rattle.server_commands.specs.Requests.{AddsRequest, line_request, request_fault}
use Rattle.server_commands.specs.declared.messages.CommandFault.TheVariants as fault
use Rattle.server_commands.specs.declared.messages.RequestFault.{RequestFault}

-- in half as many bytes as it has digits a line is decoded as it is
half_sized : (s : List ℕ) (n : ℕ) → n ≡ length s / 2 → decode_sized s n ≡ decode_of s
half_sized s n half = grind (arith)

abbrev Decoded : Result (List ℕ) FromHexError → Result (Unit {0}) FromHexError → List ℕ → Type 0
Decoded d result out = MatchResult d (λ bytes. (result ≡ Ok tt) × (out ≡ bytes))
    (λ e. result ≡ Err e)

ok_by : (d : Result (List ℕ) FromHexError) (out : List ℕ) → Decoded d (Ok tt) out → d ≡ Ok out
ok_by (Ok bytes) out is = ap (λ (b : List ℕ). let r : Result (List ℕ) FromHexError = Ok b in r) (sym
    is.1)
ok_by (Err e) out is = cc

err_by : (d : Result (List ℕ) FromHexError) (out : List ℕ) (error : FromHexError)
    → Decoded d (Err error) out → d ≡ Err error
err_by (Ok bytes) out error is = let no = is.0 in cc
err_by (Err e) out error is = cc

-- so a line is decoded, or its error is the decoder's
pub line_decoded : (s : List ℕ) (n : ℕ) (out : List ℕ) (result : Result (Unit {0}) FromHexError) → n
    ≡ length s / 2 → Decoded (decode_sized s n) result out
    → OnOk result (decode_of s ≡ Ok out)
line_decoded s n out (Ok done) half is = sym (half_sized s n half) ∙ ok_by (decode_sized s n) out is
line_decoded s n out (Err error) half is = tt

pub line_undecoded : (s : List ℕ) (n : ℕ) (out : List ℕ) (result : Result (Unit {0}) FromHexError)
    → n ≡ length s / 2 → Decoded (decode_sized s n) result out
    → IfErr result (λ error. (error ≡ hex_fault.OutOfMemory) ⊎ (decode_of s ≡ Err error))
line_undecoded s n out (Ok done) half is = tt
line_undecoded s n out (Err error) half is = inr (sym (half_sized s n half)
    ∙ err_by (decode_sized s n) out error is)

-- the request of a line was appended
pub request_added : (number : ℕ) (line digits : List ℕ) (old new : List (List ℕ)) → decode_of line
    ≡ Ok digits → new ≡ old ++ digits ∷ []
    → AddsRequest {X = Unit {0}} number line old (Ok tt) new
unfolding line_request
request_added number line digits old new read added = (digits, rw read refl, added)

-- a line is wrong
pub request_wrong : (number : ℕ) (line : List ℕ) (error : FromHexError) (why : RequestFault)
    → decode_of line ≡ Err error → why ≡ request_fault line
    → line_request number line ≡ Err (fault.Line number why)
unfolding line_request
request_wrong number line error why wrong is = rw wrong (rw is refl)
