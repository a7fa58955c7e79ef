-- Which clients are accepted: a management client only with the password, and always with it.
use Rattle.std.proofs.Common.{◌≡◌, ◌≢◌, ◌⊎◌, ℕ, ◌^◌, ◌<◌, ◌≤◌, Bool, true, false, not, ◌&&◌, ◌||◌, ◌==◌, nat_le, cond, Option, Some, None, List, Result, Ok, Err, refl, sym, ap, subst, ◌∙◌, inl, inr}
use Rattle.std.specs.Prelude.{bytes_eq, bit_and}
use Rattle.std.proofs.lemmas.Bool.{eqb-true, eq-eqb, ne_eqb, le-leb, not-true}
use Rattle.std.proofs.lemmas.Slice.Eq.{bytes_eq-Decides}
use Rattle.wire_bytes.specs.Outcome.{◌>>=◌, ◌>>◌, guard}
use Rattle.wire_bytes.proofs.Lawful.{read_again}
use Rattle.wire_bytes.proofs.OutcomeLemmas.{done, ok_is, bind_ok, guard_ok, chosen}
use Rattle.cosem_names.specs.declared.level.Level.{Level}
use Rattle.cosem_names.specs.declared.level.Level.TheVariants.{Public, Management}
use Rattle.acse_ber.specs.Reading.{proposal_of}
use Rattle.acse_ber.specs.Text.{ln_context, low_level, request_text, low_level_aarq}
use Rattle.acse_ber.specs.Verdict.{is_no_mechanism, level_of, must_authenticate, is_password, proposal_or_refusal, offered_services, proposal_check, authentication_check, association_check, verdict_by, verdict_of}
use Rattle.acse_ber.specs.declared.aarq.Aarq.{Aarq}
use Rattle.acse_ber.specs.declared.fault.AcseFault.{AcseFault}
use Rattle.acse_ber.specs.declared.fault.AcseFault.TheVariants.{Unreadable}
use Rattle.acse_ber.specs.declared.initiate.Proposal.{Proposal}
use Rattle.acse_ber.specs.declared.verdict.Verdict.{Verdict}
use Rattle.acse_ber.specs.declared.verdict.Verdict.TheVariants.{Accepted, Rejected, InitiateError}
use Rattle.acse_ber.proofs.PartLaws.{proposal_lawful}

-- ---- a refusal accepts no client

abbrev IsRefusal : Verdict → Type 0
IsRefusal (Accepted level bits limit) = ⊥
IsRefusal (Rejected diagnostic) = Unit {0}
IsRefusal (InitiateError error) = Unit {0}

abbrev Refuses : {X : Type 0} → Result X Verdict → Type 0
Refuses (Ok x) = Unit {0}
Refuses (Err verdict) = IsRefusal verdict

then_refuses : {X Y : Type 0} (r : Result X Verdict) (next : X → Result Y Verdict) → Refuses r
    → ((x : X) → Refuses (next x)) → Refuses (r >>= next)
then_refuses (Ok x) next one others = others x
then_refuses (Err verdict) next one others = one

guard_refuses : {Y : Type 0} (b : Bool) (verdict : Verdict) (next : Result Y Verdict)
    → IsRefusal verdict → Refuses next → Refuses (guard b verdict >> next)
guard_refuses true verdict next is others = others
guard_refuses false verdict next is others = is

last_refuses : (b : Bool) (verdict : Verdict) → IsRefusal verdict → Refuses (guard b verdict)
last_refuses true verdict is = tt
last_refuses false verdict is = is

level_refuses : (sap : ℕ) → Refuses (level_of sap)
level_refuses sap = elim (sap == 1) as (λ b. Refuses
    (cond b (Ok Management) (cond (sap == 16) (Ok Public) (Err (Rejected 1))))) [
      | true ↦ tt
      | false ↦ elim (sap == 16) as (λ b. Refuses (cond b (Ok Public) (Err (Rejected 1))))
          [ true ↦ tt | false ↦ tt ]
    ]

proposal_refuses : (r : Result Proposal AcseFault) → Refuses (proposal_or_refusal r)
proposal_refuses (Ok proposal) = tt
proposal_refuses (Err fault) = tt

agreed_refuses : (level : Level) (proposal : Proposal) → Refuses (proposal_check level proposal)
unfolding proposal_check
agreed_refuses level proposal =
    let new = nat_le 6 proposal.version in
    let some = not (bit_and offered_services proposal.conformance.0 == 0) in
    let long = proposal.size == 0 || nat_le 64 proposal.size in
    let last : Result Verdict Verdict = Ok (Accepted level
    (bit_and offered_services proposal.conformance.0) proposal.size) in
    guard_refuses new (InitiateError 1) (guard some (InitiateError 2) >>
    (guard long (InitiateError 3) >> last)) tt
    (guard_refuses some (InitiateError 2) (guard long (InitiateError 3) >> last) tt
    (guard_refuses long (InitiateError 3) last tt tt))

authenticated_refuses : (level : Level) (aarq : Aarq) (password : List ℕ)
    → Refuses (authentication_check level aarq password)
unfolding authentication_check
authenticated_refuses level aarq password =
    let known = is_no_mechanism aarq.mechanism || bytes_eq aarq.mechanism low_level in
    let some = not (must_authenticate level && is_no_mechanism aarq.mechanism) in
    let same = not (must_authenticate level) || is_password password aarq.password in
    guard_refuses known (Rejected 11) (guard some (Rejected 14) >> guard same (Rejected 13)) tt
    (guard_refuses some (Rejected 14) (guard same (Rejected 13)) tt
    (last_refuses same (Rejected 13) tt))

judged_refuses : (aarq : Aarq) (sap : ℕ) (password : List ℕ)
    → Refuses (association_check aarq sap password)
unfolding association_check
judged_refuses aarq sap password =
    let proposal = proposal_or_refusal (proposal_of aarq.user) in
    then_refuses (level_of sap) (λ level. guard (bytes_eq aarq.context ln_context) (Rejected 2) >>
    (authentication_check level aarq password >> (proposal >>= λ p. proposal_check level p)))
    (level_refuses sap) (λ level.
    guard_refuses (bytes_eq aarq.context ln_context) (Rejected 2)
    (authentication_check level aarq password >> (proposal >>= λ p. proposal_check level p)) tt
    (then_refuses (authentication_check level aarq password) (λ u. proposal
    >>= λ p. proposal_check level p) (authenticated_refuses level aarq password) (λ u.
    then_refuses proposal (proposal_check level) (proposal_refuses (proposal_of aarq.user))
    (agreed_refuses level))))

-- an accepted client passed all the checks
settled_ok : (r : Result Verdict Verdict) (level : Level) (bits limit : ℕ) → Refuses r
    → verdict_by r ≡ Accepted level bits limit → r ≡ Ok (Accepted level bits limit)
settled_ok (Ok verdict) level bits limit is e = ap (done Verdict) e
settled_ok (Err verdict) level bits limit is e = absurd (subst IsRefusal e is)

-- ---- which clients are accepted

abbrev level_in : Verdict → Level
level_in (Accepted level bits limit) = level
level_in (Rejected diagnostic) = Public
level_in (InitiateError error) = Public

agreed_level : (level : Level) (proposal : Proposal) (verdict : Verdict)
    → proposal_check level proposal ≡ Ok verdict → level ≡ level_in verdict
unfolding proposal_check
agreed_level level proposal verdict e =
    let a = guard_ok (nat_le 6 proposal.version) (InitiateError 1) _ verdict e in
    let b = guard_ok (not (bit_and offered_services proposal.conformance.0 == 0))
    (InitiateError 2) _ verdict a.1 in
    let c = guard_ok (proposal.size == 0 || nat_le 64 proposal.size) (InitiateError 3) _ verdict b.1
    in
    ap level_in (ok_is {F = Verdict} (Accepted level
    (bit_and offered_services proposal.conformance.0) proposal.size) verdict c.1)

-- the checks that an accepted client passed
passed : (aarq : Aarq) (sap : ℕ) (password : List ℕ) (level : Level) (bits limit : ℕ)
    → verdict_of aarq sap password ≡ Accepted level bits limit → (level_of sap ≡ Ok level)
    × (authentication_check level aarq password ≡ Ok tt)
unfolding verdict_of association_check
passed aarq sap password level bits limit e =
    let verdict : Verdict = Accepted level bits limit in
    let all : association_check aarq sap password
    ≡ Ok verdict = settled_ok (association_check aarq sap password) level bits limit
    (judged_refuses aarq sap password) e in
    let l = bind_ok (level_of sap) _ verdict all in
    let c = guard_ok (bytes_eq aarq.context ln_context) (Rejected 2) _ verdict l.2 in
    let a = bind_ok (authentication_check l.0 aarq password) _ verdict c.1 in
    let p = bind_ok (proposal_or_refusal (proposal_of aarq.user)) _ verdict a.2 in
    let same : l.0 ≡ level = agreed_level l.0 p.0 verdict p.2 in (
      l.1 ∙ ap (done Verdict) same,
      sym (ap (λ (o : Level). authentication_check o aarq password)
          same) ∙ a.1,
    )

pub management_port : (sap : ℕ) → level_of sap ≡ Ok Management → sap ≡ 1
management_port sap e =
    elim (chosen (sap == 1) _ _ (done Verdict Management) e) [
      | inl h ↦ eqb-true sap 1 h.0
      | inr h ↦ elim (chosen (sap == 16) _ _ (done Verdict Management) h.1) [
        | inl g ↦ let wrong : done Verdict Public
            ≡ Ok Management = g.1 in absurd cc
        | inr g ↦ let wrong : Err (Rejected 1)
            ≡ done Verdict Management = g.1 in absurd cc
      ]
    ]

pub public_port : (sap : ℕ) → level_of sap ≡ Ok Public → sap ≡ 16
public_port sap e =
    elim (chosen (sap == 1) _ _ (done Verdict Public) e) [
      | inl h ↦ let wrong : done Verdict Management ≡ Ok Public = h.1 in absurd cc
      | inr h ↦ elim (chosen (sap == 16) _ _ (done Verdict Public) h.1) [
        | inl g ↦ eqb-true sap 16 g.0
        | inr g ↦ let wrong : Err (Rejected 1)
            ≡ done Verdict Public = g.1 in absurd cc
      ]
    ]

password_is : (password : List ℕ) (given : Option (List ℕ)) → is_password password given ≡ true
    → given ≡ Some password
password_is password None e = absurd cc
password_is password (Some given) e = ap (λ (g : List ℕ). Some g)
    ((bytes_eq-Decides given password).0 e)

guard_true : (b : Bool) (verdict : Verdict) (u : Unit {0}) → guard b verdict ≡ Ok u → b ≡ true
guard_true true verdict u e = refl
guard_true false verdict u e = absurd cc

authentic : (aarq : Aarq) (password : List ℕ) → authentication_check Management aarq password
    ≡ Ok tt → (aarq.mechanism ≡ low_level) × (aarq.password ≡ Some password)
unfolding authentication_check
authentic aarq password e =
    let known = guard_ok (is_no_mechanism aarq.mechanism || bytes_eq aarq.mechanism low_level)
    (Rejected 11) _ tt e in
    let some = guard_ok (not (is_no_mechanism aarq.mechanism)) (Rejected 14) _ tt known.1 in
    let same = guard_true (is_password password aarq.password) (Rejected 13) tt some.1 in
    let none : is_no_mechanism aarq.mechanism ≡ false =
    not-true (is_no_mechanism aarq.mechanism) some.0 in
    let is : bytes_eq aarq.mechanism low_level ≡ true =
    sym (ap (λ (b : Bool). b || bytes_eq aarq.mechanism low_level) none) ∙ known.0 in
    ((bytes_eq-Decides aarq.mechanism low_level).0 is, password_is password aarq.password same)

pub only_with_password : (aarq : Aarq) (sap : ℕ) (password : List ℕ) (bits limit : ℕ)
    → verdict_of aarq sap password ≡ Accepted Management bits limit → (sap ≡ 1)
    × (aarq.mechanism ≡ low_level) × (aarq.password ≡ Some password)
only_with_password aarq sap password bits limit e =
    let p = passed aarq sap password Management bits limit e in
    let a = authentic aarq password p.1 in
    (management_port sap p.0, a.0, a.1)

pub only_public : (aarq : Aarq) (sap : ℕ) (password : List ℕ) (bits limit : ℕ)
    → verdict_of aarq sap password ≡ Accepted Public bits limit → sap ≡ 16
only_public aarq sap password bits limit e = public_port sap
    (passed aarq sap password Public bits limit e).0

-- ---- a client with the password

abbrev proposal : ℕ → ℕ → Proposal
proposal bits limit = record { version = 6; conformance = record { 0 = bits }; size = limit }

proposal_is : (bits limit : ℕ) → bits < 2 ^ 24 → limit < 2 ^ 16
    → proposal_of (request_text bits limit) ≡ Ok (proposal bits limit)
unfolding proposal_of
proposal_is bits limit below small =
    read_again Unreadable proposal_lawful (request_text bits limit) (proposal bits limit)
    (proposal_lawful.written (proposal bits limit) ((tt, tt), (tt, (tt, ((tt, below), small)))))

long_enough : (limit : ℕ) → (limit ≡ 0) ⊎ (64 ≤ limit) → (limit == 0 || nat_le 64 limit) ≡ true
long_enough limit (inl h) = rw (eq-eqb limit 0 h) refl
long_enough limit (inr h) = rw (le-leb 64 limit h) (elim (limit == 0) as (λ b. (b || true)
    ≡ true) [ true ↦ refl | false ↦ refl ])

agreed_is : (bits limit : ℕ) → bit_and offered_services bits ≢ 0 → (limit ≡ 0) ⊎ (64 ≤ limit)
    → proposal_check Management (proposal bits limit)
    ≡ Ok (Accepted Management (bit_and offered_services bits) limit)
unfolding proposal_check
agreed_is bits limit some long = rw (
  ne_eqb (bit_and offered_services bits) 0 some,
  long_enough limit long,
) refl

pub accepted_with_password : (password : List ℕ) (bits limit : ℕ) → bits < 2 ^ 24 → limit < 2 ^ 16
    → bit_and offered_services bits ≢ 0 → (limit ≡ 0) ⊎ (64 ≤ limit)
    → verdict_of (low_level_aarq password bits limit) 1 password
    ≡ Accepted Management (bit_and offered_services bits) limit
unfolding verdict_of association_check authentication_check low_level_aarq
accepted_with_password password bits limit below small some long =
    let same : bytes_eq password password ≡ true = (bytes_eq-Decides password password).1 refl in
    rw (same, proposal_is bits limit below small, agreed_is bits limit some long) refl
