-- The parts of a new board.
use Rattle.std.proofs.Common.{◌≡◌, ◌⊎◌, ◌<◌, ◌+◌, ◌++◌, ◌∷◌, ℕ, zero, suc, Bool, true, false, List, [], Option, Some, None, refl, sym, ◌∙◌, ap, subst, length, inl, inr, arith, cond, add-one}
use Rattle.std.specs.Prelude.{slice_get, slice_index_or}
use Rattle.std.specs.HashMap.{HashMap, get_by, UpdatesBy, IsEmpty}
use Rattle.std.specs.Str.{bytes_eq}
use Rattle.std.specs.Cmp.Lexicographic.{bytes_decides}
use Rattle.std.proofs.lemmas.Bool.{cases_eq, true≢false}
use Rattle.std.proofs.lemmas.List.{length_push}
use Rattle.std.proofs.lemmas.Map.Text.{hash_map_updates_str}
use denote.Ref.{Bor}
use Rattle.client_core.specs.declared.job.Job.{Job}
use Rattle.campaign_ledger.specs.declared.entry.LedgerEntry.{LedgerEntry}
use Rattle.campaign_ledger.specs.declared.entry.LedgerEntry.TheVariants.{NotSent}
use Rattle.campaign_ledger.specs.Entries.{entry_at}
use Rattle.campaign_board.specs.Talks.{PlaceState}
use Rattle.campaign_board.specs.Histories.{Terms}
use Rattle.campaign_board.specs.Boards.{AreTerms, IsLast, AreBefore}
use Rattle.campaign_board.specs.Building.{AreBeforeOf, AreNew}

-- the element at an index of a list with one more
pub get_push : {A : Type 0} (xs : List A) (y z : A) (i : ℕ)
    → slice_get (xs ++ y ∷ []) i ≡ Some z → (slice_get xs i ≡ Some z) ⊎ ((i ≡ length xs) × (y ≡ z))
get_push [] y z zero is = inr (refl, let same : y ≡ z = cc in same)
get_push [] y z (suc i) is = absurd cc
get_push (x ∷ xs) y z zero is = inl is
get_push (x ∷ xs) y z (suc i) is = elim (get_push xs y z i is) [
  | inl before ↦ inl before
  | inr last ↦ inr (ap suc last.0, last.1)
]

-- ---- the places

-- no place
pub none_new : AreNew 0 []
none_new = record { count_is = refl; each = λ at place is. absurd cc }

-- one more place that waits
pub one_new : (count : ℕ) (places : List PlaceState) (place : PlaceState) → place.talk ≡ None
    → place.ending ≡ None → AreNew count places → AreNew (suc count) (places ++ place ∷ [])
one_new count places place no_talk no_ending are = record {
  count_is = length_push places place ∙ (let is = are.count_is in omega (arith, is));
  each = λ at found got. elim (get_push places place found at got) [
    | inl before ↦ are.each at found before
    | inr last ↦ (
      subst (λ (p : PlaceState). p.talk ≡ None) last.1 no_talk,
      subst (λ (p : PlaceState). p.ending ≡ None) last.1 no_ending,
    )
  ];
}

-- ---- the last earlier jobs

-- Whether these are the last earlier jobs of each one before this bound, and this gives for each
-- address the last job before it.
pub record HasLast (jobs : List Job) (found : List LedgerEntry) (bound : ℕ)
    (before : List (Option ℕ)) (last : List ℕ → Option ℕ) : Type 0 where
  pub count : length before ≡ bound
  pub are : (terms : Terms) (limit : ℕ) → AreTerms terms jobs found limit
      → AreBefore terms before
  pub last_is : (terms : Terms) (limit : ℕ) → AreTerms terms jobs found limit
      → (address : List ℕ) → IsLast terms address bound (last address)

-- no job is before the first
pub none_last : (jobs : List Job) (found : List LedgerEntry) (last : List ℕ → Option ℕ)
    → ((address : List ℕ) → last address ≡ None) → HasLast jobs found 0 [] last
none_last jobs found last none = record {
  count = refl;
  are = λ terms limit is at earlier got. absurd cc;
  last_is = λ terms limit is address. subst (λ (l : Option ℕ). IsLast terms address 0 l)
      (sym (none address)) (λ other earlier. let below = earlier.earlier in omega (arith, below));
}

-- the last job before a bound, if the next job is not one of them
last_same : (terms : Terms) (address : List ℕ) (at : ℕ) (last : Option ℕ)
    → (terms.found at ≡ NotSent → (terms.job at).address ≡ address → ⊥)
    → IsLast terms address at last → IsLast terms address (suc at) last
last_same terms address at None other_is is = λ other earlier. elim (cases_eq other at) [
  | inl same ↦ other_is (subst (λ (n : ℕ). terms.found n ≡ NotSent) same earlier.not_sent)
      (subst (λ (n : ℕ). (terms.job n).address ≡ address) same earlier.same)
  | inr apart ↦ is other (record {
    earlier = let below = earlier.earlier in omega (arith, below, apart);
    not_sent = earlier.not_sent;
    same = earlier.same;
  })
]
last_same terms address at (Some last) other_is is = (
  record {
    earlier = let below = is.0.earlier in omega (arith, below);
    not_sent = is.0.not_sent;
    same = is.0.same;
  },
  λ other earlier. elim (cases_eq other at) [
    | inl same ↦ absurd (other_is
        (subst (λ (n : ℕ). terms.found n ≡ NotSent) same earlier.not_sent)
        (subst (λ (n : ℕ). (terms.job n).address ≡ address) same earlier.same))
    | inr apart ↦ is.1 other (record {
      earlier = let below = earlier.earlier in omega (arith, below, apart);
      not_sent = earlier.not_sent;
      same = earlier.same;
    })
  ],
)

-- the last job before a bound is the one just before it
last_new : (terms : Terms) (address : List ℕ) (at : ℕ) → terms.found at ≡ NotSent
    → (terms.job at).address ≡ address → IsLast terms address (suc at) (Some at)
last_new terms address at fresh same = (
  record { earlier = omega arith; not_sent = fresh; same = same },
  λ other earlier. elim (cases_eq other at) [
    | inl here ↦ inl here
    | inr apart ↦ inr (let below = earlier.earlier in omega (arith, below, apart))
  ],
)

last_by : (terms : Terms) (address : List ℕ) (at : ℕ) (own : List ℕ) (here : Bool)
    (old : Option ℕ) → bytes_eq own address ≡ here → (terms.job at).address ≡ own
    → terms.found at ≡ NotSent → IsLast terms address at old
    → IsLast terms address (suc at) (cond here (Some at) old)
last_by terms address at own true old same job_is fresh is =
    last_new terms address at fresh (job_is ∙ (bytes_decides own address).0 same)
last_by terms address at own false old apart job_is fresh is =
    last_same terms address at old
    (λ sent same. true≢false (sym ((bytes_decides own address).1 (sym job_is ∙ same)) ∙ apart)) is

before_more : (terms : Terms) (address : List ℕ) (at : ℕ) (before : List (Option ℕ))
    (earlier : Option ℕ) → length before ≡ at → (terms.job at).address ≡ address
    → IsLast terms address at earlier → AreBefore terms before
    → AreBefore terms (before ++ earlier ∷ [])
before_more terms address at before earlier count job_is is are = λ other last got.
    elim (get_push before earlier last other got) [
      | inl first ↦ are other last first
      | inr newest ↦ subst (λ (n : ℕ). IsLast terms (terms.job n).address n last)
          (sym count ∙ sym newest.0)
          (subst (λ (l : Option ℕ). IsLast terms (terms.job at).address at l) newest.1
          (subst (λ (a : List ℕ). IsLast terms a at earlier) (sym job_is) is))
    ]

-- a job that has to be run is the last one of its address from now on
last_inserted : (jobs : List Job) (found : List LedgerEntry) (at : ℕ)
    (before : List (Option ℕ)) (last last' : List ℕ → Option ℕ) (job : Job) (earlier : Option ℕ)
    → at < length jobs → job ≡ slice_index_or jobs at job → entry_at found at ≡ NotSent
    → earlier ≡ last job.address
    → ((address : List ℕ) → last' address ≡ cond (bytes_eq job.address address) (Some at)
    (last address))
    → HasLast jobs found at before last
    → HasLast jobs found (suc at) (before ++ earlier ∷ []) last'
last_inserted jobs found at before last last' job earlier within job_is fresh earlier_is last_are
    has = record {
      count = length_push before earlier ∙ (let is = has.count in omega (arith, is));
      are = λ terms limit is. before_more terms job.address at before earlier has.count
          (ap (λ (j : Job). j.address) (is.jobs_are at job within ∙ sym job_is))
          (subst (λ (l : Option ℕ). IsLast terms job.address at l) (sym earlier_is)
          (has.last_is terms limit is job.address))
          (has.are terms limit is);
      last_is = λ terms limit is address. subst (λ (l : Option ℕ). IsLast terms address (suc at) l)
          (sym (last_are address))
          (last_by terms address at job.address (bytes_eq job.address address) (last address) refl
          (ap (λ (j : Job). j.address) (is.jobs_are at job within ∙ sym job_is))
          (is.found_are at ∙ fresh) (has.last_is terms limit is address));
    }

-- a job whose command may have been sent changes nothing for those after it
last_passed : (jobs : List Job) (found : List LedgerEntry) (at : ℕ)
    (before : List (Option ℕ)) (last : List ℕ → Option ℕ) (job : Job) (earlier : Option ℕ)
    → at < length jobs → job ≡ slice_index_or jobs at job → (entry_at found at ≡ NotSent → ⊥)
    → earlier ≡ last job.address
    → HasLast jobs found at before last
    → HasLast jobs found (suc at) (before ++ earlier ∷ []) last
last_passed jobs found at before last job earlier within job_is sent earlier_is has = record {
  count = length_push before earlier ∙ (let is = has.count in omega (arith, is));
  are = λ terms limit is. before_more terms job.address at before earlier has.count
      (ap (λ (j : Job). j.address) (is.jobs_are at job within ∙ sym job_is))
      (subst (λ (l : Option ℕ). IsLast terms job.address at l) (sym earlier_is)
      (has.last_is terms limit is job.address))
      (has.are terms limit is);
  last_is = λ terms limit is address. last_same terms address at (last address)
      (λ fresh same. sent (sym (is.found_are at) ∙ fresh)) (has.last_is terms limit is address);
}

-- the same, of a map from addresses to places
abbrev pub last_in : {S : Type 0} → HashMap (Bor (List ℕ)) ℕ S → List ℕ → Option ℕ
last_in map address = get_by (λ key. bytes_eq address key.now) map

pub map_inserted : {S : Type 0} (jobs : List Job) (found : List LedgerEntry) (at : ℕ)
    (before : List (Option ℕ)) (old new : HashMap (Bor (List ℕ)) ℕ S) (job : Job)
    (address : List ℕ) (earlier : Option ℕ)
    → at < length jobs → job ≡ slice_index_or jobs at job → entry_at found at ≡ NotSent
    → address ≡ job.address → earlier ≡ last_in old address
    → UpdatesBy (λ x y. bytes_eq x.now y.now) (λ key. bytes_eq address key.now) old new (Some at)
    → HasLast jobs found at before (last_in old)
    → HasLast jobs found (at + 1) (before ++ earlier ∷ []) (last_in new)
map_inserted jobs found at before old new job address earlier within job_is fresh address_is
    earlier_is updates has =
    rw (add-one at) (last_inserted jobs found at before (last_in old) (last_in new) job earlier
    within job_is fresh (subst (λ (a : List ℕ). earlier ≡ last_in old a) address_is earlier_is)
    (λ other. subst (λ (a : List ℕ). last_in new other ≡ cond (bytes_eq a other) (Some at)
    (last_in old other)) address_is (hash_map_updates_str address old new (Some at) updates other))
    has)

pub map_passed : {S : Type 0} (jobs : List Job) (found : List LedgerEntry) (at : ℕ)
    (before : List (Option ℕ)) (map : HashMap (Bor (List ℕ)) ℕ S) (job : Job)
    (address : List ℕ) (earlier : Option ℕ)
    → at < length jobs → job ≡ slice_index_or jobs at job → (entry_at found at ≡ NotSent → ⊥)
    → address ≡ job.address → earlier ≡ last_in map address
    → HasLast jobs found at before (last_in map)
    → HasLast jobs found (at + 1) (before ++ earlier ∷ []) (last_in map)
map_passed jobs found at before map job address earlier within job_is sent address_is earlier_is
    has = rw (add-one at) (last_passed jobs found at before (last_in map) job earlier within job_is
    sent (subst (λ (a : List ℕ). earlier ≡ last_in map a) address_is earlier_is) has)

-- a map without entries
pub map_none : {S : Type 0} (jobs : List Job) (found : List LedgerEntry)
    (before : List (Option ℕ)) (map : HashMap (Bor (List ℕ)) ℕ S) → before ≡ [] → IsEmpty map
    → HasLast jobs found 0 before (last_in map)
map_none jobs found before map none empty =
    rw none (none_last jobs found (last_in map) (λ address. rw empty refl))

-- all jobs
pub all_before : (jobs : List Job) (found : List LedgerEntry) (bound : ℕ)
    (before : List (Option ℕ)) (last : List ℕ → Option ℕ) → bound ≡ length jobs
    → HasLast jobs found bound before last → AreBeforeOf jobs found before
all_before jobs found bound before last whole has = record {
  count = has.count ∙ whole;
  are = has.are;
}
