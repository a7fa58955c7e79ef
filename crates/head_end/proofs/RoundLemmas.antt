-- Jobs that run in rounds.
use Rattle.std.proofs.Common.{◌≡◌, ◌+◌, ◌<◌, ◌≤◌, ◌⊎◌, inl, inr, ℕ, zero, suc, Bool, true, false}
use Rattle.std.proofs.Common.{if◌then◌else◌, List, length, take, slice_index_or}
use Rattle.std.proofs.Common.{Option, [], ◌∷◌, ◌++◌, bytes_eq}
use Rattle.std.proofs.Common.{add-one, refl, sym, ap, subst, ◌∙◌, arith}
use Rattle.std.proofs.Common.{Ordering, Less, Equal, Greater}
use Rattle.std.proofs.lemmas.Bool.{cases_lt}
use Rattle.std.proofs.lemmas.Cmp.{ranked}
use Rattle.std.proofs.lemmas.List.Elements.{All-get_or, Contains-append_left, Contains-push}
use Rattle.std.proofs.lemmas.List.Sums.{sum_by_more, sum_by_more_le}
use Rattle.std.proofs.lemmas.List.{take-take, length-take-le, length-append, get_or-take}
use Rattle.std.proofs.lemmas.List.{get_or_default, get_or_append_left, get_or_push}
use Rattle.std.specs.Bool.{Decides}
use Rattle.std.proofs.lemmas.Slice.Eq.{bytes_eq-Decides}
use Rattle.std.specs.List.{All, Contains, sum_by}
use Rattle.std.specs.Ordering.{MatchOrdering, is_lt, nat_cmp, ord_max}
use Rattle.client_core.specs.declared.job.Job.{Job}
use Rattle.head_end.specs.declared.row.Row.{Row}
use Rattle.head_end.specs.Attempts.{State, unused}
use Rattle.head_end.specs.Campaigns.{place_at, EachChange, IsRun}
use Rattle.head_end.specs.Connections.{Forecast}
use Rattle.head_end.specs.Rounds.{one_at, round_of, AreRounds, HaveJobs, RunInOrder, IsTurn}
use Rattle.head_end.specs.Rounds.{AreWaiting, IsRoundRun, IsRunUpTo}
use Rattle.std.proofs.Math.Nat.{eq-or-lt_of_le}

-- ---- the order of the rounds

decided : (b : Bool) (P : Type 0) → Decides b P → P → b ≡ true
decided b P decides is = decides.1 is

-- an earlier job with this address counts
earlier_counts : (jobs : List Job) (address : List ℕ) (i j : ℕ) (job : Job) → i < j
    → j < length jobs → (slice_index_or jobs i job).address ≡ address
    → sum_by (one_at address) (take i jobs) < sum_by (one_at address) (take j jobs)
earlier_counts jobs address i j job before below is =
    let within : i < length (take j jobs) = omega (arith, length-take-le j jobs (omega arith)) in
    let sums = sum_by_more_le (one_at address) (take j jobs) i job within in
    let front : take i (take j jobs) ≡ take i jobs = take-take i j jobs (omega arith) in
    let own : slice_index_or (take j jobs) i job ≡ slice_index_or jobs i job =
    get_or-take j jobs i job before in
    let one : one_at address (slice_index_or jobs i job) ≡ 1 =
    ap (λ (b : Bool). if b then 1 else 0)
    (decided _ _ (bytes_eq-Decides (slice_index_or jobs i job).address address) is) in
    omega (arith, sums, ap (sum_by (one_at address)) front, ap (one_at address) own, one)

pub in_order : RunInOrder
in_order jobs rounds count i j job are before below same =
    let counts = earlier_counts jobs (slice_index_or jobs j job).address i j job before below same
    in
    let first : slice_index_or rounds i 0 ≡ sum_by (one_at (slice_index_or jobs j job).address)
    (take i jobs) = are.each i job (omega arith) ∙ ap (λ a. sum_by (one_at a) (take i jobs)) same in
    omega (arith, counts, first, are.each j job below)

-- ---- the rounds of the jobs so far

by_order : {P Q : Type 0} (R : Type 0) → P ⊎ Q → (P → R) → (Q → R) → R
by_order R (inl p) left right = left p
by_order R (inr q) left right = right q

pub record RoundsSoFar (jobs : List Job) (rounds : List ℕ) (count place : ℕ) : Type 0 where
  pub len : length rounds ≡ place
  pub each : (i : ℕ) (job : Job) → i < place
      → slice_index_or rounds i 0 ≡ round_of jobs i (slice_index_or jobs i job).address
  pub below : (i : ℕ) → i < place → slice_index_or rounds i 0 < count
  pub used : HaveJobs rounds count

-- a job before `end` that has this address, and this number of earlier jobs with it
record IsReached (jobs : List Job) (address : List ℕ) (job : Job) (end round : ℕ) : Type 0 where
  place : ℕ
  before : place < end
  address_is : (slice_index_or jobs place job).address ≡ address
  round_is : sum_by (one_at address) (take place jobs) ≡ round

at_most_one : (b : Bool) → (if b then 1 else 0) ≤ 1
at_most_one true = omega arith
at_most_one false = omega arith

counted : (b : Bool) → 0 < (if b then 1 else 0) → b ≡ true
counted true some = refl
counted false some = absurd (omega arith)

-- each number below that of the jobs with an address is the round of one of them
reached : (jobs : List Job) (address : List ℕ) (job : Job) (end round : ℕ) → end ≤ length jobs
    → round < sum_by (one_at address) (take end jobs) → IsReached jobs address job end round
reached jobs address job zero round within below = absurd (omega arith)
reached jobs address job (suc end) round within below =
    let last = slice_index_or jobs end job in
    let more : sum_by (one_at address) (take (suc end) jobs)
    ≡ sum_by (one_at address) (take end jobs) + one_at address last =
    ap (λ (n : ℕ). sum_by (one_at address) (take n jobs)) (sym (add-one end))
    ∙ sum_by_more (one_at address) jobs end job (omega arith) in
    by_order _ (cases_lt round (sum_by (one_at address) (take end jobs)))
    (λ early. let there = reached jobs address job end round (omega arith) early in
    record {
      place = there.place;
      before = omega (arith, there.before);
      address_is = there.address_is;
      round_is = there.round_is;
    })
    (λ late.
    let one : one_at address last ≤ 1 = at_most_one (bytes_eq last.address address) in
    record {
      place = end;
      before = omega arith;
      address_is = (bytes_eq-Decides last.address address).0
          (counted (bytes_eq last.address address) (omega (arith, more, late, below)));
      round_is = omega (arith, more, late, below, one);
    })

-- each round below the new count has a job
used_more : (jobs : List Job) (rounds : List ℕ) (count more place round : ℕ) (job : Job)
    → RoundsSoFar jobs rounds count place → place < length jobs
    → round ≡ round_of jobs place (slice_index_or jobs place job).address
    → ((r : ℕ) → count ≤ r → r < more → r ≤ round)
    → HaveJobs (rounds ++ round ∷ []) more
used_more jobs rounds count more place round job far within is last r below =
    let address = (slice_index_or jobs place job).address in
    by_order _ (cases_lt r count)
    (λ early. Contains-append_left rounds (round ∷ []) r (far.used r early))
    (λ late. by_order _ (eq-or-lt_of_le (let most : r ≤ round = last r late below in most))
    (λ same. subst (λ (n : ℕ). Contains (rounds ++ round ∷ []) n) (sym same)
    (Contains-push rounds round))
    (λ less.
    let there = reached jobs address job place r (omega arith) (omega (arith, is, less)) in
    let inside : there.place < length rounds = omega (arith, far.len, there.before) in
    Contains-append_left rounds (round ∷ []) r (
      there.place,
      inside,
      get_or_default rounds there.place r 0 inside ∙ far.each there.place job there.before
          ∙ ap (λ (a : List ℕ). sum_by (one_at a) (take there.place jobs)) there.address_is
          ∙ there.round_is,
    )))

-- the greater of two numbers
record IsGreater (m n most : ℕ) : Type 0 where
  left : m ≤ most
  right : n ≤ most
  one : (most ≡ m) ⊎ (most ≡ n)

greater_by : (m n : ℕ) (o : Ordering) → MatchOrdering o (n < m) (n ≡ m) (m < n)
    → IsGreater m n (if is_lt o then m else n)
greater_by m n Less is = record { left = omega arith; right = omega arith; one = inl refl }
greater_by m n Equal is = record { left = omega arith; right = omega arith; one = inr refl }
greater_by m n Greater is = record { left = omega arith; right = omega arith; one = inr refl }

greater : (m n : ℕ) → IsGreater m n (ord_max nat_cmp m n)
greater m n = greater_by m n (nat_cmp n m) (ranked n m (nat_cmp n m) refl)

-- the rounds of one job more
pub rounds_more : (jobs : List Job) (rounds new : List ℕ) (count more place round : ℕ) (job : Job)
    → RoundsSoFar jobs rounds count place → place < length jobs
    → round ≡ round_of jobs place (slice_index_or jobs place job).address
    → more ≡ ord_max nat_cmp count (round + 1) → new ≡ rounds ++ round ∷ []
    → RoundsSoFar jobs new more (place + 1)
rounds_more jobs rounds new count more place round job far within is most pushed =
    let bounds : IsGreater count (round + 1) more =
    subst (λ (n : ℕ). IsGreater count (round + 1) n) (sym most) (greater count (round + 1)) in
    let last : slice_index_or (rounds ++ round ∷ []) place 0 ≡ round =
    get_or_push rounds round 0 place far.len in
    subst (λ (all : List ℕ). RoundsSoFar jobs all more (place + 1)) (sym pushed) (record {
      len = omega (arith, length-append rounds (round ∷ []), far.len);
      each = λ i other below. by_order _
          (eq-or-lt_of_le (let least : i ≤ place = omega arith in least))
          (λ same. subst (λ (n : ℕ). slice_index_or (rounds ++ round ∷ []) n 0
          ≡ round_of jobs n (slice_index_or jobs n other).address) (sym same)
          (last ∙ is ∙ ap (λ (j : Job). round_of jobs place j.address)
          (get_or_default jobs place job other within)))
          (λ early. get_or_append_left rounds (round ∷ []) 0 i (omega (arith, far.len))
          ∙ far.each i other early);
      below = λ i below. by_order _
          (eq-or-lt_of_le (let least : i ≤ place = omega arith in least))
          (λ same. subst (λ (n : ℕ). slice_index_or (rounds ++ round ∷ []) n 0 < more) (sym same)
          (omega (arith, last, bounds.right)))
          (λ early.
          omega (
            arith,
            get_or_append_left rounds (round ∷ []) 0 i (omega (arith, far.len)),
            far.below i early,
            bounds.left,
          ));
      used = used_more jobs rounds count more place round job far within is
          (λ r late less.
          by_order _ bounds.one (λ same. absurd (omega arith)) (λ same. omega arith));
    })

-- ---- one round more

-- a slot before and after a round
up_to_next : (turns workers : ℕ) (jobs : List Job) (passwords : List (List ℕ)) (rounds : List ℕ)
    (round slot : ℕ) (tells mid tells' : List ℕ → Option Forecast) (stage stage' : State)
    (row row' : Row)
    → IsRunUpTo turns workers jobs passwords rounds round slot tells mid stage row
    → IsRoundRun turns workers jobs passwords rounds round slot mid tells' stage stage' row row'
    → IsRunUpTo turns workers jobs passwords rounds (round + 1) slot tells tells' stage' row'
up_to_next turns workers jobs passwords rounds round slot tells mid tells' stage stage' row row' up
    step =
    let place = place_at turns workers slot in
    let kept : ¬ (IsTurn turns workers rounds round slot)
    → IsRun turns workers jobs passwords slot tells stage row
    → IsRun turns workers jobs passwords slot tells stage' row' =
    (λ other run. subst (λ (t : State). IsRun turns workers jobs passwords slot tells t row')
    (sym (step.others other).0)
    (subst (λ (r : Row). IsRun turns workers jobs passwords slot tells stage r)
    (sym (step.others other).1) run)) in
    record {
      ran = λ below earlier. by_order _
          (eq-or-lt_of_le
          (let least : slice_index_or rounds place 0 ≤ round = omega arith in least))
          (λ is. subst (λ (t : List ℕ → Option Forecast). IsRun turns workers jobs passwords slot t
          stage' row') up.tells_is (step.ran (below, is)))
          (λ less. kept (λ turn. absurd (omega (arith, turn.1))) (up.ran below less));
      waits = λ below later. (step.others (λ turn. absurd (omega (arith, turn.1)))).0
          ∙ up.waits below (omega arith);
      free = λ past. (step.others (λ turn. absurd (omega (arith, turn.0)))).0 ∙ up.free past;
      tells_is = step.tells_is ∙ up.tells_is;
    }

pub all_up_to_next : {X : Type 0} (tells_of : X → List ℕ → Option Forecast) (stage_of : X → State)
    (row_of : X → Row) (turns workers : ℕ) (jobs : List Job) (passwords : List (List ℕ))
    (rounds : List ℕ) (round : ℕ) (start now new : List X) → length now ≡ length start
    → EachChange (λ slot o n. IsRunUpTo turns workers jobs passwords rounds round slot (tells_of o)
    (tells_of n) (stage_of n) (row_of n)) start now
    → EachChange (λ slot o n. IsRoundRun turns workers jobs passwords rounds round slot (tells_of o)
    (tells_of n) (stage_of o) (stage_of n) (row_of o) (row_of n)) now new
    → EachChange (λ slot o n. IsRunUpTo turns workers jobs passwords rounds (round + 1) slot
    (tells_of o) (tells_of n) (stage_of n) (row_of n)) start new
all_up_to_next tells_of stage_of row_of turns workers jobs passwords rounds round start now new same
    up step = λ slot x below. up_to_next turns workers jobs passwords rounds round slot _ _ _ _ _ _
    _ (up slot x below) (step slot x (omega arith))

-- before the first round
pub up_to_first : {X : Type 0} (tells_of : X → List ℕ → Option Forecast) (stage_of : X → State)
    (row_of : X → Row) (turns workers : ℕ) (jobs : List Job) (passwords : List (List ℕ))
    (rounds : List ℕ) (start : List X) → All (λ x. stage_of x ≡ unused) start
    → EachChange (λ slot o n. IsRunUpTo turns workers jobs passwords rounds 0 slot (tells_of o)
    (tells_of n) (stage_of n) (row_of n)) start start
up_to_first {X} tells_of stage_of row_of turns workers jobs passwords rounds start all =
    λ slot x below. let is = All-get_or (λ (y : X). stage_of y ≡ unused) start slot x below all in
    record {
      ran = λ within earlier. absurd (omega arith);
      waits = λ within later. is;
      free = λ past. is;
      tells_is = refl;
    }

-- after the last round
pub up_to_last : {X : Type 0} (tells_of : X → List ℕ → Option Forecast) (stage_of : X → State)
    (row_of : X → Row) (turns workers : ℕ) (jobs : List Job) (passwords : List (List ℕ))
    (rounds : List ℕ) (count round : ℕ) (start new : List X) → AreRounds jobs rounds count
    → count ≤ round
    → EachChange (λ slot o n. IsRunUpTo turns workers jobs passwords rounds round slot (tells_of o)
    (tells_of n) (stage_of n) (row_of n)) start new
    → EachChange (λ slot o n. IsRun turns workers jobs passwords slot (tells_of o) (stage_of n)
    (row_of n)) start new
up_to_last tells_of stage_of row_of turns workers jobs passwords rounds count round start new are
    all up = λ slot x below.
    let here = up slot x below in
    let ran : place_at turns workers slot < length jobs
    → IsRun turns workers jobs passwords slot (tells_of (slice_index_or start slot x))
    (stage_of (slice_index_or new slot x)) (row_of (slice_index_or new slot x)) =
    (λ within. here.ran (omega (arith, are.len))
    (omega (arith, are.below (place_at turns workers slot) within, all))) in
    record {
      row_is = λ job within. (ran within).row_is job within;
      tried = λ job password within. (ran within).tried job password within;
      others = λ past. here.free (omega (arith, are.len));
    }

-- the attempts of a round's jobs before it
pub waiting : {X : Type 0} (tells_of : X → List ℕ → Option Forecast) (stage_of : X → State)
    (row_of : X → Row) (turns workers : ℕ) (jobs : List Job) (passwords : List (List ℕ))
    (rounds : List ℕ) (round : ℕ) (start now : List X) → length now ≡ length start
    → EachChange (λ slot o n. IsRunUpTo turns workers jobs passwords rounds round slot (tells_of o)
    (tells_of n) (stage_of n) (row_of n)) start now
    → AreWaiting turns workers rounds round stage_of now
waiting tells_of stage_of row_of turns workers jobs passwords rounds round start now same up =
    λ slot x below turn. (up slot x (omega arith)).waits turn.0 (omega (arith, turn.1))

-- the effect of a round on a slot, moved along equal values
pub round_moved : {X : Type 0} (old here new there : X) (tells_of : X → List ℕ
    → Option Forecast) (stage_of : X → State) (row_of : X → Row)
    (turns workers : ℕ) (jobs : List Job) (passwords : List (List ℕ)) (rounds : List ℕ)
    (round slot : ℕ) → here ≡ old → there ≡ new
    → IsRoundRun turns workers jobs passwords rounds round slot (tells_of here) (tells_of there)
    (stage_of here) (stage_of there) (row_of here) (row_of there)
    → IsRoundRun turns workers jobs passwords rounds round slot (tells_of old) (tells_of new)
    (stage_of old) (stage_of new) (row_of old) (row_of new)
round_moved {X} old here new there tells_of stage_of row_of turns workers jobs passwords rounds
    round slot before after run =
    subst (λ (n : X). IsRoundRun turns workers jobs passwords rounds round slot (tells_of old)
    (tells_of n) (stage_of old) (stage_of n) (row_of old) (row_of n)) after
    (subst (λ (o : X). IsRoundRun turns workers jobs passwords rounds round slot (tells_of o)
    (tells_of there) (stage_of o) (stage_of there) (row_of o) (row_of there)) before run)
