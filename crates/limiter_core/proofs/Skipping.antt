-- The counters after many samples of one kind.
use Rattle.std.proofs.Common.{◌≡◌, ℕ, suc, ◌+◌, ◌-◌, ◌^◌, ◌<◌, ◌≤◌, min, Bool, true, false, not, ◌&&◌, ◌||◌, nat_lt, nat_le, if◌then◌else◌, ◌⊎◌, inl, inr, List, [], ◌∷◌, length, Option, refl, sym, ◌∙◌, ap, subst, arith}
use Rattle.std.proofs.lemmas.Bool.Decides.{nat_tests}
use Rattle.limiter_core.specs.declared.count.Count.{Count}
use Rattle.limiter_core.specs.declared.kinds.Fire.TheVariants.{Quiet}
use Rattle.limiter_core.specs.declared.kinds.Kind.{Kind}
use Rattle.limiter_core.specs.declared.kinds.Kind.TheVariants.{Over, Under, Equal}
use Rattle.limiter_core.specs.declared.settings.Settings.{Settings}
use Rattle.limiter_core.specs.Rows.{Row, Side, OverThreshold, UnderThreshold, is_past, need, fire_of, fire_past}
use Rattle.limiter_core.specs.Settings.{Limits, is_active, active_threshold, need_of, row_of, kind_of}
use Rattle.limiter_core.specs.Counting.{cap, count_of, no_run, count_after, fires_at, quiet_before, count_after_run}
use Rattle.limiter_core.specs.State.{State, limits_of, CountsRows, IsLimiter, IsFitCount, state_after_run, rows_after, IsQuiet, AreOfKind, fire_on, quiet_count}
use Rattle.limiter_core.proofs.Firing.{same_count, counted, fire_counted}

-- whether samples of the kind are past the threshold on that side
abbrev pub past : Kind → Side → Bool
past Over OverThreshold = true
past Over UnderThreshold = false
past Under OverThreshold = false
past Under UnderThreshold = true
past Equal _ = false

-- the need of a side
abbrev pub needed : Side → Limits → ℕ
needed OverThreshold limits = limits.need_over
needed UnderThreshold limits = limits.need_under

-- the needs are within the longest run that is counted
abbrev pub AreCounted : Kind → Limits → Type 0
AreCounted kind limits = (side : Side) → past kind side ≡ true → needed side limits ≤ cap

kind_bits : (kind : Kind) (a b : Bool) → (a ≡ true → b ≡ false)
    → (if a then Over else if b then Under else Equal) ≡ kind → (a ≡ past kind OverThreshold)
    × (b ≡ past kind UnderThreshold)
kind_bits Over true b apart e = (refl, apart refl)
kind_bits Over false true apart e = cc
kind_bits Over false false apart e = cc
kind_bits Under true b apart e = cc
kind_bits Under false true apart e = (refl, refl)
kind_bits Under false false apart e = cc
kind_bits Equal true b apart e = cc
kind_bits Equal false true apart e = cc
kind_bits Equal false false apart e = (refl, refl)

pub not_both : (t v : ℕ) → nat_lt t v ≡ true → nat_lt v t ≡ false
not_both t v h = grind (arith, nat_tests)

pub past_is : (kind : Kind) (side : Side) (limits : Limits) (value : ℕ)
    → kind_of limits.threshold value ≡ kind → is_past side (row_of limits value) ≡ past kind side
past_is kind OverThreshold limits value e =
    (kind_bits kind (nat_lt limits.threshold value) (nat_lt value limits.threshold)
    (not_both limits.threshold value) e).0
past_is kind UnderThreshold limits value e =
    (kind_bits kind (nat_lt limits.threshold value) (nat_lt value limits.threshold)
    (not_both limits.threshold value) e).1

-- n more samples past the threshold do not fire
abbrev pub Room : ℕ → ℕ → Count → Type 0
Room n need count = (count.fired ≡ true) ⊎ ((count.fired ≡ false) × (n ≤ need - 1 - count.run))

or_left : (a b : Bool) → a ≡ true → (a || b) ≡ a
or_left a b e = ap (λ v. v || b) e ∙ sym e

or_none : (a b : Bool) → a ≡ false → b ≡ false → (a || b) ≡ a
or_none a b e f = ap (λ v. v || b) e ∙ (f ∙ sym e)

late : (n need run : ℕ) → suc n ≤ need - 1 - run → nat_le need (min (run + 1) cap) ≡ false
late n need run h = grind (arith, nat_tests)

taken_quiet : (n need : ℕ) (count : Count) → Room (suc n) need count → count_after true need count
    ≡ count_after_run 1 count
taken_quiet n need count (inl e) =
    same_count (count_after true need count) (count_after_run 1 count) refl
    (or_left count.fired (nat_le need (min (count.run + 1) cap)) e)
taken_quiet n need count (inr h) =
    same_count (count_after true need count) (count_after_run 1 count) refl
    (or_none count.fired (nat_le need (min (count.run + 1) cap)) h.0
    (late n need count.run h.1))

and_none : (a b : Bool) → a ≡ false → (a && b) ≡ false
and_none a b e = ap (λ v. v && b) e

and_not : (a b : Bool) → b ≡ true → (a && not b) ≡ false
and_not true b e = ap not e
and_not false b e = refl

still : (n need : ℕ) (count : Count) → Room (suc n) need count → fires_at true need count ≡ false
still n need count (inl e) = and_not (nat_le need (min (count.run + 1) cap)) count.fired e
still n need count (inr h) = and_none (nat_le need (min (count.run + 1) cap)) (not count.fired)
    (late n need count.run h.1)

less_room : (n need run : ℕ) → suc n ≤ need - 1 - run → n ≤ need - 1 - min (run + 1) cap
less_room n need run h = omega arith

room_after : (n need : ℕ) (count : Count) → Room (suc n) need count
    → Room n need (count_after_run 1 count)
room_after n need count (inl e) = inl e
room_after n need count (inr h) = inr (h.0, less_room n need count.run h.1)

skipped_more : (n run : ℕ) → min (min (run + 1) cap + n) cap ≡ min (run + suc n) cap
skipped_more n run = omega arith

-- n more samples fire on neither side
abbrev pub HasRoom : Kind → Limits → ℕ → List Row → Type 0
HasRoom kind limits n rows = (side : Side) → past kind side ≡ true
    → Room n (needed side limits) (count_of side rows)

module _ (kind : Kind) (limits : Limits) (counted_needs : AreCounted kind limits) where
  need_counted : (side : Side) (value : ℕ) → kind_of limits.threshold value ≡ kind
      → is_past side (row_of limits value) ≡ true → need side (row_of limits value) ≤ cap
  need_counted OverThreshold value k e = counted_needs OverThreshold
      (sym (past_is kind OverThreshold limits value k) ∙ e)
  need_counted UnderThreshold value k e = counted_needs UnderThreshold
      (sym (past_is kind UnderThreshold limits value k) ∙ e)

  pub one_counted : (side : Side) (value : ℕ) (rows : List Row) → kind_of limits.threshold value
      ≡ kind → count_of side (row_of limits value ∷ rows)
      ≡ count_after (past kind side) (needed side limits) (count_of side rows)
  one_counted OverThreshold value rows k =
      counted OverThreshold (row_of limits value) rows (need_counted OverThreshold value k)
      ∙ ap (λ b. count_after b (needed OverThreshold limits) (count_of OverThreshold rows))
      (past_is kind OverThreshold limits value k)
  one_counted UnderThreshold value rows k =
      counted UnderThreshold (row_of limits value) rows (need_counted UnderThreshold value k)
      ∙ ap (λ b. count_after b (needed UnderThreshold limits) (count_of UnderThreshold rows))
      (past_is kind UnderThreshold limits value k)

  -- what one more sample fires
  pub one_fire : (value : ℕ) (rows : List Row) → kind_of limits.threshold value ≡ kind →
      fire_of (row_of limits value ∷ rows) ≡ (if fires_at (past kind OverThreshold)
      (needed OverThreshold limits) (count_of OverThreshold rows) then fire_past OverThreshold
      else if fires_at (past kind UnderThreshold) (needed UnderThreshold limits)
      (count_of UnderThreshold rows) then fire_past UnderThreshold else Quiet)
  one_fire value rows k =
      fire_counted (row_of limits value) rows (need_counted OverThreshold value k)
      (need_counted UnderThreshold value k)
      ∙ ap (λ b. if fires_at b (needed OverThreshold limits) (count_of OverThreshold rows)
      then fire_past OverThreshold
      else if fires_at (is_past UnderThreshold (row_of limits value)) (needed UnderThreshold limits)
      (count_of UnderThreshold rows) then fire_past UnderThreshold else Quiet)
      (past_is kind OverThreshold limits value k)
      ∙ ap (λ b. if fires_at (past kind OverThreshold) (needed OverThreshold limits)
      (count_of OverThreshold rows) then fire_past OverThreshold
      else if fires_at b (needed UnderThreshold limits) (count_of UnderThreshold rows)
      then fire_past UnderThreshold else Quiet) (past_is kind UnderThreshold limits value k)

  still_at : (b : Bool) (n : ℕ) (side : Side) (rows : List Row) → past kind side ≡ b
      → HasRoom kind limits (suc n) rows → fires_at b (needed side limits)
      (count_of side rows) ≡ false
  still_at true n side rows e room = still n (needed side limits) (count_of side rows) (room side e)
  still_at false n side rows e room = refl

  neither : (a b : Bool) → a ≡ false → b ≡ false
      → (if a then fire_past OverThreshold else if b then fire_past UnderThreshold
      else Quiet) ≡ Quiet
  neither a b e f = ap (λ v. if v then fire_past OverThreshold else if b then fire_past
      UnderThreshold else Quiet) e ∙ ap (λ v. if v then fire_past UnderThreshold else Quiet) f

  one_quiet : (n value : ℕ) (rows : List Row) → kind_of limits.threshold value ≡ kind
      → HasRoom kind limits (suc n) rows → fire_of (row_of limits value ∷ rows) ≡ Quiet
  one_quiet n value rows k room =
      one_fire value rows k
      ∙ neither (fires_at (past kind OverThreshold) (needed OverThreshold limits)
      (count_of OverThreshold rows)) (fires_at (past kind UnderThreshold)
      (needed UnderThreshold limits) (count_of UnderThreshold rows))
      (still_at (past kind OverThreshold) n OverThreshold rows refl room)
      (still_at (past kind UnderThreshold) n UnderThreshold rows refl room)

  one_skipped : (n : ℕ) (side : Side) (value : ℕ) (rows : List Row) → kind_of limits.threshold value
      ≡ kind → past kind side ≡ true → HasRoom kind limits (suc n) rows
      → count_of side (row_of limits value ∷ rows) ≡ count_after_run 1 (count_of side rows)
  one_skipped n side value rows k e room =
      one_counted side value rows k
      ∙ (ap (λ b. count_after b (needed side limits) (count_of side rows)) e
      ∙ taken_quiet n (needed side limits) (count_of side rows) (room side e))

  room_next : (n value : ℕ) (rows : List Row) → kind_of limits.threshold value ≡ kind
      → HasRoom kind limits (suc n) rows → HasRoom kind limits n (row_of limits value ∷ rows)
  room_next n value rows k room side e =
      let P : Count → Type 0 = λ c. Room n (needed side limits) c in
      subst P (sym (one_skipped n side value rows k e room))
      (room_after n (needed side limits) (count_of side rows) (room side e))

  -- samples that `HasRoom` allows do not fire
  pub are_quiet : (values : List ℕ) (rows : List Row) → AreOfKind kind limits.threshold values
      → HasRoom kind limits (length values) rows → IsQuiet limits values rows
  are_quiet [] rows k room = tt
  are_quiet (value ∷ values) rows k room = (
    one_quiet (length values) value rows k.0 room,
    are_quiet values (row_of limits value
        ∷ rows) k.1 (room_next (length values) value rows k.0 room),
  )

  none_skipped : (side : Side) (rows : List Row) → count_of side rows
      ≡ count_after_run 0 (count_of side rows)
  unfolding count_of
  none_skipped side rows = same_count (count_of side rows) (count_after_run 0 (count_of side rows))
      (omega arith) refl

  more_skipped : (n : ℕ) (count : Count) → count_after_run n (count_after_run 1 count)
      ≡ count_after_run (suc n) count
  more_skipped n count = same_count (count_after_run n (count_after_run 1 count))
      (count_after_run (suc n) count) (skipped_more n count.run) refl

  -- a run continues
  pub run_after : (values : List ℕ) (rows : List Row) (side : Side) → past kind side ≡ true
      → AreOfKind kind limits.threshold values → HasRoom kind limits (length values) rows →
      count_of side (rows_after limits values rows)
      ≡ count_after_run (length values) (count_of side rows)
  run_after [] rows side e k room = none_skipped side rows
  run_after (value ∷ values) rows side e k room =
      run_after values (row_of limits value ∷ rows) side e k.1
      (room_next (length values) value rows k.0 room)
      ∙ (ap (count_after_run (length values))
      (one_skipped (length values) side value rows k.0 e room)
      ∙ more_skipped (length values) (count_of side rows))

  ended : (values : List ℕ) (rows : List Row) (side : Side) → past kind side ≡ false
      → AreOfKind kind limits.threshold values → count_of side rows ≡ no_run
      → count_of side (rows_after limits values rows) ≡ no_run
  ended [] rows side e k none = none
  ended (value ∷ values) rows side e k none =
      ended values (row_of limits value ∷ rows) side e k.1 (one_counted side value rows k.0
      ∙ ap (λ b. count_after b (needed side limits) (count_of side rows)) e)

  -- a run of the other side ends at the first sample
  pub none_after : (values : List ℕ) (rows : List Row) (side : Side) → past kind side ≡ false
      → AreOfKind kind limits.threshold values → 0 < length values
      → count_of side (rows_after limits values rows) ≡ no_run
  none_after [] rows side e k some = absurd (omega arith)
  none_after (value ∷ values) rows side e k some =
      ended values (row_of limits value ∷ rows) side e k.1 (one_counted side value rows k.0
      ∙ ap (λ b. count_after b (needed side limits) (count_of side rows)) e)

are_counted : (kind : Kind) (state : State) → IsLimiter state → AreCounted kind (limits_of state)
are_counted kind state fit OverThreshold e = let small = fit.over_duration in omega (arith, small)
are_counted kind state fit UnderThreshold e = let small = fit.under_duration in omega (arith, small)

room_if : (b : Bool) (n need : ℕ) (count : Count) → count.fired ≡ b
    → n ≤ (if b then 2 ^ 64 - 1 else need - 1 - count.run) → Room n need count
room_if true n need count e few = inl e
room_if false n need count e few = inr (e, few)

room_before : (n need : ℕ) (count other : Count) → count ≡ other → n ≤ quiet_before need count
    → Room n need other
room_before n need count other same few =
    let P : Count → Type 0 = λ c. Room n need c in
    subst P same (room_if count.fired n need count refl few)

room_of : (kind : Kind) (state : State) (rows : List Row) (n : ℕ) → CountsRows state rows
    → n ≤ quiet_count kind state → HasRoom kind (limits_of state) n rows
room_of Over state rows n keeps few OverThreshold e = room_before n
    (need_of state.settings.min_over_threshold_duration) state.over (count_of OverThreshold rows)
    keeps.over few
room_of Over state rows n keeps few UnderThreshold e = cc
room_of Under state rows n keeps few OverThreshold e = cc
room_of Under state rows n keeps few UnderThreshold e = room_before n
    (need_of state.settings.min_under_threshold_duration) state.under (count_of UnderThreshold rows)
    keeps.under few
room_of Equal state rows n keeps few side e = cc

-- as many samples as `quiet_count` says do not fire
pub quiet_up_to : (kind : Kind) (state : State) (rows : List Row) (values : List ℕ)
    → IsLimiter state → CountsRows state rows → AreOfKind kind (limits_of state).threshold values →
    length values ≤ quiet_count kind state → IsQuiet (limits_of state) values rows
quiet_up_to kind state rows values fit keeps k few =
    are_quiet kind (limits_of state) (are_counted kind state fit) values rows k
    (room_of kind state rows (length values) keeps few)

fired_if : (b : Bool) (need : ℕ) (count : Count) → count.fired ≡ b → need ≤ cap
    → (if b then 2 ^ 64 - 1 else need - 1 - count.run) ≡ 2 ^ 64 - 1 → count.fired ≡ true
fired_if true need count e small all = e
fired_if false need count e small all = absurd (omega (arith, all))

room_always : (n need : ℕ) (count other : Count) → count ≡ other → need ≤ cap
    → quiet_before need count
    ≡ 2 ^ 64 - 1 → Room n need other
room_always n need count other same small all =
    let P : Count → Type 0 = λ c. Room n need c in
    subst P same (inl (fired_if count.fired need count refl small all))

room_for_all : (kind : Kind) (state : State) (rows : List Row) (n : ℕ) → IsLimiter state
    → CountsRows state rows → quiet_count kind state ≡ 2 ^ 64 - 1
    → HasRoom kind (limits_of state) n rows
room_for_all Over state rows n fit keeps all OverThreshold e =
    room_always n (need_of state.settings.min_over_threshold_duration) state.over
    (count_of OverThreshold rows) keeps.over (are_counted Over state fit OverThreshold e) all
room_for_all Over state rows n fit keeps all UnderThreshold e = cc
room_for_all Under state rows n fit keeps all OverThreshold e = cc
room_for_all Under state rows n fit keeps all UnderThreshold e =
    room_always n (need_of state.settings.min_under_threshold_duration) state.under
    (count_of UnderThreshold rows) keeps.under
    (are_counted Under state fit UnderThreshold e) all
room_for_all Equal state rows n fit keeps all side e = cc

-- if no sample would ever fire, any number of them does not
pub quiet_for_ever : (kind : Kind) (state : State) (rows : List Row) (values : List ℕ)
    → IsLimiter state → CountsRows state rows → AreOfKind kind (limits_of state).threshold values →
    quiet_count kind state ≡ 2 ^ 64 - 1 → IsQuiet (limits_of state) values rows
quiet_for_ever kind state rows values fit keeps k all =
    are_quiet kind (limits_of state) (are_counted kind state fit) values rows k
    (room_for_all kind state rows (length values) fit keeps all)

unfired_if : (b : Bool) (n need : ℕ) (count : Count) → count.fired ≡ b → n
    ≡ (if b then 2 ^ 64 - 1 else need - 1 - count.run) → n < 2 ^ 64 - 1 → (count.fired ≡ false)
    × (n ≡ need - 1 - count.run)
unfired_if true n need count e is few = absurd (omega (arith, is))
unfired_if false n need count e is few = (e, is)

at_last : (n need run : ℕ) → need ≤ cap → n ≡ need - 1 - run
    → nat_le need (min (min (run + n) cap + 1) cap) ≡ true
at_last n need run small is = grind (arith, nat_tests)

and_both : (a b : Bool) → a ≡ true → b ≡ false → (a && not b) ≡ true
and_both a b e f = ap (λ v. v && not b) e ∙ ap not f

-- the first sample after those that do not fire
fires_then : (n need : ℕ) (count other : Count) → count ≡ other → need ≤ cap → n
    ≡ quiet_before need count
    → n < 2 ^ 64 - 1 → fires_at true need (count_after_run n other) ≡ true
fires_then n need count other same small is few =
    let P : Count → Type 0 = λ c. fires_at true need (count_after_run n c) ≡ true in
    let found : (count.fired ≡ false) × (n ≡ need - 1 - count.run) =
    unfired_if count.fired n need count refl is few in
    subst P same (and_both (nat_le need (min (min (count.run + n) cap + 1) cap)) count.fired
    (at_last n need count.run small found.1) found.0)

-- one sample more than those that do not fire
pub fires_next : (kind : Kind) (state : State) (rows : List Row) (values : List ℕ) (value : ℕ)
    → IsLimiter state → CountsRows state rows → AreOfKind kind (limits_of state).threshold values →
    kind_of (limits_of state).threshold value ≡ kind → length values ≡ quiet_count kind state
    → length values < 2 ^ 64 - 1 →
    fire_of (row_of (limits_of state) value ∷ rows_after (limits_of state) values rows)
    ≡ fire_on kind
fires_next Over state rows values value fit keeps k last all few =
    let limits : Limits = limits_of state in
    let small : AreCounted Over limits = are_counted Over state fit in
    let room : HasRoom Over limits (length values) rows =
    room_of Over state rows (length values) keeps (omega (arith, all)) in
    let count : count_of OverThreshold (rows_after limits values rows)
    ≡ count_after_run (length values) (count_of OverThreshold rows) =
    run_after Over limits small values rows OverThreshold refl k room in
    let fires : fires_at true (needed OverThreshold limits)
    (count_of OverThreshold (rows_after limits values rows)) ≡ true =
    ap (fires_at true (needed OverThreshold limits)) count
    ∙ fires_then (length values) (needed OverThreshold limits) state.over
    (count_of OverThreshold rows) keeps.over (small OverThreshold refl) all few in
    one_fire Over limits small value (rows_after limits values rows) last
    ∙ ap (λ b. if b then fire_past OverThreshold else Quiet) fires
fires_next Under state rows values value fit keeps k last all few =
    let limits : Limits = limits_of state in
    let small : AreCounted Under limits = are_counted Under state fit in
    let room : HasRoom Under limits (length values) rows =
    room_of Under state rows (length values) keeps (omega (arith, all)) in
    let count : count_of UnderThreshold (rows_after limits values rows)
    ≡ count_after_run (length values) (count_of UnderThreshold rows) =
    run_after Under limits small values rows UnderThreshold refl k room in
    let fires : fires_at true (needed UnderThreshold limits)
    (count_of UnderThreshold (rows_after limits values rows)) ≡ true =
    ap (fires_at true (needed UnderThreshold limits)) count
    ∙ fires_then (length values) (needed UnderThreshold limits) state.under
    (count_of UnderThreshold rows) keeps.under (small UnderThreshold refl) all few in
    one_fire Under limits small value (rows_after limits values rows) last
    ∙ ap (λ b. if b then fire_past UnderThreshold else Quiet) fires
fires_next Equal state rows values value fit keeps k last all few = absurd (omega (arith, all))

over_after : (kind : Kind) (state : State) (rows : List Row) (values : List ℕ) (side : Side)
    → past kind side ≡ true → IsLimiter state → CountsRows state rows
    → AreOfKind kind (limits_of state).threshold values →
    length values ≤ quiet_count kind state → count_of side
    (rows_after (limits_of state) values rows)
    ≡ count_after_run (length values) (count_of side rows)
over_after kind state rows values side e fit keeps k few =
    run_after kind (limits_of state) (are_counted kind state fit) values rows side e k
    (room_of kind state rows (length values) keeps few)

other_after : (kind : Kind) (state : State) (rows : List Row) (values : List ℕ) (side : Side)
    → past kind side ≡ false → IsLimiter state → AreOfKind kind (limits_of state).threshold values →
    0 < length values → no_run ≡ count_of side (rows_after (limits_of state) values rows)
other_after kind state rows values side e fit k some =
    sym (none_after kind (limits_of state) (are_counted kind state fit) values rows side e k some)

jumped_keeps : (kind : Kind) (state : State) (rows : List Row) (values : List ℕ) (last : ℕ)
    → IsLimiter state → CountsRows state rows → AreOfKind kind (limits_of state).threshold values →
    0 < length values → length values ≤ quiet_count kind state
    → CountsRows (state_after_run kind (length values) last state)
    (rows_after (limits_of state) values rows)
jumped_keeps Over state rows values last fit keeps k some few = record {
  over = ap (count_after_run (length values)) keeps.over
      ∙ sym (over_after Over state rows values OverThreshold refl fit keeps k few);
  under = other_after Over state rows values UnderThreshold refl fit k some;
}
jumped_keeps Under state rows values last fit keeps k some few = record {
  over = other_after Under state rows values OverThreshold refl fit k some;
  under = ap (count_after_run (length values)) keeps.under
      ∙ sym (over_after Under state rows values UnderThreshold refl fit keeps k few);
}
jumped_keeps Equal state rows values last fit keeps k some few = record {
  over = other_after Equal state rows values OverThreshold refl fit k some;
  under = other_after Equal state rows values UnderThreshold refl fit k some;
}

-- the counts after a run that does not fire are those of its samples
pub keeps_after : (kind : Kind) (state new : State) (rows : List Row) (values : List ℕ) (n last : ℕ)
    → IsLimiter state → CountsRows state rows → AreOfKind kind (limits_of state).threshold values →
    length values ≡ n → 0 < n → n ≤ quiet_count kind state → new ≡ state_after_run kind n last state
    → CountsRows new (rows_after (limits_of state) values rows)
keeps_after kind state new rows values n last fit keeps k e some few is =
    let P : State → Type 0 = λ v. CountsRows v (rows_after (limits_of state) values rows) in
    subst P (ap (λ m. state_after_run kind m last state) e ∙ sym is)
    (jumped_keeps kind state rows values last fit keeps k (omega arith) (omega arith))

fits_if : (b : Bool) (n need : ℕ) (count : Count) → count.fired ≡ b → 0 < n → need ≤ cap
    → n ≤ (if b then 2 ^ 64 - 1 else need - 1 - count.run) → IsFitCount count
    → IsFitCount (count_after_run n count)
fits_if true n need count e some small few fit = record {
  within = omega arith;
  none = λ zero. absurd (omega (arith, zero));
  full = λ full. e;
}
fits_if false n need count e some small few fit = record {
  within = omega arith;
  none = λ zero. e;
  full = λ full. absurd (omega (arith, full, few));
}

-- a fit count stays fit after samples that do not fire
pub skip_fits : (n need : ℕ) (count : Count) → 0 < n → need ≤ cap → n ≤ quiet_before need count
    → IsFitCount count → IsFitCount (count_after_run n count)
skip_fits n need count some small few fit = fits_if count.fired n need count refl some small few fit

one_small : (b : Bool) (x y : ℕ) → x < 2 ^ 32 → y < 2 ^ 32 → (if b then x else y) < 2 ^ 32
one_small true x y a b = a
one_small false x y a b = b

threshold_small : (s : Settings) (moment : Option ℕ) → s.threshold_normal < 2 ^ 32
    → s.threshold_emergency < 2 ^ 32 → active_threshold s moment < 2 ^ 32
unfolding active_threshold
threshold_small s moment normal emergency = one_small (is_active s moment) s.threshold_emergency
    s.threshold_normal emergency normal

below_threshold : (t v : ℕ) → t < 2 ^ 32 → nat_lt v t ≡ true → v < 4294967295
below_threshold t v small e = grind (arith, nat_tests)

-- a limiter stays a limiter after samples under the threshold that do not fire
pub jumped_under : (state : State) (n last : ℕ) → 0 < n → n ≤ quiet_count Under state
    → kind_of (limits_of state).threshold last ≡ Under → IsLimiter state
    → IsLimiter (state_after_run Under n last state)
jumped_under state n last some few k fit =
    let limits : Limits = limits_of state in
    let small : limits.threshold < 2 ^ 32 = threshold_small state.settings state.moment
    fit.threshold_normal fit.threshold_emergency in
    record {
      counts = record {
        over_fits = record {
          within = omega arith;
          none = λ zero. refl;
          full = λ full. absurd (omega (arith, full));
        };
        under_fits = skip_fits n (needed UnderThreshold limits) state.under some
            (are_counted Under state fit UnderThreshold refl) few fit.counts.under_fits;
        one = λ over. absurd (omega (arith, over));
        above = λ over. absurd (omega (arith, over));
        below = λ under. below_threshold limits.threshold last small
            (past_is Under UnderThreshold limits last k);
      };
      threshold_normal = fit.threshold_normal;
      threshold_emergency = fit.threshold_emergency;
      over_duration = fit.over_duration;
      under_duration = fit.under_duration;
      groups = fit.groups;
    }

-- a limiter stays one, given its fields and its new counts separately
pub jump_under : (inside state : State) (over under : Count) (n last : ℕ) → inside ≡ state → over
    ≡ no_run → under ≡ count_after_run n inside.under → 0 < n → n ≤ quiet_count Under state →
    kind_of (limits_of state).threshold last ≡ Under → IsLimiter inside
    → IsLimiter (record {
      settings = inside.settings;
      moment = inside.moment;
      last = last;
      over = over;
      under = under;
    })
jump_under inside state over under n last is none skip some few k fit =
    let Few : State → Type 0 = λ v. n ≤ quiet_count Under v in
    let IsUnder : State → Type 0 = λ v. kind_of (limits_of v).threshold last ≡ Under in
    let make : Count → Count → State = λ a b. record {
      settings = inside.settings;
      moment = inside.moment;
      last = last;
      over = a;
      under = b;
    } in
    subst IsLimiter (ap (λ a. make a (count_after_run n inside.under)) (sym none)
    ∙ ap (make over) (sym skip))
    (jumped_under inside n last some (subst Few (sym is) few) (subst IsUnder (sym is) k) fit)
