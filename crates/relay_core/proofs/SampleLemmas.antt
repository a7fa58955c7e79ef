use Rattle.std.proofs.Common.{true, false, ◌≡◌, ℕ, zero, suc, Bool, IsTrue, ◌+◌, ◌-◌, ◌<◌, ◌≤◌, nat_lt, if◌then◌else◌, List, [], ◌∷◌, ◌++◌, Option, length, take, drop, get_or, arith, refl, ap, sym, ◌∙◌, subst}
use Rattle.std.specs.List.{All}
use Rattle.std.proofs.Math.Seq.{take-add, drop-cons}
use Rattle.std.proofs.lemmas.List.{length-drop, get_or-drop}
use Rattle.std.specs.List.{prefix_len}
use Rattle.std.proofs.lemmas.List.Elements.{All-head, All-tail}
use Rattle.cosem_names.specs.declared.objects.Which.TheVariants.{Import, Export}
use Rattle.limiter_core.specs.declared.kinds.Fire.{Fire}
use Rattle.limiter_core.specs.declared.kinds.Fire.TheVariants.{Quiet}
use Rattle.limiter_core.specs.declared.kinds.Kind.{Kind}
use Rattle.limiter_core.specs.declared.kinds.Kind.TheVariants.{Over, Under, Equal}
use Rattle.limiter_core.specs.Rows.{Row}
use Rattle.limiter_core.specs.Settings.{Limits, limits_at, kind_of}
use Rattle.limiter_core.specs.State.{State, limits_of, AreOfKind, IsQuiet, CountsRows, rows_after}
use Rattle.relay_core.specs.declared.relay.RelayCore.{RelayCore}
use Rattle.relay_core.specs.declared.sampling.FiringCounts.{FiringCounts}
use Rattle.relay_core.specs.Limiters.{limiter_state_of, with_limiter_state}
use Rattle.relay_core.specs.Sampling.{Measurement, SamplingState, imports, pairs, with_sample, fire_at, after_fire, after_sample, with_firing, sampling_after, after_samples}
use Rattle.relay_core.specs.Stands.{StandsFor, LimiterStateStands}
use Rattle.relay_core.specs.Taking.{Takes, AreAtMost, sampling_in}
use Rattle.relay_core.specs.World.{World, LimiterState, IsDeviceName}

-- the next element of a list after the first i
pub take_one : {A : Type 0} (xs : List A) (i : ℕ) (d : A) → i < length xs → take 1 (drop i xs)
    ≡ get_or xs i d ∷ []
take_one [] i d below = absurd (omega (arith, below))
take_one (x ∷ xs) zero d below = refl
take_one (x ∷ xs) (suc i) d below = take_one xs i d (omega (arith, below))

-- the first n of the first m elements are the first n
pub take_fewer : {A : Type 0} (n m : ℕ) (xs : List A) → n ≤ m → take n (take m xs) ≡ take n xs
take_fewer zero m xs fewer = refl
take_fewer (suc n) zero xs fewer = absurd (omega (arith, fewer))
take_fewer (suc n) (suc m) [] fewer = refl
take_fewer (suc n) (suc m) (x ∷ xs) fewer = ap (λ rest. x ∷ rest)
    (take_fewer n m xs (omega (arith, fewer)))

-- values over the threshold are of the kind Over
pub over_are_of_kind : (threshold : ℕ) (xs : List ℕ) → All (λ v. IsTrue (nat_lt threshold v)) xs
    → AreOfKind Over threshold xs
over_are_of_kind threshold [] all = tt
over_are_of_kind threshold (x ∷ xs) all =
    let P : ℕ → Type 0 = λ v. IsTrue (nat_lt threshold v) in
    let kind : Bool → Kind = λ b. if b then Over else if nat_lt x threshold then Under else Equal in
    (ap kind (All-head P x xs all), over_are_of_kind threshold xs (All-tail P x xs all))

pub under_are_of_kind : (threshold : ℕ) (xs : List ℕ) → All (λ v. IsTrue (nat_lt v threshold)) xs
    → AreOfKind Under threshold xs
under_are_of_kind threshold [] all = tt
under_are_of_kind threshold (x ∷ xs) all =
    let P : ℕ → Type 0 = λ v. IsTrue (nat_lt v threshold) in
    let below = All-head P x xs all in
    let here : kind_of threshold x ≡ Under = grind (arith, below) in
    (here, under_are_of_kind threshold xs (All-tail P x xs all))

-- values that equal the threshold are of the kind Equal
equal_list : (threshold : ℕ) (xs : List ℕ) (n : ℕ) → n ≤ length xs
    → ((k : ℕ) → k < n → get_or xs k 0 ≡ threshold) → AreOfKind Equal threshold (take n xs)
equal_list threshold xs zero within are = tt
equal_list threshold [] (suc n) within are = absurd (omega (arith, within))
equal_list threshold (x ∷ xs) (suc n) within are =
    let here : x ≡ threshold = are 0 (omega arith) in
    let kind : kind_of threshold x ≡ Equal = grind (arith, here) in (
      kind,
      equal_list threshold xs n (omega (arith, within))
          (λ k below. are (suc k) (omega (arith, below))),
    )

pub equal_are_of_kind : (threshold : ℕ) (values : List ℕ) (at n : ℕ) → at + n ≤ length values
    → ((k : ℕ) → k < n → get_or values (at + k) 0 ≡ threshold)
    → AreOfKind Equal threshold (take n (drop at values))
equal_are_of_kind threshold values at n within are =
    equal_list threshold (drop at values) n (omega (arith, within, length-drop at values))
    (λ k below. get_or-drop at values k 0 ∙ are k below)

-- if no element passes, the first does not
none_passes : (test : ℕ → Bool) (x : ℕ) (xs : List ℕ) → prefix_len test (x ∷ xs) ≤ 0
    → test x ≡ false
none_passes test x xs none =
    let cases : (b : Bool) → (if b then 1 + prefix_len test xs else 0) ≤ 0 → b ≡ false =
    λ b. elim b as (λ b. (if b then 1 + prefix_len test xs else 0) ≤ 0 → b
    ≡ false) [ true ↦ λ some. absurd (omega (arith, some)) | false ↦ λ _. refl ] in
    cases (test x) none

-- a value that is neither over nor under the threshold equals it
pub neither_is_equal : (values : List ℕ) (at threshold : ℕ) → at < length values
    → prefix_len (λ v. nat_lt threshold v) (drop at values) ≤ 0
    → prefix_len (λ v. nat_lt v threshold) (drop at values) ≤ 0
    → get_or values at 0 ≡ threshold
neither_is_equal values at threshold below over under =
    let x = get_or values at 0 in
    let front : drop at values ≡ x ∷ drop (suc at) values = drop-cons values at 0 below in
    let P : List ℕ → Type 0 = λ xs. prefix_len (λ v. nat_lt threshold v) xs ≤ 0 in
    let Q : List ℕ → Type 0 = λ xs. prefix_len (λ v. nat_lt v threshold) xs ≤ 0 in
    let not_over : nat_lt threshold x ≡ false =
    none_passes (λ v. nat_lt threshold v) x (drop (suc at) values) (subst P front over) in
    let not_under : nat_lt x threshold ≡ false =
    none_passes (λ v. nat_lt v threshold) x (drop (suc at) values) (subst Q front under) in
    grind (arith, not_over, not_under)

-- each element of a list of one kind is of that kind
pub kind_at : (kind : Kind) (threshold : ℕ) (xs : List ℕ) (i d : ℕ) → i < length xs
    → AreOfKind kind threshold xs
    → kind_of threshold (get_or xs i d) ≡ kind
kind_at kind threshold [] i d below are = absurd (omega (arith, below))
kind_at kind threshold (x ∷ xs) zero d below are = are.0
kind_at kind threshold (x ∷ xs) (suc i) d below are =
    kind_at kind threshold xs i d (omega (arith, below)) are.1

-- a limiter after more samples, all at one moment
abbrev pub limiter_state_after : Option ℕ → List ℕ → LimiterState → LimiterState
limiter_state_after now [] m = m
limiter_state_after now (value ∷ values) m = limiter_state_after now values (with_sample now value
    m)

limiter_state_after-settings : (now : Option ℕ) (values : List ℕ) (m : LimiterState)
    → (limiter_state_after now values m).settings ≡ m.settings
limiter_state_after-settings now [] m = refl
limiter_state_after-settings now (value ∷ values) m =
    limiter_state_after-settings now values (with_sample now value m)

limiter_state_after-rows : (now : Option ℕ) (values : List ℕ) (m : LimiterState)
    → (limiter_state_after now values m).rows ≡ rows_after (limits_at m.settings now) values m.rows
limiter_state_after-rows now [] m = refl
limiter_state_after-rows now (value ∷ values) m = limiter_state_after-rows now values (with_sample
    now value m)

limiter_state_after-last : (now : Option ℕ) (values : List ℕ) (i d : ℕ) (m : LimiterState) → i + 1
    ≡ length values → (limiter_state_after now values m).last ≡ get_or values i d
limiter_state_after-last now [] i d m is = absurd (omega (arith, is))
limiter_state_after-last now (x ∷ []) zero d m is = refl
limiter_state_after-last now (x ∷ []) (suc i) d m is = absurd (omega (arith, is))
limiter_state_after-last now (x ∷ y ∷ values) zero d m is = absurd (omega (arith, is))
limiter_state_after-last now (x ∷ y ∷ values) (suc i) d m is =
    limiter_state_after-last now (y ∷ values) i d (with_sample now x m) (omega (arith, is))

-- the last of one or more samples
pub last_of_some : (n last before now : ℕ) → 0 < n → now ≡ (if nat_lt 0 n then last else before)
    → now ≡ last
last_of_some n last before now some is = grind (arith, some, is)

-- a limiter has the limits of the one that it represents
same_limits : (limiter : State) (now : Option ℕ) (m : LimiterState)
    → LimiterStateStands limiter now m
    → limits_of limiter ≡ limits_at m.settings now
same_limits limiter now m stands = cc (stands.settings, stands.moment)

-- a limiter that took several samples at once represents one that took them one by one
pub limiter_state_stands : (old new : State) (now : Option ℕ) (m : LimiterState) (values : List ℕ)
    → LimiterStateStands old now m
    → new.settings ≡ old.settings → new.moment ≡ old.moment → 0 < length values → new.last
    ≡ get_or values (length values - 1) 0
    → CountsRows new (rows_after (limits_of old) values m.rows)
    → LimiterStateStands new now (limiter_state_after now values m)
limiter_state_stands old new now m values stands settings moment some last keeps = record {
  settings = settings ∙ stands.settings ∙ sym (limiter_state_after-settings now values m);
  moment = moment ∙ stands.moment;
  last = last ∙ sym (limiter_state_after-last now values (length values - 1) 0 m (omega (
    arith,
    some,
  )));
  rows =
      let P : Limits → Type 0 = λ limits. CountsRows new (rows_after limits values m.rows) in
      subst (CountsRows new) (sym (limiter_state_after-rows now values m))
      (subst P (same_limits old now m stands) keeps);
}

-- the effect of two lists of samples, in sequence
pub after_samples-append : (xs ys : List Measurement) (m : SamplingState)
    → after_samples (xs ++ ys) m
    ≡ after_samples ys (after_samples xs m)
unfolding after_samples
after_samples-append [] ys m = refl
after_samples-append (x ∷ xs) ys m = after_samples-append xs ys (sampling_after x m)

pub imports-append : (vs ws : List ℕ) → imports (vs ++ ws) ≡ imports vs ++ imports ws
imports-append [] ws = refl
imports-append (v ∷ vs) ws = ap (λ (xs : List Measurement). record { which = Import; value = v }
    ∷ xs) (imports-append vs ws)

pub pairs-append : (vs ws xs ys : List ℕ) → length vs ≡ length xs → pairs (vs ++ ws) (xs ++ ys)
    ≡ pairs vs xs ++ pairs ws ys
pairs-append [] ws [] ys even = refl
pairs-append [] ws (x ∷ xs) ys even = absurd (omega (arith, even))
pairs-append (v ∷ vs) ws [] ys even = absurd (omega (arith, even))
pairs-append (v ∷ vs) ws (x ∷ xs) ys even =
    ap (λ (ms : List Measurement). record { which = Import; value = v }
    ∷ record { which = Export; value = x } ∷ ms)
    (pairs-append vs ws xs ys (omega (arith, even)))

-- a core that took no samples
pub takes_none : (core : RelayCore) (firings : FiringCounts) → Takes core core firings firings []
unfolding after_samples
takes_none core firings = record { world = λ w stands. stands; firings = λ w stands. refl }

-- a core that took samples and then more
pub takes_on : (old now next : RelayCore) (f g h : FiringCounts) (xs ys : List Measurement)
    → Takes old now f g xs → Takes now next g h ys
    → Takes old next f h (xs ++ ys)
takes_on old now next f g h xs ys first later =
    let both : (w : World) → StandsFor old w → after_samples (xs ++ ys) (sampling_in w f)
    ≡ after_samples ys (sampling_in (after_samples xs (sampling_in w f)).world g) =
    λ w stands. after_samples-append xs ys (sampling_in w f)
    ∙ ap (λ (i : FiringCounts). after_samples ys
    (sampling_in (after_samples xs (sampling_in w f)).world i)) (sym (first.firings w stands))
    in
    record {
      world = λ w stands. subst (λ (m : SamplingState). StandsFor next m.world) (sym (both w
          stands))
          (later.world (after_samples xs (sampling_in w f)).world (first.world w stands));
      firings = λ w stands. later.firings (after_samples xs (sampling_in w f)).world
          (first.world w stands) ∙ ap (λ (m : SamplingState). m.firings) (sym (both w stands));
    }

-- the samples of further values, and of further pairs
pub takes_values_on : (old now next : RelayCore) (f g h : FiringCounts) (values : List ℕ) (at n : ℕ)
    → Takes old now f g (imports (take at values))
    → Takes now next g h (imports (take n (drop at values)))
    → Takes old next f h (imports (take (at + n) values))
takes_values_on old now next f g h values at n first later =
    subst (Takes old next f h) (sym (ap imports (take-add at n values)
    ∙ imports-append (take at values) (take n (drop at values))))
    (takes_on old now next f g h (imports (take at values)) (imports (take n (drop at values)))
    first later)

pub even_take : (n : ℕ) (vs xs : List ℕ) → length vs ≡ length xs → length (take n vs)
    ≡ length (take n xs)
even_take zero vs xs even = refl
even_take (suc n) [] [] even = refl
even_take (suc n) [] (x ∷ xs) even = absurd (omega (arith, even))
even_take (suc n) (v ∷ vs) [] even = absurd (omega (arith, even))
even_take (suc n) (v ∷ vs) (x ∷ xs) even = ap suc (even_take n vs xs (omega (arith, even)))

pub takes_pairs_on : (old now next : RelayCore) (f g h : FiringCounts) (values others : List ℕ)
    (at n : ℕ) → length others ≡ length values
    → Takes old now f g (pairs (take at values) (take at others))
    → Takes now next g h (pairs (take n (drop at values)) (take n (drop at others)))
    → Takes old next f h (pairs (take (at + n) values) (take (at + n) others))
takes_pairs_on old now next f g h values others at n even first later =
    let cut : pairs (take (at + n) values) (take (at + n) others)
    ≡ pairs (take at values) (take at others)
    ++ pairs (take n (drop at values)) (take n (drop at others)) =
    ap (λ (vs : List ℕ). pairs vs (take (at + n) others)) (take-add at n values)
    ∙ ap (pairs (take at values ++ take n (drop at values))) (take-add at n others)
    ∙ pairs-append (take at values) (take n (drop at values)) (take at others)
    (take n (drop at others)) (even_take at values others (sym even)) in
    subst (Takes old next f h) (sym cut)
    (takes_on old now next f g h (pairs (take at values) (take at others))
    (pairs (take n (drop at values)) (take n (drop at others))) first later)

-- a core that took one sample
pub takes_one : (old next : RelayCore) (f g : FiringCounts) (x : Measurement) (fire : Fire)
    → ((w : World) → StandsFor old w → StandsFor next (after_sample x w))
    → ((w : World) → StandsFor old w → fire ≡ fire_at x w)
    → g ≡ with_firing x.which fire f → Takes old next f g (x ∷ [])
unfolding after_samples sampling_after
takes_one old next f g x fire goes fires is = record {
  world = goes;
  firings = λ w stands. is ∙ ap (λ (one : Fire). with_firing x.which one f) (fires w stands);
}

-- a bound on the firings also holds with a larger bound
pub at_most_more : (n m : ℕ) (firings : FiringCounts) → n ≤ m → AreAtMost n firings
    → AreAtMost m firings
at_most_more n m firings more most = record {
  import_over = omega (arith, more, most.import_over);
  import_under = omega (arith, more, most.import_under);
  export_over = omega (arith, more, most.export_over);
  export_under = omega (arith, more, most.export_under);
}

-- a sample that fires nothing
pub measured-quiet : (x : Measurement) (w : World) (firings : FiringCounts) → fire_at x w ≡ Quiet
    → sampling_after x (sampling_in w firings)
    ≡ sampling_in (with_limiter_state x.which (with_sample w.moment x.value (limiter_state_of
    x.which w)) w)
    firings
unfolding sampling_after after_sample after_fire with_firing
measured-quiet x w firings quiet =
    let go : Fire → SamplingState = λ fire. record {
      world = after_fire fire (limiter_state_of x.which w).settings.actions
          (with_limiter_state x.which (with_sample w.moment x.value (limiter_state_of x.which w))
          w);
      firings = with_firing x.which fire firings;
    } in
    ap go quiet

-- import values that fire nothing
pub quiet_values : (values : List ℕ) (w : World) (firings : FiringCounts)
    → IsQuiet (limits_at w.import.settings w.moment) values w.import.rows
    → after_samples (imports values) (sampling_in w firings)
    ≡ sampling_in (record w { import = limiter_state_after w.moment values w.import }) firings
unfolding after_samples fire_at
quiet_values [] w firings quiet = refl
quiet_values (value ∷ values) w firings quiet =
    ap (after_samples (imports values)) (measured-quiet (record { which = Import; value = value }) w
    firings quiet.0)
    ∙ quiet_values values (record w { import = with_sample w.moment value w.import })
    firings quiet.1

-- pairs that fire nothing
pub quiet_pairs : (values others : List ℕ) (w : World) (firings : FiringCounts) → length values
    ≡ length others
    → IsQuiet (limits_at w.import.settings w.moment) values w.import.rows
    → IsQuiet (limits_at w.export.settings w.moment) others w.export.rows
    → after_samples (pairs values others) (sampling_in w firings)
    ≡ sampling_in (record w {
      import = limiter_state_after w.moment values w.import;
      export = limiter_state_after w.moment others w.export;
    }) firings
unfolding after_samples fire_at
quiet_pairs [] [] w firings even quiet other_quiet = refl
quiet_pairs [] (other ∷ others) w firings even quiet other_quiet = absurd (omega (arith, even))
quiet_pairs (value ∷ values) [] w firings even quiet other_quiet = absurd (omega (arith, even))
quiet_pairs (value ∷ values) (other ∷ others) w firings even quiet other_quiet =
    let between : World = record w { import = with_sample w.moment value w.import } in
    ap (λ (m : SamplingState). after_samples (pairs values others)
    (sampling_after (record { which = Export; value = other }) m))
    (measured-quiet (record { which = Import; value = value }) w firings quiet.0)
    ∙ ap (after_samples (pairs values others))
    (measured-quiet (record { which = Export; value = other }) between firings other_quiet.0)
    ∙ quiet_pairs values others (record between { export = with_sample w.moment other w.export })
    firings (omega (arith, even)) quiet.1 other_quiet.1

-- a core that took import values that fire nothing
pub skipped_values : (old : RelayCore) (limiter : State) (values : List ℕ)
    (named : IsDeviceName old.device)
    (clock : old.export.moment ≡ limiter.moment) → 0 < length values
    → limiter.settings ≡ old.import.settings → limiter.moment ≡ old.import.moment → limiter.last
    ≡ get_or values (length values - 1) 0
    → ((rows : List Row) → CountsRows old.import rows
    → CountsRows limiter (rows_after (limits_of old.import) values rows))
    → ((rows : List Row) → CountsRows old.import rows → IsQuiet (limits_of old.import) values rows)
    → (firings : FiringCounts) → Takes old (record old {
      import = limiter;
      named = named;
      one_clock = clock;
    }) firings firings (imports values)
skipped_values old limiter values named clock some settings moment last keeps quiet firings =
    let new : RelayCore = record old { import = limiter; named = named; one_clock = clock } in
    let after : (w : World) → StandsFor old w
    → after_samples (imports values) (sampling_in w firings)
    ≡ sampling_in (record w { import = limiter_state_after w.moment values w.import }) firings =
    λ w stands.
    let P : Limits → Type 0 = λ limits. IsQuiet limits values w.import.rows in
    quiet_values values w firings (subst P (same_limits old.import w.moment w.import stands.import)
    (quiet w.import.rows stands.import.rows)) in
    record {
      world = λ w stands.
          let import = limiter_state_stands old.import limiter w.moment w.import values
          stands.import
          settings moment some last (keeps w.import.rows stands.import.rows) in
          let stands_after : StandsFor new (record w
          { import = limiter_state_after w.moment values w.import }) = record {
            device = stands.device;
            control = stands.control;
            import = import;
            export = stands.export;
            scripts = stands.scripts;
            schedules = stands.schedules;
          } in
          subst (λ (m : SamplingState). StandsFor new m.world) (sym (after w stands)) stands_after;
      firings = λ w stands. ap (λ (m : SamplingState). m.firings) (sym (after w stands));
    }

-- a core that took pairs that fire nothing
pub skipped_pairs : (old : RelayCore) (import export : State) (values others : List ℕ)
    (named : IsDeviceName old.device)
    (clock : export.moment ≡ import.moment) → 0 < length values → length others ≡ length values
    → import.settings ≡ old.import.settings → import.moment ≡ old.import.moment → import.last
    ≡ get_or values (length values - 1) 0
    → export.settings ≡ old.export.settings → export.moment ≡ old.export.moment → export.last
    ≡ get_or others (length others - 1) 0
    → ((rows : List Row) → CountsRows old.import rows
    → CountsRows import (rows_after (limits_of old.import) values rows))
    → ((rows : List Row) → CountsRows old.export rows
    → CountsRows export (rows_after (limits_of old.export) others rows))
    → ((rows : List Row) → CountsRows old.import rows → IsQuiet (limits_of old.import) values rows)
    → ((rows : List Row) → CountsRows old.export rows → IsQuiet (limits_of old.export) others rows)
    → (firings : FiringCounts) → Takes old (record old {
      import = import;
      export = export;
      named = named;
      one_clock = clock;
    }) firings firings (pairs values others)
skipped_pairs old import export values others named clock some even settings moment last
    other_settings other_moment other_last keeps other_keeps quiet other_quiet firings =
    let new : RelayCore = record old {
      import = import;
      export = export;
      named = named;
      one_clock = clock;
    } in
    let after : (w : World) → StandsFor old w
    → after_samples (pairs values others) (sampling_in w firings)
    ≡ sampling_in (record w {
      import = limiter_state_after w.moment values w.import;
      export = limiter_state_after w.moment others w.export;
    }) firings =
    λ w stands.
    let P : Limits → Type 0 = λ limits. IsQuiet limits values w.import.rows in
    let Q : Limits → Type 0 = λ limits. IsQuiet limits others w.export.rows in
    quiet_pairs values others w firings (sym even)
    (subst P (same_limits old.import w.moment w.import stands.import)
    (quiet w.import.rows stands.import.rows))
    (subst Q (same_limits old.export w.moment w.export stands.export)
    (other_quiet w.export.rows stands.export.rows)) in
    record {
      world = λ w stands.
          let stands_after : StandsFor new
          (record w {
            import = limiter_state_after w.moment values w.import;
            export = limiter_state_after w.moment others w.export;
          }) = record {
            device = stands.device;
            control = stands.control;
            import = limiter_state_stands old.import import w.moment w.import values stands.import
                settings moment some last (keeps w.import.rows stands.import.rows);
            export = limiter_state_stands old.export export w.moment w.export others stands.export
                other_settings other_moment (omega (arith, some, even)) other_last
                (other_keeps w.export.rows stands.export.rows);
            scripts = stands.scripts;
            schedules = stands.schedules;
          } in
          subst (λ (m : SamplingState). StandsFor new m.world) (sym (after w stands)) stands_after;
      firings = λ w stands. ap (λ (m : SamplingState). m.firings) (sym (after w stands));
    }
