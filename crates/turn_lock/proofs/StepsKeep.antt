-- Each step on the table preserves the invariant, and changes the seat's view as its play says.
use Rattle.std.proofs.Common.{◌≡◌, ◌≢◌, ◌⊎◌, ℕ, zero, suc, ◌+◌, ◌%◌, ◌^◌, ◌<◌, ◌≤◌, eqb, ◌==◌, Bool, true, false, if◌then◌else◌, List, [], ◌∷◌, ◌++◌, length, get_or, set, sym, refl, ap, ◌∙◌, subst, inl, inr, ⊎_elim, arith, le_refl, eq-eqb, ne_eqb, length-append, Some, None}
use mathlib.Core.Option.{none, some, some-injective, some-ne-none}
use lib.ListN.{get_elem?}
use lib.Seq.{set-get_or}
use prog.Atomic.{either}
use Rattle.std.proofs.lemmas.List.{append-nil}
use Rattle.std.proofs.Math.Nat.{mod-eq_of_lt}
use Rattle.atomic_table.specs.Table.{State, Me, step, Act, keeps, takes, gives, Valid, carried_after, homes_after, stepped, Allows, Splits, Joins, opening, Final, Seen}
use Rattle.atomic_table.proofs.Lists.{at_set, set_else, exchanged}
use Rattle.turn_lock.specs.declared.turned.Entry.{Entry}
use Rattle.turn_lock.specs.declared.known.JoinedPort.{JoinedPort}
use Rattle.turn_lock.specs.declared.known.Known.{Known}
use Rattle.turn_lock.specs.declared.known.View.{View}
use Rattle.turn_lock.specs.declared.known.Stage.{Stage}
use Rattle.turn_lock.specs.declared.known.Stage.TheVariants.{New, Young, Idle, Turn, SawServing, Met}
use Rattle.turn_lock.specs.declared.board.Slot.{Slot}
use Rattle.turn_lock.specs.History.{StartsWith, calls_by}
use Rattle.turn_lock.specs.Rule.{max_turns, LastCall, first_view, full_slot, IsOwn, IsUnused, IsTaken, Moment, HoldsSlot, HasMet, OwnsNumber, IsHome, FitsStage, IsPort, Fits, Facts, IsLockState}
use Rattle.turn_lock.specs.Calls.{Watches}
use Rattle.turn_lock.specs.Seats.{CarriedSlots, new_entries, with_stage, spent_view, parent_view, child_view, note_view, view_with_served, view_after_turn, view_with, joined_with, seat_with, seat_state}
use Rattle.turn_lock.specs.Plays.{play, Settles, Draws, SeesServing, MovesTo, Looks, AddsCall, Ends, KnowsBoth, Merges, TakesValue, Closes}
use Rattle.turn_lock.proofs.Lists.{starts_refl, starts_more, starts_length, calls_by-own, calls_by-other, calls_none, has_front, has_front-append, future-not-self, future_sooner, front_is_future, future-not-front, apart-not-front, among-append, below-append}

-- the function f, with the value v at k
abbrev put : (ℕ → ℕ) → ℕ → ℕ → ℕ → ℕ
put f k v j = if j == k then v else f j

put_here : (f : ℕ → ℕ) (k v : ℕ) → put f k v k ≡ v
put_here f k v = ap (λ (b : Bool). if b then v else f k) (eq-eqb k k refl)

put_else : (f : ℕ → ℕ) (k v j : ℕ) → j ≢ k → put f k v j ≡ f j
put_else f k v j n = ap (λ (b : Bool). if b then v else f j) (ne_eqb j k n)

-- the numbers of seat `other` now belong to seat i
abbrev passed_on : (List ℕ → ℕ) → ℕ → ℕ → List ℕ → ℕ
passed_on h other i q = if h q == other then i else h q

passed_here : (h : List ℕ → ℕ) (other i : ℕ) (q : List ℕ) → h q ≡ other → passed_on h other i q ≡ i
passed_here h other i q e = ap (λ (b : Bool). if b then i else h q) (eq-eqb (h q) other e)

passed_else : (h : List ℕ → ℕ) (other i j : ℕ) (q : List ℕ) → j ≢ other → h q ≡ j
    → passed_on h other i q ≡ j
passed_else h other i j q n e = ap (λ (b : Bool). if b then i else h q)
    (ne_eqb (h q) other (λ x. n (sym e ∙ x))) ∙ e

-- the numbers that begin with c now belong to seat i
abbrev forked : (List ℕ → ℕ) → List ℕ → ℕ → List ℕ → ℕ
forked h c i q = if has_front c q then i else h q

forked_here : (h : List ℕ → ℕ) (c : List ℕ) (i : ℕ) (q : List ℕ) → has_front c q ≡ true
    → forked h c i q ≡ i
forked_here h c i q e = ap (λ (b : Bool). if b then i else h q) e

forked_else : (h : List ℕ → ℕ) (c : List ℕ) (i : ℕ) (q : List ℕ) → has_front c q ≡ false
    → forked h c i q ≡ h q
forked_else h c i q e = ap (λ (b : Bool). if b then i else h q) e

-- an element of a list with one more is the last or is in the list before
at_end : {A : Type 0} (l : List A) (a b : A) (j : ℕ) → get_elem? (l ++ a ∷ []) j ≡ some b
    → (get_elem? l j ≡ some b) ⊎ ((j ≡ length l) × (a ≡ b))
at_end [] a b zero e = inr (refl, some-injective a b e)
at_end [] a b (suc j) e = absurd (some-ne-none b (sym e))
at_end (x ∷ xs) a b zero e = inl e
at_end (x ∷ xs) a b (suc j) e = ⊎_elim inl (λ t. inr (omega (arith, t.0), t.1)) (at_end xs a b j e)

module _ {E R : Type 0} where
  entries-own : (p : List ℕ) (xs : List (Entry E R)) (l : LastCall E R)
      → calls_by p (xs ++ new_entries p l) ≡ calls_by p xs ++ new_entries p l
  entries-own p xs None = ap (calls_by p) (append-nil xs) ∙ sym (append-nil (calls_by p xs))
  entries-own p xs (Some (e, r)) = calls_by-own p xs e.value r.value

  entries-other : (q p : List ℕ) (xs : List (Entry E R)) (l : LastCall E R) → q ≢ p
      → calls_by q (xs ++ new_entries p l) ≡ calls_by q xs
  entries-other q p xs None n = ap (calls_by q) (append-nil xs)
  entries-other q p xs (Some (e, r)) n = calls_by-other q p xs e.value r.value n

  -- a turn adds at most one call
  entries_few : (p : List ℕ) (xs : List (Entry E R)) (l : LastCall E R)
      → length (xs ++ new_entries p l) ≤ length xs + 1
  entries_few p xs None = omega (arith, length-append xs (new_entries p None))
  entries_few p xs (Some l) = omega (arith, length-append xs (new_entries p (Some l)))

module _ {E R O : Type 0} where
  -- what a Met stage knows about the seat that was taken in, or d for any other stage
  abbrev met_of : Bool × Known E R O → Stage E R O → Bool × Known E R O
  met_of d (Met b u) = (b, u)
  met_of d _ = d

  -- the turn that a stage holds, or d if it holds none
  abbrev held_of : ℕ → Stage E R O → ℕ
  held_of d (Turn n) = n
  held_of d _ = d

module _ {T E R O : Type 0} (origin : T → O) (stands : T → List (Entry E R) → Type 0) (legal : O
    → List (Entry E R) → Type 0) (first : T) where
  abbrev V : Type 0
  V = View E R O

  abbrev Sl : Type 0
  Sl = Slot T E R

  abbrev St : Type 0
  St = State Sl V

  abbrev Mo : Type 0
  Mo = Moment T E R O

  abbrev Rule : St → Type 0
  Rule = IsLockState origin stands legal first

  abbrev F : Mo → List V → Type 0
  F = Facts origin stands legal first

  abbrev Fit : Mo → ℕ → V → Type 0
  Fit = Fits first

  abbrev Stand : Mo → ℕ → Known E R O → Stage E R O → Type 0
  Stand = FitsStage first

  -- the table's state at a moment
  abbrev canon : Mo → List V → St
  canon m vs = record { words = m.ticket ∷ m.serving ∷ []; homes = m.home ∷ []; views = vs }

  kept : (m : Mo) (vs : List V) → F m vs → Rule (canon m vs)
  kept m vs f = record { now = m; words_are = refl; homes_are = refl; facts = f }

  -- a claim about every table that satisfies the invariant need only be shown for each moment
  by_moment : (P : St → Type 0) → ((m : Mo) (vs : List V) → F m vs → P (canon m vs)) → (s : St)
      → Rule s → P s
  by_moment P h s r =
      let same : canon r.now s.views ≡ s = λ k. record {
        words = sym r.words_are k;
        homes = sym r.homes_are k;
        views = s.views;
      } in
      subst P same (h r.now s.views r.facts)

  -- what holds for each seat once seat i has the view w
  seats : (K : ℕ → V → Type 0) (vs : List V) (i : ℕ) (w : V) → K i w
      → ((j : ℕ) (d : V) → j ≢ i → get_elem? vs j ≡ some d → K j d) → (j : ℕ) (d : V)
      → get_elem? (set vs i w) j ≡ some d → K j d
  seats K vs i w mine others j d e = ⊎_elim (λ (t : (j ≡ i) × (w ≡ d)). subst
      (λ (x : ℕ × V). K x.0 x.1) (λ k. (sym t.0 k, t.1 k)) mine)
      (λ (t : (j ≢ i) × (get_elem? vs j ≡ some d)). others j d t.0 t.1) (at_set vs i j w d e)

  -- a step of seat i that leads from one moment to another
  moves : (m m' : Mo) (vs : List V) (i : ℕ) (w : V) → F m vs → m'.serving ≤ m'.ticket
      → m'.ticket ≤ max_turns + m'.closed → m'.closed ≤ 1 → legal m'.start m'.history
      → length m'.history ≤ m'.serving
      → IsHome origin stands m' ⊎ (m'.serving < m'.ticket) → Fit m' i w
      → ((j : ℕ) (d : V) → j ≢ i → Fit m j d → Fit m' j d) → F m' (set vs i w)
  moves m m' vs i w f range few once lawful counted held mine others = record {
    range = range;
    within_most = few;
    closed_once = once;
    lawful = lawful;
    counted = counted;
    home_or_held = held;
    fits = seats (Fit m') vs i w mine (λ j d n at. others j d n (f.fits j d at));
  }

  -- a step that changes only the view of seat i
  stays : (m : Mo) (vs : List V) (i : ℕ) (w : V) → F m vs → Fit m i w → F m (set vs i w)
  stays m vs i w f mine = moves m m vs i w f f.range f.within_most f.closed_once f.lawful f.counted
      f.home_or_held mine (λ _ _ _ x. x)

  -- the value stays at home where neither the slot nor the history changes
  home_stays : (m m' : Mo) → m'.home ≡ m.home → m'.history ≡ m.history → m'.start ≡ m.start
      → m'.closed ≡ m.closed → IsHome origin stands m → IsHome origin stands m'
  home_stays m m' home history start closed h = record {
    value = h.value;
    last = h.last;
    home_is = home ∙ h.home_is;
    results = subst (stands h.value) (sym history) h.results;
    origin_is = h.origin_is ∙ sym start;
    not_closed = closed ∙ h.not_closed;
  }

  -- the moment with other holders of the port numbers
  abbrev with_holder : Mo → (List ℕ → ℕ) → Bool → Mo
  with_holder m holder lone = record m { holder = holder; lone = lone }

  -- a turn does not depend on who holds the port numbers
  holds_still : (m : Mo) (holder : List ℕ → ℕ) (lone : Bool) (i n : ℕ) (k : Known E R O)
      → HoldsSlot m i n k → HoldsSlot (with_holder m holder lone) i n k
  holds_still m holder lone i n k h =
      let t = h.holds in
      record {
        holds = record { not_ended = t.not_ended; drawn = t.drawn; owner_is = t.owner_is };
        served = h.served;
        seen = h.seen;
        not_closed = h.not_closed;
      }

  fit_at_stage : (m : Mo) (i : ℕ) (v : V) (stage : Stage E R O) → Fit m i v
      → Stand m i v.known stage → Fit m i (with_stage v stage)
  fit_at_stage m i v stage f st = record {
    origin_is = f.origin_is;
    seen = f.seen;
    drawn = f.drawn;
    served = f.served;
    first_if_lone = f.first_if_lone;
    stage = st;
    port = f.port;
  }

  -- a port's knowledge after it has seen the longest history
  abbrev informed : Mo → Known E R O → Known E R O
  informed m k = record k { seen = m.history; drawn = m.ticket }

  abbrev informed_view : Mo → V → Stage E R O → V
  informed_view m v stage = record {
    known = informed m v.known;
    is_port = v.is_port;
    stage = stage;
  }

  informs : (m : Mo) (i : ℕ) (v : V) (stage : Stage E R O) → Fit m i v
      → Stand m i (informed m v.known) stage → Fit m i (informed_view m v stage)
  informs m i v stage f st = record {
    origin_is = f.origin_is;
    seen = starts_refl m.history;
    drawn = le_refl m.ticket;
    served = f.served;
    first_if_lone = f.first_if_lone;
    stage = st;
    port = λ e. let p = f.port e in record {
      origin_is = p.origin_is;
      own = λ q o. ((p.own q o).0, refl);
      unused = p.unused;
      apart = p.apart;
    };
  }

  watches : (m : Mo) (i : ℕ) (v : V) → Fit m i v → v.is_port ≡ true → legal m.start m.history
      → Watches legal v.known (informed m v.known)
  watches m i v f port lawful = record {
    sees = record {
      origin = refl;
      number = refl;
      splits = refl;
      drawn = f.drawn;
      served = le_refl v.known.served;
      seen = f.seen;
      lawful = record {
        origin = m.start;
        origin_is = (f.port port).origin_is;
        legal_history = lawful;
      };
      own_calls = λ q o. ((f.port port).own q o).1;
    };
    joined = refl;
  }

  abbrev M : Type 0
  M = Me Sl V

  -- a port that has seen the longest history has only watched
  moves_to : (m : Mo) (i : ℕ) (me : M) (stage : Stage E R O) (cs : CarriedSlots T E R)
      → Fit m i me.0
      → me.0.is_port ≡ true → legal m.start m.history
      → MovesTo legal stage (seat_state me) (seat_with (informed_view m me.0 stage) cs)
  moves_to m i me stage cs f port lawful = record {
    port = port;
    stage_is = refl;
    watches = watches m i me.0 f port lawful;
  }

  -- such a port has taken the slot, which was at home
  takes_value : (m : Mo) (i : ℕ) (me : M) (stage : Stage E R O) (x : T) (l : LastCall E R)
      → Fit m i me.0 → me.0.is_port ≡ true → legal m.start m.history → stands x m.history → origin x
      ≡ m.start
      → TakesValue origin stands legal stage (seat_state me)
      (seat_with (informed_view m me.0 stage) ((0, full_slot x l) ∷ me.1))
  takes_value m i me stage x l f port lawful stood same = record {
    moves = moves_to m i me stage ((0, full_slot x l) ∷ me.1) f port lawful;
    value = x;
    last = l;
    carried = refl;
    results = stood;
    origin_is = (f.port port).origin_is ∙ ap (λ (o : O). Some o) (sym same);
    unused = λ q o. ((f.port port).unused q o).1;
  }

  -- a load that takes no slot
  loads : (slots id : ℕ) (me : M) (i : ℕ) (told : ℕ → M → Type 0)
      → ((m : Mo) (vs : List V) → F m vs → Fit m id me.0 → (w : V) × Fit m id w
      × told (get_or (m.ticket ∷ m.serving ∷ []) i 0) (w, me.1))
      → Allows Rule slots id me i (λ n. n) told
  loads slots id me i told h = by_moment
      (λ s. length s.homes ≡ slots → get_elem? s.views id ≡ some me.0
      → get_or s.words i 0 < 18446744073709551616
      → (w : V) × (a : Act Sl) × Valid s.homes me.1 a
      × Rule (stepped s i (get_or s.words i 0) id me.1 w a)
      × told (get_or s.words i 0) (w, carried_after me.1 a))
      (λ m vs f _ at _. let t = h m vs f (f.fits id me.0 at) in let same = set-get_or (m.ticket
      ∷ m.serving ∷ []) i 0 in (
        t.0,
        keeps,
        tt,
        subst (λ (ws : List ℕ). Rule record {
          words = ws;
          homes = m.home
              ∷ [];
          views = set vs id t.0;
        }) (sym same)
            (kept m (set vs id t.0) (stays m vs id t.0 f t.1)),
        t.2,
      ))

  pub settles : (slots id : ℕ) (me : M) → Allows Rule slots id me 1 (λ n. n)
      (play Settles (step slots 1 0 0 none) me)
  settles slots id me = loads slots id me 1 (play Settles (step slots 1 0 0 none) me)
      (λ m vs f fit. (
        with_stage me.0 Idle,
        fit_at_stage m id me.0 Idle fit tt,
        record { after_is = refl; no_calls = λ e. subst (Stand m id me.0.known) e fit.stage },
      ))

  pub looks : (slots id : ℕ) (me : M) → me.0.is_port ≡ true
      → Allows Rule slots id me 0 (λ n. n) (play (Looks legal) (step slots 0 0 0 none) me)
  looks slots id me port = loads slots id me 0 (play (Looks legal) (step slots 0 0 0 none) me)
      (λ m vs f fit. (
        informed_view m me.0 Idle,
        informs m id me.0 Idle fit tt,
        record {
          moves = moves_to m id me Idle me.1 fit port f.lawful;
          carried = refl;
          drawn = refl;
        },
      ))

  -- the view of a seat that has read the count of ended turns
  counts : (m : Mo) (i : ℕ) (v : V) → Fit m i v → Fit m i (view_with_served v m.serving)
  counts m i v f = record {
    origin_is = f.origin_is;
    seen = f.seen;
    drawn = f.drawn;
    served = le_refl m.serving;
    first_if_lone = f.first_if_lone;
    stage = le_refl m.serving;
    port = λ e. let p = f.port e in record {
      origin_is = p.origin_is;
      own = p.own;
      unused = p.unused;
      apart = p.apart;
    };
  }

  pub sees : (slots id : ℕ) (me : M) → Allows Rule slots id me 1 (λ n. n)
      (play SeesServing (step slots 1 0 0 none) me)
  sees slots id me = loads slots id me 1 (play SeesServing (step slots 1 0 0 none) me)
      (λ m vs f fit.
      let a : m.serving ≤ m.ticket = f.range in
      let b : m.ticket ≤ max_turns + m.closed = f.within_most in
      let c : m.closed ≤ 1 = f.closed_once in
      let d : length m.history ≤ m.serving = f.counted in
      let e : length me.0.known.seen ≤ length m.history =
      starts_length m.history me.0.known.seen fit.seen in (
        view_with_served me.0 m.serving,
        counts m id me.0 fit,
        record {
          view = refl;
          carried = refl;
          no_less = fit.served;
          counted = omega arith;
          within = omega arith;
        },
      ))

  -- a number that was taken in, after more turns were drawn
  owns_later : (m m' : Mo) (j : ℕ) (k : Known E R O) {calls : List (Entry E R)} (q : List ℕ)
      → m'.history ≡ m.history → m'.holder ≡ m.holder → OwnsNumber m j k calls q
      → OwnsNumber m' j k calls q
  owns_later m m' j k q history holder a = record {
    holder_is = ap (λ f. f q) holder ∙ a.holder_is;
    calls_are = ap (calls_by q) history ∙ a.calls_are;
    not_own = a.not_own;
    not_future = a.not_future;
  }

  -- a seat that was taken in, after more turns were drawn
  met_later : (m m' : Mo) (j : ℕ) (k : Known E R O) (b : Bool) (u : Known E R O) → m'.start
      ≡ m.start → m'.history ≡ m.history → m'.holder ≡ m.holder → m.ticket ≤ m'.ticket
      → HasMet m j k b u → HasMet m' j k b u
  met_later m m' j k b u start history holder more h =
      let low : u.drawn ≤ m.ticket = h.drawn in
      record {
        seen = subst (λ l. StartsWith l u.seen) (sym history) h.seen;
        origin_is = λ o e. h.origin_is o e ∙ sym start;
        drawn = omega arith;
        numbers = λ yes q one. owns_later m m' j k q history holder (h.numbers yes q one);
        unused = λ yes q one. owns_later m m' j k q history holder (h.unused yes q one);
      }

  at_home : (m : Mo) → IsHome origin stands m ⊎ (m.serving < m.ticket) → m.ticket ≡ m.serving
      → IsHome origin stands m
  at_home m held e = ⊎_elim (λ h. h) (λ l. absurd (omega arith)) held

  -- a seat that is one of two is not alone
  not_lone : {X : Type 0} (m : Mo) (i j : ℕ) (v d : V) → j ≢ i → Fit m i v → Fit m j d
      → m.lone ≡ true → X
  not_lone m i j v d other f g lone = absurd (other (g.first_if_lone lone
      ∙ sym (f.first_if_lone lone)))

  restaged : (m m' : Mo) (i : ℕ) (v : V) → m'.start ≡ m.start → m'.history ≡ m.history
      → m.ticket ≤ m'.ticket → m.serving ≤ m'.serving → (m'.lone ≡ true → m.lone ≡ true) → m'.holder
      ≡ m.holder → Fit m i v → Stand m' i v.known v.stage → Fit m' i v
  restaged m m' i v start whole more later lone holder f st =
      let low : v.known.drawn ≤ m.ticket = f.drawn in
      let few : v.known.served ≤ m.serving = f.served in
      record {
        origin_is = λ o e. f.origin_is o e ∙ sym start;
        seen = subst (λ h. StartsWith h v.known.seen) (sym whole) f.seen;
        drawn = omega arith;
        served = omega arith;
        first_if_lone = λ e. f.first_if_lone (lone e);
        stage = st;
        port = λ e. subst (λ (z : O × (List ℕ → ℕ) × List (Entry E R)). IsPort z.0 z.1 i
            z.2 v.known)
            (λ c. (sym start c, sym holder c, sym whole c)) (f.port e);
      }

  -- the stage of another seat, after a step that takes the slot when all drawn turns have ended
  taken_staged : (m m' : Mo) (j : ℕ) (k : Known E R O) → m.ticket ≡ m.serving → m'.serving
      ≡ m.serving → m'.start ≡ m.start → m'.history ≡ m.history → m'.holder ≡ m.holder → m.ticket
      ≤ m'.ticket → (m.lone ≡ true → ⊥) → (st : Stage E R O) → Stand m j k st → Stand m' j k st
  taken_staged m m' j k ended served start whole holder more pair New h = absurd (pair h.0)
  taken_staged m m' j k ended served start whole holder more pair Young h = h
  taken_staged m m' j k ended served start whole holder more pair Idle h = tt
  taken_staged m m' j k ended served start whole holder more pair (Turn q) h =
      let low : m.serving ≤ q = h.holds.not_ended in
      let high : q < m.ticket = h.holds.drawn in
      absurd (omega arith)
  taken_staged m m' j k ended served start whole holder more pair (SawServing q) h =
      let low : q ≤ m.serving = h in
      (omega arith)
  taken_staged m m' j k ended served start whole holder more pair (Met b u) h =
      met_later m m' j k b u start whole holder more h

  -- the moment after seat i has drawn a turn and taken the slot
  abbrev after_draw : Mo → ℕ → ℕ → Mo
  after_draw m i new = record m { ticket = new; home = none; owner = put m.owner m.ticket i }

  -- the seat that draws the turn, right before its view changes
  draw_fit : (id old new : ℕ) (v : V) (m : Mo) → Fit m id v → v.stage ≡ SawServing old → m.ticket
      ≤ new → Fit (after_draw m id new) id v
  draw_fit id old new v m fit is more =
      restaged m (after_draw m id new) id v refl refl more (le_refl m.serving) (λ e. e) refl fit
      (subst (λ st. Stand (after_draw m id new) id v.known st) (sym is)
      (subst (Stand m id v.known) is fit.stage))

  draws_at : (id old new : ℕ) (v : V) (m : Mo) (vs : List V) → F m vs → Fit m id v → v.stage
      ≡ SawServing old → m.ticket ≡ m.serving → new ≡ m.ticket + 1 → m.ticket < max_turns
      → m.closed ≡ 0 → F (after_draw m id new)
      (set vs id (informed_view (after_draw m id new) v (Turn m.ticket)))
  draws_at id old new v m vs f fit is ended up few fresh =
      let more : m.ticket ≤ new = omega arith in
      let w : V = informed_view (after_draw m id new) v (Turn m.ticket) in
      moves m (after_draw m id new) vs id w f (omega arith) (omega arith) f.closed_once f.lawful
      f.counted (inr (omega arith))
      (informs (after_draw m id new) id v (Turn m.ticket) (draw_fit id old new v m fit is more)
      (record {
        holds = record {
          not_ended = omega arith;
          drawn = omega arith;
          owner_is = put_here m.owner m.ticket id;
        };
        served = ended;
        seen = refl;
        not_closed = fresh;
      }))
      (λ j d other g. restaged m (after_draw m id new) j d refl refl more (le_refl m.serving)
      (λ e. e) refl g (taken_staged m (after_draw m id new) j d.known ended refl refl refl refl more
      (not_lone m id j v d other fit g) d.stage g.stage))

  pub draws : (slots id old new : ℕ) (me : M) → new ≡ old + 1 → old < max_turns → me.0.is_port
      ≡ true → me.0.stage ≡ SawServing old
      → Allows Rule slots id me 0 (λ n. either (eqb n old) new n)
      (play (Draws origin stands legal) (step slots 0 old new none) me)
  draws slots id old new me up few port is = by_moment
      (λ s. length s.homes ≡ slots → get_elem? s.views id ≡ some me.0
      → get_or s.words 0 0 < 18446744073709551616
      → (w : V) × (a : Act Sl) × Valid s.homes me.1 a
      × Rule (stepped s 0 (either (eqb (get_or s.words 0 0) old) new (get_or s.words 0 0)) id
      me.1 w a) × play (Draws origin stands legal) (step slots 0 old new none) me
      (get_or s.words 0 0) (w, carried_after me.1 a))
      (λ m vs f _ at _. let fit = f.fits id me.0 at in let st : old ≤ m.serving = subst
      (Stand m id me.0.known) is fit.stage in let range : m.serving ≤ m.ticket = f.range in
      exchanged m.ticket old new
      (λ x. (w : V) × (a : Act Sl) × Valid (m.home ∷ []) me.1 a
      × Rule record {
        words = x ∷ m.serving ∷ [];
        homes = homes_after (m.home ∷ []) me.1 a;
        views = set vs id w;
      } × play (Draws origin stands legal) (step slots 0 old new none) me m.ticket
      (w, carried_after me.1 a))
      (λ hit. let done : m.ticket ≡ m.serving = omega arith in let home = at_home m f.home_or_held
      done in let next : new ≡ m.ticket + 1 = omega arith in let low : m.ticket < max_turns =
      omega arith in let more : m.ticket ≤ new = omega arith in
      let w : V = informed_view (after_draw m id new) me.0 (Turn m.ticket) in (
        w,
        takes 0 (full_slot home.value home.last),
        ap (λ h. some h) home.home_is,
        kept (after_draw m id new) (set vs id w)
            (draws_at id old new me.0 m vs f fit is done next low home.not_closed),
        record {
          if_expected = λ _. record {
            takes = takes_value (after_draw m id new) id me (Turn m.ticket) home.value home.last
                (draw_fit id old new me.0 m fit is more) port f.lawful home.results
                home.origin_is;
            drawn = omega arith;
          };
          if_other = λ miss. absurd (miss hit);
        },
      ))
      (λ miss. (
        me.0,
        keeps,
        tt,
        kept m (set vs id me.0) (stays m vs id me.0 f fit),
        record { if_expected = λ hit. absurd (miss hit); if_other = λ _. refl },
      )))

  -- the moment after port p's turn has ended and the slot has x again
  abbrev after_end : Mo → List ℕ → T → LastCall E R → Mo
  after_end m p x l = record m {
    serving = m.serving + 1;
    history = m.history ++ new_entries p l;
    home = some (full_slot x l);
  }

  -- a number that was taken in, after the turn of another seat
  owns_ended : (m : Mo) (i j : ℕ) (p : List ℕ) (x : T) (l : LastCall E R) (k : Known E R O)
      {calls : List (Entry E R)} (q : List ℕ) → j ≢ i → m.holder p ≡ i
      → OwnsNumber m j k calls q → OwnsNumber (after_end m p x l) j k calls q
  owns_ended m i j p x l k q other holds a = record {
    holder_is = a.holder_is;
    calls_are = entries-other q p m.history l
        (λ e. other (sym a.holder_is ∙ (ap m.holder e ∙ holds))) ∙ a.calls_are;
    not_own = a.not_own;
    not_future = a.not_future;
  }

  end_staged : (m : Mo) (i n j : ℕ) (p : List ℕ) (x : T) (l : LastCall E R) (k : Known E R O)
      → j ≢ i → m.owner n ≡ i → n ≡ m.serving → m.holder p ≡ i → (m.lone ≡ true → ⊥)
      → IsHome origin stands (after_end m p x l) → (st : Stage E R O) → Stand m j k st
      → Stand (after_end m p x l) j k st
  end_staged m i n j p x l k other mine here holds pair home New h = absurd (pair h.0)
  end_staged m i n j p x l k other mine here holds pair home Young h = h
  end_staged m i n j p x l k other mine here holds pair home Idle h = tt
  end_staged m i n j p x l k other mine here holds pair home (Turn q) h =
      absurd (other (sym h.holds.owner_is ∙ (ap m.owner (h.served ∙ sym here) ∙ mine)))
  end_staged m i n j p x l k other mine here holds pair home (SawServing q) h =
      let low : q ≤ m.serving = h in
      (omega arith)
  end_staged m i n j p x l k other mine here holds pair home (Met b u) h = record {
    seen = starts_more m.history u.seen (new_entries p l) h.seen;
    origin_is = h.origin_is;
    drawn = h.drawn;
    numbers = λ yes q one. owns_ended m i j p x l k q other holds (h.numbers yes q one);
    unused = λ yes q one. owns_ended m i j p x l k q other holds (h.unused yes q one);
  }

  end_others : (m : Mo) (i n j : ℕ) (p : List ℕ) (x : T) (l : LastCall E R) (d : V) → j ≢ i
      → m.owner n ≡ i → n ≡ m.serving → m.holder p ≡ i → (m.lone ≡ true → ⊥)
      → IsHome origin stands (after_end m p x l) → Fit m j d → Fit (after_end m p x l) j d
  end_others m i n j p x l d other mine here holds pair home f =
      let few : d.known.served ≤ m.serving = f.served in
      record {
        origin_is = f.origin_is;
        seen = starts_more m.history d.known.seen (new_entries p l) f.seen;
        drawn = f.drawn;
        served = omega arith;
        first_if_lone = f.first_if_lone;
        stage = end_staged m i n j p x l d.known other mine here holds pair home d.stage f.stage;
        port = λ e. let t = f.port e in record {
          origin_is = t.origin_is;
          own = λ q o. let a = t.own q o in (
            a.0,
            entries-other q p m.history l (λ same. other (sym a.0
                ∙ (ap m.holder same ∙ holds))) ∙ a.1,
          );
          unused = λ q o. let a = t.unused q o in (
            a.0,
            entries-other q p m.history l (λ same. other (sym a.0
                ∙ (ap m.holder same ∙ holds))) ∙ a.1,
          );
          apart = t.apart;
        };
      }

  end_mine : (m : Mo) (i : ℕ) (x : T) (l : LastCall E R) (v : V) → v.known.seen ≡ m.history
      → Fit m i v → Fit (after_end m v.known.number x l) i (view_after_turn v l)
  end_mine m i x l v all f =
      let p : List ℕ = v.known.number in
      let same : m.history ++ new_entries p l ≡ v.known.seen ++ new_entries p l =
      ap (λ h. h ++ new_entries p l) (sym all) in
      let few : v.known.served ≤ m.serving = f.served in
      record {
        origin_is = f.origin_is;
        seen = subst (λ h. StartsWith h (v.known.seen ++ new_entries p l)) (sym same)
            (starts_refl (v.known.seen ++ new_entries p l));
        drawn = f.drawn;
        served = omega arith;
        first_if_lone = f.first_if_lone;
        stage = tt;
        port = λ e. let t = f.port e in record {
          origin_is = t.origin_is;
          own = λ q o. ((t.own q o).0, ap (calls_by q) same);
          unused = λ q o. let a = t.unused q o in (
            a.0,
            entries-other q p m.history l
                (⊎_elim (future-not-self p v.known.splits q) (λ b. (t.apart q (inr b)).0) o) ∙ a.1,
          );
          apart = t.apart;
        };
      }

  module _ (law : (x : T) (h : List (Entry E R)) → stands x h → legal (origin x) h) where
    ends_at : (id n : ℕ) (v : V) (x : T) (l : LastCall E R) (m : Mo) (vs : List V) → F m vs
        → Fit m id v → v.is_port ≡ true → v.stage ≡ Turn n → v.known.origin ≡ Some (origin x)
        → stands x (v.known.seen ++ new_entries v.known.number l)
        → F (after_end m v.known.number x l) (set vs id (view_after_turn v l))
        × AddsCall legal l v (view_after_turn v l)
    ends_at id n v x l m vs f fit port is begun stood =
        let p : List ℕ = v.known.number in
        let st = subst (Stand m id v.known) is fit.stage in
        let all = st.seen in
        let mine = fit.port port in
        let start : origin x ≡ m.start = fit.origin_is (origin x) begun in
        let whole : v.known.seen ++ new_entries p l ≡ m.history ++ new_entries p l =
        ap (λ h. h ++ new_entries p l) all in
        let stood' : stands x (m.history ++ new_entries p l) = subst (stands x) whole stood in
        let home : IsHome origin stands (after_end m p x l) = record {
          value = x;
          last = l;
          home_is = refl;
          results = stood';
          origin_is = start;
          not_closed = st.not_closed;
        } in
        let lawful : legal m.start (m.history ++ new_entries p l) = subst
        (λ o. legal o (m.history ++ new_entries p l)) start
        (law x (m.history ++ new_entries p l) stood') in
        let low : n < m.ticket = st.holds.drawn in
        let here : n ≡ m.serving = st.served in
        let were : length m.history ≤ m.serving = f.counted in
        let more = entries_few p m.history l in (
          moves m (after_end m p x l) vs id (view_after_turn v l) f (omega arith) f.within_most
              f.closed_once lawful (omega (arith, were, more)) (inl home)
              (end_mine m id x l v all fit)
              (λ j d other g. end_others m id n j p x l d other st.holds.owner_is here
              (mine.own p (inl refl)).0 (not_lone m id j v d other fit g) home g),
          record {
            view = refl;
            lawful = record {
              origin = m.start;
              origin_is = mine.origin_is;
              legal_history = subst (legal m.start) (sym whole) lawful;
            };
            own_calls = entries-own p v.known.seen l;
            joined_calls = λ q a. entries-other q p v.known.seen l (mine.apart q (inl a)).0;
            within = λ turn at. let same : n ≡ turn = ap (held_of n) (sym is
                ∙ at) in let long : length (v.known.seen ++ new_entries p l)
                ≡ length (m.history ++ new_entries p l) =
                ap (λ h. length h) whole in omega (arith, were, more, here, same, long);
          },
        )

    ends_with : (slots id n : ℕ) (v : V) (x : T) (l : LastCall E R) → v.is_port ≡ true → v.stage
        ≡ Turn n → v.known.origin ≡ Some (origin x)
        → stands x (v.known.seen ++ new_entries v.known.number l)
        → Allows Rule slots id (v, (0, full_slot x l) ∷ []) 1 (λ q. (q + 1) % 2 ^ 64)
        (play (Ends legal) (step slots 1 1 0 none) (v, (0, full_slot x l) ∷ []))
    ends_with slots id n v x l port is begun stood =
        let me : M = (v, (0, full_slot x l) ∷ []) in
        by_moment
        (λ s. length s.homes ≡ slots → get_elem? s.views id ≡ some v
        → get_or s.words 1 0 < 18446744073709551616
        → (w : V) × (a : Act Sl) × Valid s.homes me.1 a
        × Rule (stepped s 1 ((get_or s.words 1 0 + 1) % 2 ^ 64) id me.1 w a)
        × play (Ends legal) (step slots 1 1 0 none) me (get_or s.words 1 0)
        (w, carried_after me.1 a))
        (λ m vs f _ at _. let t = ends_at id n v x l m vs f (f.fits id v at) port is begun stood
        in let w : V = view_after_turn v l in
        let a : m.serving ≤ m.ticket = f.range in
        let b : m.ticket ≤ max_turns + m.closed = f.within_most in
        let c : m.closed ≤ 1 = f.closed_once in
        let small : m.serving + 1 < 2 ^ 64 = omega arith in (
          w,
          gives,
          tt,
          subst (λ (z : ℕ). Rule record {
            words = m.ticket ∷ z
                ∷ [];
            homes = some (full_slot x l) ∷ [];
            views = set vs id w;
          })
              (sym (mod-eq_of_lt small)) (kept (after_end m v.known.number x l) (set vs id w) t.0),
          record { carried = refl; adds = t.1 },
        ))

    pub ends : (slots id n : ℕ) (me : M) (x : T) (l : LastCall E R) → me.0.is_port ≡ true
        → me.0.stage ≡ Turn n → me.1 ≡ (0, full_slot x l) ∷ [] → me.0.known.origin ≡ Some (origin x)
        → stands x (me.0.known.seen ++ new_entries me.0.known.number l)
        → Allows Rule slots id me 1 (λ q. (q + 1) % 2 ^ 64)
        (play (Ends legal) (step slots 1 1 0 none) me)
    ends slots id n me x l port is carried begun stood = subst
        (λ (cs : List (ℕ × Sl)). Allows Rule slots id (me.0, cs) 1 (λ q. (q + 1) % 2 ^ 64)
        (play (Ends legal) (step slots 1 1 0 none) (me.0, cs))) (sym carried)
        (ends_with slots id n me.0 x l port is begun stood)

    -- the moment at which the table is made
    abbrev first_moment : T → Mo
    first_moment x = record {
      ticket = 0;
      serving = 0;
      start = origin x;
      history = [];
      home = some (full_slot x None);
      holder = λ _. 0;
      owner = λ _. 0;
      lone = true;
      closed = 0;
    }

    first_fit : (x : T) → x ≡ first → Fit (first_moment x) 0 (first_view (origin x))
    first_fit x same = record {
      origin_is = λ o e. sym (the_value e);
      seen = starts_refl [];
      drawn = le_refl 0;
      served = le_refl 0;
      first_if_lone = λ _. refl;
      stage = (refl, ap (λ (y : T). some (full_slot y None)) same);
      port = λ _. record {
        origin_is = refl;
        own = λ q _. (refl, refl);
        unused = λ q _. (refl, refl);
        apart = λ q a. ⊎_elim (λ n. absurd n) (λ n. absurd n) a;
      };
    }
      where
        the_value : {a b : O} → Some a ≡ Some b → a ≡ b
        the_value e = cc

    pub made : (x : T) → stands x [] → x ≡ first
        → Rule (opening (0 ∷ 0 ∷ []) (full_slot x None ∷ []) (first_view (origin x)))
    made x empty same =
        let m : Mo = first_moment x in
        let w : V = first_view (origin x) in
        let mine = first_fit x same in
        let home : IsHome origin stands m = record {
          value = x;
          last = None;
          home_is = refl;
          results = empty;
          origin_is = refl;
          not_closed = refl;
        } in
        kept m (w ∷ []) (moves m m (w ∷ []) 0 w (record {
          range = le_refl 0;
          within_most = omega arith;
          closed_once = omega arith;
          lawful = law x [] empty;
          counted = le_refl 0;
          home_or_held = inl home;
          fits = λ i v at. ⊎_elim (λ (e : get_elem? [] i ≡ some v). absurd (some-ne-none v (sym e)))
              (λ (t : (i ≡ 0) × (w ≡ v)). subst (λ (z : ℕ × V). Fit m z.0 z.1)
              (λ c. (sym t.0 c, t.1 c)) mine) (at_end [] w v i at);
        }) (le_refl 0) (omega arith) (omega arith) (law x [] empty) (le_refl 0) (inl home) mine
        (λ _ _ _ g. g))

  -- the moment after the lock was closed and its value taken
  abbrev after_close : Mo → Mo
  after_close m = record m { ticket = m.ticket + 1; home = none; closed = 1 }

  closes_at : (id : ℕ) (v : V) (m : Mo) (vs : List V) → F m vs → Fit m id v → m.ticket ≡ m.serving
      → m.closed ≡ 0 → F (after_close m) (set vs id (informed_view m v Idle))
  closes_at id v m vs f fit ended fresh =
      let few : m.ticket ≤ max_turns + m.closed = f.within_most in
      let more : m.ticket ≤ m.ticket + 1 = omega arith in
      let w : V = informed_view m v Idle in
      moves m (after_close m) vs id w f (omega arith) (omega arith) (omega arith) f.lawful f.counted
      (inr (omega arith))
      (restaged m (after_close m) id w refl refl more (le_refl m.serving) (λ e. e) refl
      (informs m id v Idle fit tt) tt)
      (λ j d other g. restaged m (after_close m) j d refl refl more (le_refl m.serving)
      (λ e. e) refl g (taken_staged m (after_close m) j d.known ended refl refl refl refl more
      (not_lone m id j v d other fit g) d.stage g.stage))

  pub closes : (slots id old new : ℕ) (me : M) → new ≡ old + 1 → me.0.is_port ≡ true → me.0.stage
      ≡ SawServing old
      → Allows Rule slots id me 0 (λ n. either (eqb n old) new n)
      (play (Closes origin stands legal) (step slots 0 old new none) me)
  closes slots id old new me up port is = by_moment
      (λ s. length s.homes ≡ slots → get_elem? s.views id ≡ some me.0
      → get_or s.words 0 0 < 18446744073709551616
      → (w : V) × (a : Act Sl) × Valid s.homes me.1 a
      × Rule (stepped s 0 (either (eqb (get_or s.words 0 0) old) new (get_or s.words 0 0))
      id me.1 w a)
      × play (Closes origin stands legal) (step slots 0 old new none) me (get_or s.words 0 0)
      (w, carried_after me.1 a))
      (λ m vs f _ at _. let fit = f.fits id me.0 at in let st : old ≤ m.serving = subst
      (Stand m id me.0.known) is fit.stage in let range : m.serving ≤ m.ticket =
      f.range in let w : V = informed_view m me.0 Idle in
      exchanged m.ticket old new
      (λ x. (w : V) × (a : Act Sl) × Valid (m.home ∷ []) me.1 a
      × Rule record {
        words = x ∷ m.serving ∷ [];
        homes = homes_after (m.home ∷ []) me.1 a;
        views = set vs id w;
      }
      × play (Closes origin stands legal) (step slots 0 old new none) me m.ticket
      (w, carried_after me.1 a))
      (λ hit. let done : m.ticket ≡ m.serving = omega arith in let home = at_home m f.home_or_held
      done in let more : m.ticket + 1 ≡ new = omega arith in (
        w,
        takes 0 (full_slot home.value home.last),
        ap (λ h. some h) home.home_is,
        subst (λ (z : ℕ). Rule record {
          words = z ∷ m.serving ∷ [];
          homes = none
              ∷ [];
          views = set vs id w;
        }) more
            (kept (after_close m) (set vs id w)
            (closes_at id me.0 m vs f fit done home.not_closed)),
        record {
          if_expected = λ _. takes_value m id me Idle home.value home.last fit port f.lawful
              home.results home.origin_is;
          if_other = λ miss. absurd (miss hit);
        },
      ))
      (λ miss. (
        w,
        keeps,
        tt,
        kept m (set vs id w) (stays m vs id w f (informs m id me.0 Idle fit tt)),
        record {
          if_expected = λ hit. absurd (miss hit);
          if_other = λ _. record {
            moves = moves_to m id me Idle me.1 fit port f.lawful;
            carried = refl;
            more = omega arith;
            drawn = refl;
            served = refl;
          };
        },
      )))

  -- a port's knowledge after it has merged what the other seat knew
  abbrev merged_known : Mo → Known E R O → V → Known E R O
  merged_known m k other = record k {
    joined = joined_with k other;
    seen = m.history;
    drawn = m.ticket;
  }

  -- the seat that a stage `Met` has taken in
  abbrev other_view : Bool → Known E R O → V
  other_view b u = record { known = u; is_port = b; stage = Idle }

  -- a port, once it was joined in
  abbrev as_joined : Known E R O → JoinedPort
  as_joined u = record { number = u.number; splits = u.splits }

  merge_port : (m : Mo) (i : ℕ) (k : Known E R O) (b : Bool) (u : Known E R O)
      → Stand m i k (Met b u) → IsPort m.start m.holder i m.history k
      → IsPort m.start m.holder i m.history (merged_known m k (other_view b u))
  merge_port m i k false u st t = record {
    origin_is = t.origin_is;
    own = λ q o. ((t.own q o).0, refl);
    unused = t.unused;
    apart = t.apart;
  }
  merge_port m i k true u st t = record {
    origin_is = t.origin_is;
    own = λ q o. (
      ⊎_elim (λ e. (t.own q (inl e)).0)
          (λ a. ⊎_elim (λ x. (t.own q (inr x)).0) (λ x. (st.numbers refl q x).holder_is)
          (among-append q (as_joined u) k.joined u.joined a)) o,
      refl,
    );
    unused = λ q o. ⊎_elim (λ f. t.unused q (inl f))
        (λ b. ⊎_elim (λ x. t.unused q (inr x))
        (λ x. let y = st.unused refl q x in (y.holder_is, y.calls_are))
        (below-append q (as_joined u) k.joined u.joined b)) o;
    apart = λ q o. ⊎_elim
        (λ a. ⊎_elim (λ x. t.apart q (inl x))
        (λ x. let y = st.numbers refl q x in (y.not_own, y.not_future))
        (among-append q (as_joined u) k.joined u.joined a))
        (λ b. ⊎_elim (λ x. t.apart q (inr x))
        (λ x. let y = st.unused refl q x in (y.not_own, y.not_future))
        (below-append q (as_joined u) k.joined u.joined b)) o;
  }

  -- a stage names the seat that it has taken in
  same_other : (b : Bool) (u : Known E R O) (stage : Stage E R O) (other : V) → stage ≡ Met b u
      → stage ≡ Met other.is_port other.known
      → record { known = u; is_port = b; stage = other.stage } ≡ other
  same_other b u stage other is now =
      let same : (b, u) ≡ (other.is_port, other.known) = ap (met_of (b, u)) (sym is ∙ now) in
      λ i. record { known = (same i).1; is_port = (same i).0; stage = other.stage }

  knows_both : (m : Mo) (i : ℕ) (v : V) (b : Bool) (u : Known E R O) (stage : Stage E R O)
      → Fit m i v → v.is_port ≡ true → legal m.start m.history → Stand m i v.known (Met b u)
      → KnowsBoth legal v.known (record { known = u; is_port = b; stage = stage })
      (record {
        known = merged_known m v.known (other_view b u);
        is_port = v.is_port;
        stage = Idle;
      })
  knows_both m i v b u stage fit port lawful st =
      let see = (watches m i v fit port lawful).sees in
      record {
        port = port;
        stage_is = refl;
        sees = record {
          origin = refl;
          number = refl;
          splits = refl;
          drawn = see.drawn;
          served = see.served;
          seen = see.seen;
          lawful = record {
            origin = m.start;
            origin_is = (fit.port port).origin_is;
            legal_history = lawful;
          };
          own_calls = see.own_calls;
        };
        joined = refl;
        drawn = st.drawn;
        other_seen = st.seen;
        same_origin = λ o e. (fit.port port).origin_is
            ∙ ap (λ (z : O). Some z) (sym (st.origin_is o e));
        other_calls = λ yes q x. (st.numbers yes q x).calls_are;
      }

  pub merges : (slots id : ℕ) (me : M) (b : Bool) (u : Known E R O) → me.0.is_port ≡ true
      → me.0.stage ≡ Met b u
      → Allows Rule slots id me 1 (λ n. n) (play (Merges legal) (step slots 1 0 0 none) me)
  merges slots id me b u port is = loads slots id me 1
      (play (Merges legal) (step slots 1 0 0 none) me)
      (λ m vs f fit. let st = subst (Stand m id me.0.known) is fit.stage in let k : Known E R O =
      me.0.known in
      let w : V = record {
        known = merged_known m k (other_view b u);
        is_port = me.0.is_port;
        stage = Idle;
      } in (
        w,
        record {
          origin_is = fit.origin_is;
          seen = starts_refl m.history;
          drawn = le_refl m.ticket;
          served = fit.served;
          first_if_lone = fit.first_if_lone;
          stage = tt;
          port = λ e. merge_port m id k b u st (fit.port e);
        },
        record {
          carried = refl;
          knows_both = λ other now. subst (λ (z : V). KnowsBoth legal me.0.known z w)
              (same_other b u me.0.stage other is now)
              (knows_both m id me.0 b u other.stage fit port f.lawful st);
        },
      ))

  -- a number that was taken in, while the seat holds the numbers that it held
  owns_still : (m : Mo) (holder : List ℕ → ℕ) (lone : Bool) (j : ℕ) (k : Known E R O)
      {calls : List (Entry E R)} (q : List ℕ) → ((q : List ℕ) → m.holder q ≡ j → holder q ≡ j)
      → OwnsNumber m j k calls q → OwnsNumber (with_holder m holder lone) j k calls q
  owns_still m holder lone j k q still a = record {
    holder_is = still q a.holder_is;
    calls_are = a.calls_are;
    not_own = a.not_own;
    not_future = a.not_future;
  }

  -- a seat that was taken in, while the seat holds the numbers that it held
  met_still : (m : Mo) (holder : List ℕ → ℕ) (lone : Bool) (j : ℕ) (k : Known E R O) (b : Bool)
      (u : Known E R O) → ((q : List ℕ) → m.holder q ≡ j → holder q ≡ j) → HasMet m j k b u
      → HasMet (with_holder m holder lone) j k b u
  met_still m holder lone j k b u still h = record {
    seen = h.seen;
    origin_is = h.origin_is;
    drawn = h.drawn;
    numbers = λ yes q one. owns_still m holder lone j k q still (h.numbers yes q one);
    unused = λ yes q one. owns_still m holder lone j k q still (h.unused yes q one);
  }

  -- the moment after a seat was split
  abbrev after_split : Mo → List ℕ → ℕ → Mo
  after_split m c new = record m { holder = forked m.holder c new; lone = false }

  abbrev after_tell : Mo → Mo
  after_tell m = record m { lone = false }

  never : {X : Type 0} → false ≡ true → X
  never e = cc

  tell_staged : (m : Mo) (j : ℕ) (k : Known E R O) → (m.lone ≡ true → ⊥) → (st : Stage E R O)
      → Stand m j k st → Stand (after_tell m) j k st
  tell_staged m j k pair New h = absurd (pair h.0)
  tell_staged m j k pair Young h = h
  tell_staged m j k pair Idle h = tt
  tell_staged m j k pair (Turn q) h = holds_still m m.holder false j q k h
  tell_staged m j k pair (SawServing q) h = h
  tell_staged m j k pair (Met b u) h = met_later m (after_tell m) j k b u refl refl refl
      (le_refl m.ticket) h

  -- the invariant after a new seat with the view w was added
  comes : (m m' : Mo) (vs : List V) (i : ℕ) (v w : V) → F m vs → m'.serving ≡ m.serving → m'.ticket
      ≡ m.ticket → m'.closed ≡ m.closed → m'.start ≡ m.start → m'.history ≡ m.history
      → m'.home ≡ m.home
      → Fit m' i v → Fit m' (length (set vs i v)) w
      → ((j : ℕ) (d : V) → j ≢ i → Fit m j d → Fit m' j d) → F m' (set vs i v ++ w ∷ [])
  comes m m' vs i v w f serving ticket end start whole home mine theirs others =
      let few : m.ticket ≤ max_turns + m.closed = f.within_most in
      let range : m.serving ≤ m.ticket = f.range in
      let once : m.closed ≤ 1 = f.closed_once in
      record {
        range = omega arith;
        within_most = omega arith;
        closed_once = omega arith;
        lawful = subst (λ (z : O × List (Entry E R)). legal z.0 z.1)
            (λ c. (sym start c, sym whole c)) f.lawful;
        counted = subst (λ (z : List (Entry E R) × ℕ). length z.0 ≤ z.1)
            (λ c. (sym whole c, sym serving c)) f.counted;
        home_or_held = ⊎_elim (λ (h : IsHome origin stands m). inl
            (home_stays m m' home whole start end h))
            (λ (l : m.serving < m.ticket). inr (omega arith)) f.home_or_held;
        fits = λ j d at. ⊎_elim (λ e. seats (Fit m') vs i v mine
            (λ j d n e. others j d n (f.fits j d e)) j d e)
            (λ (t : (j ≡ length (set vs i v)) × (w ≡ d)). subst (λ (z : ℕ × V). Fit m' z.0 z.1)
            (λ c. (sym t.0 c, t.1 c)) theirs) (at_end (set vs i v) w d j at);
      }

  -- the next number that the port may give
  abbrev next_number : Known E R O → List ℕ
  next_number k = k.number ++ k.splits ∷ []

  module _ (m : Mo) (i new : ℕ) (k : Known E R O)
      (mine : IsPort m.start m.holder i m.history k) where
    abbrev Forked : Mo
    Forked = after_split m (next_number k) new

    -- numbers of another seat still belong to it
    theirs_stay : (j : ℕ) (q : List ℕ) → j ≢ i → m.holder q ≡ j → Forked.holder q ≡ j
    theirs_stay j q other h = forked_else m.holder (next_number k) new q
        (apart-not-front k.number k.splits q (λ t. other (sym h ∙ (mine.unused q (inl t)).0))) ∙ h

    split_staged : (j : ℕ) (d : Known E R O) → j ≢ i → (m.lone ≡ true → ⊥) → (st : Stage E R O)
        → Stand m j d st → Stand Forked j d st
    split_staged j d other pair New h = absurd (pair h.0)
    split_staged j d other pair Young h = h
    split_staged j d other pair Idle h = tt
    split_staged j d other pair (Turn q) h = holds_still m Forked.holder false j q d h
    split_staged j d other pair (SawServing q) h = h
    split_staged j d other pair (Met b u) h =
        met_still m Forked.holder false j d b u (λ q e. theirs_stay j q other e) h

    split_others : (v : V) (j : ℕ) (d : V) → Fit m i v → j ≢ i → Fit m j d → Fit Forked j d
    split_others v j d fit other f = record {
      origin_is = f.origin_is;
      seen = f.seen;
      drawn = f.drawn;
      served = f.served;
      first_if_lone = λ e. never e;
      stage = split_staged j d.known other (not_lone m i j v d other fit f) d.stage f.stage;
      port = λ e. let t = f.port e in record {
        origin_is = t.origin_is;
        own = λ q o. let a = t.own q o in (theirs_stay j q other a.0, a.1);
        unused = λ q o. let a = t.unused q o in (theirs_stay j q other a.0, a.1);
        apart = t.apart;
      };
    }

    -- the port that was split still owns its numbers
    own_stays : (q : List ℕ) → IsOwn k q → Forked.holder q ≡ i
    own_stays q o =
        let n : has_front (next_number k) q ≡ false = apart-not-front k.number k.splits q
        (λ t. ⊎_elim (λ e. future-not-self k.number k.splits q t e)
        (λ a. (mine.apart q (inl a)).1 t) o) in
        forked_else m.holder (next_number k) new q n ∙ (mine.own q o).0

    split_mine : (v : V) → v.known ≡ k → v.stage ≡ Idle → Fit m i v
        → Fit Forked i (record v { known = record k { splits = k.splits + 1 } })
    split_mine v same idle f =
        let g : Fit m i (record v { known = k }) =
        subst (λ (z : Known E R O). Fit m i (record v { known = z })) same f in
        record {
          origin_is = g.origin_is;
          seen = g.seen;
          drawn = g.drawn;
          served = g.served;
          first_if_lone = λ e. never e;
          stage = subst (Stand Forked i (record k { splits = k.splits + 1 })) (sym idle) tt;
          port = λ _. record {
            origin_is = mine.origin_is;
            own = λ q o. (own_stays q o, (mine.own q o).1);
            unused = λ q o. ⊎_elim
                (λ f. let a = mine.unused q (inl (future_sooner k.number k.splits q f)) in (
                  forked_else m.holder (next_number k) new q
                      (future-not-front k.number k.splits q f)
                      ∙ a.0,
                  a.1,
                ))
                (λ b. let a = mine.unused q (inr b) in (
                  forked_else m.holder (next_number k) new q
                      (apart-not-front k.number k.splits q (mine.apart q (inr b)).1)
                      ∙ a.0,
                  a.1,
                )) o;
            apart = λ q a. let t = mine.apart q a in (
              t.0,
              λ o. t.1 (future_sooner k.number k.splits q o),
            );
          };
        }

    -- numbers that begin with the new port's number belong to the new seat
    front_of_child : (q : List ℕ) → StartsWith q (next_number k) → (Forked.holder q ≡ new)
        × (calls_by q m.history ≡ [])
    front_of_child q a = (
      forked_here m.holder (next_number k) new q
          (ap (has_front (next_number k)) a.1 ∙ has_front-append (next_number k) a.0),
      (mine.unused q (inl (front_is_future k.number k.splits q a))).1,
    )

    split_child : (v : V) → v.known ≡ k → Fit m i v
        → Fit Forked new (child_view (record v { known = k }))
    split_child v same f =
        let g : Fit m i (record v { known = k }) =
        subst (λ (z : Known E R O). Fit m i (record v { known = z })) same f in
        let c : List ℕ = next_number k in
        let self = front_of_child c (starts_refl c) in
        let none_seen : calls_by c k.seen ≡ [] = calls_none c m.history k.seen g.seen self.1 in
        record {
          origin_is = g.origin_is;
          seen = g.seen;
          drawn = omega arith;
          served = omega arith;
          first_if_lone = λ e. never e;
          stage = none_seen;
          port = λ _. record {
            origin_is = mine.origin_is;
            own = λ q o. ⊎_elim (λ (e : q ≡ c). subst (λ (z : List ℕ). (Forked.holder z ≡ new)
                × (calls_by z m.history ≡ calls_by z k.seen)) (sym e) (
                  self.0,
                  self.1
                      ∙ sym none_seen,
                )) (λ a. absurd a) o;
            unused = λ q o. ⊎_elim (λ f. front_of_child q (f.count ∷ f.rest, f.number_is))
                (λ n. absurd n) o;
            apart = λ q a. ⊎_elim (λ n. absurd n) (λ n. absurd n) a;
          };
        }

  pub splits : (id : ℕ) (v : V) → v.is_port ≡ true → v.stage ≡ Idle
      → Splits Rule id v (parent_view v) (child_view v)
  splits id v port idle = by_moment (λ s. get_elem? s.views id ≡ some v
      → Rule record {
        words = s.words;
        homes = s.homes;
        views = set s.views id (parent_view v)
            ++ child_view v ∷ [];
      })
      (λ m vs f at. let fit = f.fits id v at in let mine = fit.port port in let new : ℕ = length
      (set vs id (parent_view v)) in let m' : Mo = after_split m (next_number v.known) new in
      kept m' (set vs id (parent_view v) ++ child_view v
      ∷ []) (comes m m' vs id (parent_view v) (child_view v) f refl refl refl refl refl refl
      (split_mine m id new v.known mine v refl idle fit)
      (split_child m id new v.known mine v refl fit)
      (λ j d other g. split_others m id new v.known mine v j d fit other g)))

  told_fit : (m : Mo) (i : ℕ) (v : V) → Fit m i v → Stand (after_tell m) i v.known v.stage
      → Fit (after_tell m) i v
  told_fit m i v f st = record {
    origin_is = f.origin_is;
    seen = f.seen;
    drawn = f.drawn;
    served = f.served;
    first_if_lone = λ e. never e;
    stage = st;
    port = f.port;
  }

  pub tells : (id : ℕ) (v : V) → v.stage ≡ Idle → Splits Rule id v v (note_view v)
  tells id v idle = by_moment (λ s. get_elem? s.views id ≡ some v
      → Rule record {
        words = s.words;
        homes = s.homes;
        views = set s.views id v
            ++ note_view v ∷ [];
      })
      (λ m vs f at. let fit = f.fits id v at in let m' : Mo = after_tell m in
      kept m' (set vs id v ++ note_view v ∷ [])
      (comes m m' vs id v (note_view v) f refl refl refl refl refl refl
      (told_fit m id v fit (subst (Stand m' id v.known) (sym idle) tt))
      record {
        origin_is = fit.origin_is;
        seen = fit.seen;
        drawn = omega arith;
        served = omega arith;
        first_if_lone = λ e. never e;
        stage = tt;
        port = λ e. never e;
      }
      (λ j d other g. told_fit m j d g (tell_staged m j d.known (not_lone m id j v d other fit g)
      d.stage g.stage))))

  -- the moment at which the numbers of seat `other` belong to seat i
  abbrev after_join : Mo → ℕ → ℕ → Mo
  after_join m other i = record m { holder = passed_on m.holder other i }

  join_staged : (m : Mo) (other i j : ℕ) (k : Known E R O) → j ≢ other → (st : Stage E R O)
      → Stand m j k st → Stand (after_join m other i) j k st
  join_staged m other i j k apart New h = h
  join_staged m other i j k apart Young h = h
  join_staged m other i j k apart Idle h = tt
  join_staged m other i j k apart (Turn q) h =
      holds_still m (passed_on m.holder other i) m.lone j q k h
  join_staged m other i j k apart (SawServing q) h = h
  join_staged m other i j k apart (Met b u) h = met_still m (passed_on m.holder other i) m.lone j k
      b u (λ q e. passed_else m.holder other i j q apart e) h

  -- a seat other than the one that was taken in
  join_fit : (m : Mo) (other i j : ℕ) (d : V) → j ≢ other → Fit m j d
      → Fit (after_join m other i) j d
  join_fit m other i j d apart f = record {
    origin_is = f.origin_is;
    seen = f.seen;
    drawn = f.drawn;
    served = f.served;
    first_if_lone = f.first_if_lone;
    stage = join_staged m other i j d.known apart d.stage f.stage;
    port = λ e. let t = f.port e in record {
      origin_is = t.origin_is;
      own = λ q o. let a = t.own q o in (passed_else m.holder other i j q apart a.0, a.1);
      unused = λ q o. let a = t.unused q o in (passed_else m.holder other i j q apart a.0, a.1);
      apart = t.apart;
    };
  }

  -- a port's knowledge of the seat that it took in
  join_met : (m : Mo) (other i : ℕ) (v w : V) → i ≢ other → v.is_port ≡ true → Fit m i v
      → Fit m other w
      → Stand (after_join m other i) i v.known (Met w.is_port w.known)
  join_met m other i v w apart port f g = let mine = f.port port in record {
    seen = g.seen;
    origin_is = g.origin_is;
    drawn = g.drawn;
    numbers = λ yes q one. let a = (g.port yes).own q one in record {
      holder_is = passed_here m.holder other i q a.0;
      calls_are = a.1;
      not_own = λ e. apart (sym (mine.own q (inl e)).0 ∙ a.0);
      not_future = λ t. apart (sym (mine.unused q (inl t)).0 ∙ a.0);
    };
    unused = λ yes q one. let a = (g.port yes).unused q one in record {
      holder_is = passed_here m.holder other i q a.0;
      calls_are = a.1;
      not_own = λ e. apart (sym (mine.own q (inl e)).0 ∙ a.0);
      not_future = λ t. apart (sym (mine.unused q (inl t)).0 ∙ a.0);
    };
  }

  pub joins : (id : ℕ) (v : V) (other : ℕ) (w : V) → v.is_port ≡ true
      → Joins Rule id v other w (view_with v w) spent_view
  joins id v other w port = by_moment
      (λ s. get_elem? s.views id ≡ some v → ¬ (other ≡ id)
      → get_elem? (set s.views id (view_with v w)) other ≡ some w
      → Rule record {
        words = s.words;
        homes = s.homes;
        views = set (set s.views id (view_with v w)) other spent_view;
      })
      (λ m vs f at apart there. let n : id ≢ other = λ e. apart (sym e) in let fit = f.fits id v at
      in let m' : Mo = after_join m other id in let both : V = view_with v w in
      let theirs = f.fits other w (sym (set_else vs id other both apart) ∙ there) in
      let st = join_met m other id v w n port fit theirs in
      let mine : Fit m' id both = fit_at_stage m' id v (Met w.is_port w.known)
      (join_fit m other id id v n fit) st in
      let spent : Fit m' other spent_view = record {
        origin_is = λ o e. no_origin e;
        seen = (m.history, refl);
        drawn = omega arith;
        served = omega arith;
        first_if_lone =
            theirs.first_if_lone;
        stage = tt;
        port = λ e. never e;
      } in
      kept m' (set (set vs id both) other spent_view) record {
        range = f.range;
        within_most = f.within_most;
        closed_once = f.closed_once;
        lawful = f.lawful;
        counted = f.counted;
        home_or_held = ⊎_elim (λ (h : IsHome origin stands m). inl
            (home_stays m m' refl refl refl refl h)) inr f.home_or_held;
        fits = seats (Fit m') (set vs id both) other spent_view spent
            (λ j d a e. seats (λ j d. j ≢ other → Fit m' j d) vs id both (λ _. mine)
            (λ j d _ e a. join_fit m other id j d a (f.fits j d e)) j d e a);
      })
    where
      no_origin : {X : Type 0} {o : O} → None ≡ Some o → X
      no_origin e = cc

  -- while the first seat has taken no step, the slot has the value that the table was made with
  pub regained : (ws : List ℕ) (xs : List Sl) (id : ℕ) (v : V) → v.stage ≡ New
      → Final (Seen Rule id v) ws xs → get_elem? xs 0 ≡ some (full_slot first None)
  regained ws xs id v is (s, seen, words, count, homes) =
      let r = seen.0 in
      let fit = r.facts.fits id v seen.1 in
      let st = subst (Stand r.now id v.known) is fit.stage in
      homes 0 (full_slot first None) (ap (λ h. get_elem? h 0) r.homes_are ∙ ap (λ h. some h) st.1)
