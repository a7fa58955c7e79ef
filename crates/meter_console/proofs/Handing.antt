-- Events that are passed on line by line.
use Rattle.std.proofs.Common.{◌≡◌, ℕ, ◌+◌, true, List, [], ◌∷◌, ◌++◌, Option, Some, refl, sym, ap, subst, ◌∙◌, arith, inl, inr, append_assoc, append-nil}
use Rattle.relay_events.specs.declared.event.Event.{Event}
use Rattle.meter_console.specs.Console.{LineEvent, IsOwnLine}
use Rattle.meter_console.specs.Ends.{LineEvents, TakesFrom, HandsOn, HandsAll, Ends, has_failed, lost_lines}
use Rattle.meter_console.specs.Lines.{lines_in, TakesLine, SkipsLine}
use Rattle.meter_console.specs.Queues.{Gains}
use Rattle.meter_console.specs.declared.running.ConsoleEnd.{ConsoleEnd}
use Rattle.meter_console.proofs.Shorts.{first_read, first_skipped}

-- the event of a line was taken
pub one_taken : (line : List ℕ) (event : Event) (listed taken : Option (List Event))
    → LineEvent line event → Gains listed event taken → TakesFrom line 0 listed taken
one_taken line event listed taken brings gains before e = (
  event ∷ [],
  inl (event, [], brings, refl, (refl, refl)),
  subst (λ (o : Option (List Event)). Gains o event taken) e gains,
)

-- a line without an event leaves the sink unchanged
pub none_taken : (line : List ℕ) (taken : Option (List Event))
    → ((event : Event) → ¬ (LineEvent line event)) → TakesFrom line 0 taken taken
none_taken line taken none before e = (
  [],
  inr (inl (none, (refl, refl))),
  e
      ∙ ap Some (sym (append-nil before)),
)

-- a line that is lost leaves the sink unchanged
pub lost_taken : (line : List ℕ) (taken : Option (List Event)) → IsOwnLine line
    → TakesFrom line 1 taken taken
lost_taken line taken own before e = (
  [],
  inr (inr (0, own, refl, (refl, refl))),
  e
      ∙ ap Some (sym (append-nil before)),
)

-- a line was read and its event taken
pub line_passed : (input line : List ℕ) (lost : ℕ) (left : Option (List ℕ)) (before : List Event)
    (listed taken : Option (List Event))
    → TakesLine input line left → TakesFrom line lost listed taken → listed ≡ Some before
    → HandsOn input before lost left taken
line_passed input line lost left before listed taken t from e =
    let (events, brought, taken_is) = from before e in
    record {
      read = line ∷ [];
      rest = t.rest;
      events = events;
      left_is = t.left_is;
      lines = first_read input line t.rest t.lines t.short;
      brought =
          brought;
      taken_is = taken_is;
    }

-- a line was skipped
pub line_skipped : (input : List ℕ) (left : Option (List ℕ)) (before : List Event)
    (taken : Option (List Event))
    → SkipsLine input left → taken ≡ Some before → HandsOn input before 0 left taken
line_skipped input left before taken s e = record {
  read = [];
  rest = s.rest;
  events = [];
  left_is = s.left_is;
  lines = first_skipped input s.line s.rest s.lines s.long;
  brought = (refl, refl);
  taken_is = e ∙ ap Some (sym (append-nil before));
}

-- the events of lines followed by those of others
brought_append : (xs ys : List (List ℕ)) (es fs : List Event) (m n : ℕ) → LineEvents xs es m
    → LineEvents ys fs n → LineEvents (xs ++ ys) (es ++ fs) (m + n)
brought_append [] ys es fs m n (none, zero) later =
    let all : n ≡ m + n = omega arith in
    subst (λ (l : List Event). LineEvents ys (l ++ fs) (m + n)) (sym none)
    (subst (LineEvents ys fs) all later)
brought_append (line ∷ lines) ys es fs m n (inl (event, rest, brings, e, more)) later =
    inl (
      event,
      rest ++ fs,
      brings,
      ap (λ (l : List Event). l ++ fs) e,
      brought_append lines ys rest fs m n more later,
    )
brought_append (line ∷ lines) ys es fs m n (inr (inl (none, more))) later =
    inr (inl (none, brought_append lines ys es fs m n more later))
brought_append (line ∷ lines) ys es fs m n (inr (inr (others, own, e, more))) later =
    inr (inr (others + n, own, omega (arith, e), brought_append lines ys es fs others n more later))

-- nothing was read
pub hands_none : (known : Option (List ℕ)) (listed : Option (List Event))
    → HandsAll known listed 0 known listed
hands_none known listed input before e f = record {
  read = [];
  rest = input;
  events = [];
  left_is = e;
  lines = refl;
  brought = (refl, refl);
  taken_is = f ∙ ap Some (sym (append-nil before));
}

-- some lines followed by others
pub hands_on : {known left left' : Option (List ℕ)} {listed taken taken' : Option
    (List Event)} {m n k : ℕ}
    → HandsAll known listed m left taken → HandsAll left taken n left' taken' → m + n ≡ k
    → HandsAll known listed k left' taken'
hands_on {left' = left'} {taken' = taken'} {m = m} {n = n} a b sum input before e f =
    let h = a input before e f in
    let i = b h.rest (before ++ h.events) h.left_is h.taken_is in
    record {
      read = h.read ++ i.read;
      rest = i.rest;
      events = h.events ++ i.events;
      left_is = i.left_is;
      lines = h.lines ∙ ap (λ (l : List (List ℕ)). h.read ++ l) i.lines
          ∙ sym (append_assoc h.read i.read (lines_in i.rest));
      brought = subst (LineEvents (h.read ++ i.read) (h.events ++ i.events)) sum
          (brought_append h.read i.read h.events i.events m n h.brought i.brought);
      taken_is = i.taken_is ∙ ap Some (append_assoc before h.events i.events);
    }

-- the console ended because there was no further line
pub ends_all : {known left : Option (List ℕ)} {listed taken taken' : Option (List Event)} {lost : ℕ}
    (end : ConsoleEnd)
    → HandsAll known listed lost left taken → ((bytes : List ℕ) → left ≡ Some bytes → lines_in bytes
    ≡ []) → taken' ≡ taken → lost_lines end ≡ lost
    → Ends known listed end taken'
ends_all end h none same lost_is input before e f =
    let i = h input before e f in
    record {
      read = i.read;
      unread = lines_in i.rest;
      events = i.events;
      lines = i.lines;
      all = λ _. none i.rest i.left_is;
      brought = subst (LineEvents i.read i.events) (sym lost_is) i.brought;
      taken_is = same ∙ i.taken_is;
    }

-- the console ended at a failed read
pub ends_some : {known left : Option (List ℕ)} {listed taken taken' : Option (List Event)}
    {lost : ℕ} (end : ConsoleEnd)
    → HandsAll known listed lost left taken → taken' ≡ taken → lost_lines end ≡ lost
    → has_failed end
    ≡ true
    → Ends known listed end taken'
ends_some end h same lost_is failed input before e f =
    let i = h input before e f in
    record {
      read = i.read;
      unread = lines_in i.rest;
      events = i.events;
      lines = i.lines;
      all = λ not. absurd (cc (failed, not));
      brought = subst (LineEvents i.read i.events) (sym lost_is) i.brought;
      taken_is = same ∙ i.taken_is;
    }
