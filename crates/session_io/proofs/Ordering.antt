-- How each step of a session extends the ordered list of its reads, writes and calls.
use Rattle.std.proofs.Common.{◌≡◌, IsErrAnd, ℕ, Option, Some, None, List, [], ◌∷◌, ◌++◌, Result, Ok, Err, refl, sym, ap, ◌∙◌, subst, append_assoc, append-nil}
use Rattle.std.specs.List.{flat_map}
use Rattle.std.specs.Io.KnownBytes.{Consumes}
use Rattle.std.proofs.KnownBytes.{Consumes-nil, Consumes-trans}
use Rattle.std.proofs.lemmas.Grind.{flat_map-append}
use Rattle.session_io.specs.Order.{Happening, reads, fails_to_read, writes, fails_to_write, calls, refuses, after_all, Passes, FailsToPass, bytes_read, replies_in, IsAnswered, IsInOrder, IsAt, ComesOn, StopsInOrder, Orders}
use Rattle.session_io.specs.Serving.{as_bytes}
use Rattle.session_io.specs.Settling.{IsSettled}
use Rattle.session_io.specs.declared.fault.ServeFault.{ServeFault}
use Rattle.session_io.specs.declared.fault.ServeFault.TheVariants as fault
use Rattle.relay_events.specs.declared.event.Event.{Event}
use Rattle.relay_events.specs.declared.reply.Reply.{Reply}
use Rattle.session_core.specs.Backwards.{Answers}
use Rattle.session_core.specs.Progress.{Owes, Feeds, Finishes, Steps, Takes, IsAwaiting}
use Rattle.session_core.specs.Remaining.{still_sends}
use Rattle.session_core.specs.declared.session.Session.{Session}

-- ---- the list

pub nothing_passed : (log : Option (List Happening)) → log ≡ after_all [] log
nothing_passed None = refl
nothing_passed (Some log) = refl

one_more : (new : List Happening) (h : Happening) (before middle after : Option (List Happening))
    → middle ≡ after_all new before → Passes middle h after → after ≡ after_all (h ∷ new) before
one_more new h None middle after passed now = now ∙ ap (after_all (h ∷ [])) passed
one_more new h (Some earlier) middle after passed now = now ∙ ap (after_all (h ∷ [])) passed

all_more : (new more : List Happening) (before middle after : Option (List Happening))
    → middle ≡ after_all new before → after ≡ after_all more middle
    → after ≡ after_all (more ++ new) before
all_more new more None middle after passed now = now ∙ ap (after_all more) passed
all_more new more (Some earlier) middle after passed now =
    now ∙ ap (after_all more) passed ∙ ap Some (sym (append_assoc more new earlier))

-- ---- a session's position in the list

module _ {written_as : List ℕ → List ℕ} {password : List ℕ} where
  -- the answers written so far are all answers, if the session sends nothing more without input and
  -- replies
  answered : {texts_of still : List ℕ → List Reply → List (List ℕ)} (happened : List Happening)
      → IsAt written_as password texts_of still happened → still [] [] ≡ []
      → IsAnswered written_as password happened
  answered {texts_of} {still} happened a quiet =
      let e : a.texts ≡ Answers password (bytes_read happened) (replies_in happened) =
      sym (append-nil a.texts) ∙ ap (λ (ts : List (List ℕ)). a.texts ++ ts) (sym quiet)
      ∙ sym (a.rest [] [])
      ∙ ap (texts_of []) (append-nil (replies_in happened)) ∙ a.so_far (replies_in happened) in
      a.wrote ∙ ap (flat_map written_as) e

  pub at_still : {texts_of still other : List ℕ → List Reply → List (List ℕ)}
      (happened : List Happening)
      → ((more : List ℕ) (replies : List Reply) → still more replies ≡ other more replies)
      → IsAt written_as password texts_of still happened
      → IsAt written_as password texts_of other happened
  at_still happened same a = record {
    texts = a.texts;
    rest = λ more later. a.rest more later
        ∙ ap (λ (ts : List (List ℕ)). a.texts ++ ts) (same more later);
    so_far = a.so_far;
    wrote = a.wrote;
    ordered = a.ordered;
    fine = a.fine;
  }

  at_wrote : {texts_of still other : List ℕ → List Reply → List (List ℕ)}
      (happened : List Happening) (text : List ℕ)
      → ((more : List ℕ) (replies : List Reply) → still more replies ≡ text ∷ other more replies)
      → IsAt written_as password texts_of still happened
      → IsAt written_as password texts_of other (writes (written_as text) ∷ happened)
  at_wrote {texts_of} {still} {other} happened text sends a = record {
    texts = a.texts ++ text ∷ [];
    rest = λ more later. a.rest more later
        ∙ ap (λ (ts : List (List ℕ)). a.texts ++ ts) (sends more later)
        ∙ sym (append_assoc a.texts (text ∷ []) (other more later));
    so_far = a.so_far;
    wrote = ap (λ (bytes : List ℕ). bytes ++ written_as text) a.wrote
        ∙ sym (flat_map-append written_as a.texts (text ∷ [])
        ∙ ap (λ (bytes : List ℕ). flat_map written_as a.texts ++ bytes)
        (append-nil (written_as text)));
    ordered = (a.fine, tt, a.ordered);
    fine = a.fine;
  }

  at_called : {texts_of still other : List ℕ → List Reply → List (List ℕ)}
      (happened : List Happening) (event : Event) (reply : Reply)
      → still [] [] ≡ []
      → ((more : List ℕ) (replies : List Reply) → still more (reply ∷ replies) ≡ other more replies)
      → IsAt written_as password texts_of still happened
      → IsAt written_as password texts_of other (calls event reply ∷ happened)
  at_called {texts_of} {still} {other} happened event reply quiet takes a = record {
    texts = a.texts;
    rest = λ more later. ap (texts_of more) (append_assoc (replies_in happened) (reply ∷ []) later)
        ∙ a.rest more (reply ∷ later)
        ∙ ap (λ (ts : List (List ℕ)). a.texts ++ ts) (takes more later);
    so_far = a.so_far;
    wrote = a.wrote;
    ordered = (a.fine, answered happened a quiet, a.ordered);
    fine = a.fine;
  }

  -- ---- one step further

  pub comes_new : {texts_of still : List ℕ → List Reply → List (List ℕ)} (happened : List Happening)
      (log : Option (List Happening))
      → IsAt written_as password texts_of still happened
      → ComesOn written_as password texts_of still happened log log
  comes_new happened log a = record
      { new = []; passed = nothing_passed log; unread = refl; is_at = a }

  pub comes_still : {texts_of still other : List ℕ → List Reply → List (List ℕ)}
      (happened : List Happening) (before after : Option (List Happening))
      → ((more : List ℕ) (replies : List Reply) → still more replies ≡ other more replies)
      → ComesOn written_as password texts_of still happened before after
      → ComesOn written_as password texts_of other happened before after
  comes_still happened before after same way = record {
    new = way.new;
    passed = way.passed;
    unread = way.unread;
    is_at = at_still (way.new ++ happened) same way.is_at;
  }

  pub comes_sent : {texts_of : List ℕ → List Reply → List (List ℕ)} (happened : List Happening)
      (before middle after : Option (List Happening))
      (old new : Session) (text : List ℕ)
      → ComesOn written_as password texts_of (still_sends old) happened before middle
      → Steps old [] (text ∷ []) new → Passes middle (writes (written_as text)) after
      → ComesOn written_as password texts_of (still_sends new) happened before after
  comes_sent happened before middle after old new text way st passed = record {
    new = writes (written_as text) ∷ way.new;
    passed = one_more way.new (writes (written_as text)) before middle after way.passed passed;
    unread = way.unread;
    is_at = at_wrote (way.new ++ happened) text st.sends way.is_at;
  }

  pub comes_asked : {texts_of : List ℕ → List Reply → List (List ℕ)} (happened : List Happening)
      (before middle after : Option (List Happening))
      (old asking new : Session) (event : Event) (reply : Reply)
      → ComesOn written_as password texts_of (still_sends old) happened before middle
      → Steps old (event ∷ []) [] asking → IsAwaiting asking
      → Passes middle (calls event reply) after
      → Takes asking reply new
      → ComesOn written_as password texts_of (still_sends new) happened before after
  comes_asked happened before middle after old asking new event reply way st awaits passed takes =
      record {
        new = calls event reply ∷ way.new;
        passed = one_more way.new (calls event reply) before middle after way.passed passed;
        unread = way.unread;
        is_at = at_called (way.new ++ happened) event reply (st.sends [] [] ∙ awaits.sends [])
            (λ more replies. st.sends more (reply ∷ replies) ∙ sym (takes.sends more replies))
            way.is_at;
      }

  -- ---- errors

  pub stops_here : {texts_of still : List ℕ → List Reply → List (List ℕ)}
      (happened : List Happening) (before after : Option (List Happening))
      → ComesOn written_as password texts_of still happened before after
      → StopsInOrder written_as password happened before after
  stops_here happened before after way = record {
    new = way.new;
    passed = way.passed;
    unread = way.unread;
    ordered = way.is_at.ordered;
  }

  -- the answer to a reply was not made
  pub stops_asked : {texts_of : List ℕ → List Reply → List (List ℕ)} (happened : List Happening)
      (before middle after : Option (List Happening))
      (old asking : Session) (event : Event) (reply : Reply)
      → ComesOn written_as password texts_of (still_sends old) happened before middle
      → Steps old (event ∷ []) [] asking → IsAwaiting asking
      → Passes middle (calls event reply) after
      → StopsInOrder written_as password happened before after
  stops_asked happened before middle after old asking event reply way st awaits passed = record {
    new = calls event reply ∷ way.new;
    passed = one_more way.new (calls event reply) before middle after way.passed passed;
    unread = way.unread;
    ordered = (
      way.is_at.fine,
      answered (way.new ++ happened) way.is_at
          (st.sends [] [] ∙ awaits.sends []),
      way.is_at.ordered,
    );
  }

  -- the meter refused an event
  pub stops_refused : {texts_of : List ℕ → List Reply → List (List ℕ)} (happened : List Happening)
      (before middle after : Option (List Happening))
      (old asking : Session) (event : Event)
      → ComesOn written_as password texts_of (still_sends old) happened before middle
      → Steps old (event ∷ []) [] asking → IsAwaiting asking → Passes middle (refuses event) after
      → StopsInOrder written_as password happened before after
  stops_refused happened before middle after old asking event way st awaits passed = record {
    new = refuses event ∷ way.new;
    passed = one_more way.new (refuses event) before middle after way.passed passed;
    unread = way.unread;
    ordered = (
      way.is_at.fine,
      answered (way.new ++ happened) way.is_at
          (st.sends [] [] ∙ awaits.sends []),
      way.is_at.ordered,
    );
  }

  -- a frame was not written
  pub stops_unsent : {texts_of still : List ℕ → List Reply → List (List ℕ)}
      (happened : List Happening) (before middle after : Option (List Happening))
      (f : ServeFault)
      → ComesOn written_as password texts_of still happened before middle
      → FailsToPass middle f after
      → StopsInOrder written_as password happened before after
  stops_unsent happened before middle after fault.Read way passed = absurd passed
  stops_unsent happened before middle after fault.Write way passed = record {
    new = fails_to_write ∷ way.new;
    passed = one_more way.new fails_to_write before middle after way.passed passed;
    unread = way.unread;
    ordered = (way.is_at.fine, tt, way.is_at.ordered);
  }
  stops_unsent happened before middle after fault.Memory way passed = record {
    new = way.new;
    passed = passed ∙ way.passed;
    unread = way.unread;
    ordered = way.is_at.ordered;
  }
  stops_unsent happened before middle after fault.Exhausted way passed = absurd passed
  stops_unsent happened before middle after fault.Listen way passed = absurd passed
  stops_unsent happened before middle after fault.Journal way passed = absurd passed

  -- a claim about each fault, for a result that is a fault
  pub orders_stop : {X : Type 0} (P : ServeFault → Type 0)
      (texts_of still : List ℕ → List Reply → List (List ℕ)) (happened : List Happening)
      (before after : Option (List Happening))
      (result : Result X ServeFault) → IsErrAnd result P
      → StopsInOrder written_as password happened before after
      → Orders written_as password texts_of still happened before result after
  orders_stop P texts_of still happened before after (Ok x) is stop = absurd is
  orders_stop P texts_of still happened before after (Err f) is stop = stop

  -- ---- the input

  -- bytes that were read are taken in
  pub at_fed : {texts_of : List ℕ → List Reply → List (List ℕ)} (happened : List Happening)
      (old new : Session) (bytes : List ℕ)
      → Feeds old bytes new
      → IsAt written_as password texts_of (λ more. still_sends old (bytes ++ more)) happened
      → IsAt written_as password texts_of (still_sends new) happened
  at_fed happened old new bytes fed a = at_still happened
      (λ more replies. sym (fed.sends more replies)) a

  -- the input ended
  pub at_finished : {texts_of : List ℕ → List Reply → List (List ℕ)} (happened : List Happening)
      (old new : Session)
      → Finishes old new
      → IsAt written_as password texts_of (still_sends old) happened
      → IsAt written_as password (λ more. texts_of []) (still_sends new) happened
  at_finished happened old new finished a = record {
    texts = a.texts;
    rest = λ more later. a.rest [] later
        ∙ ap (λ (ts : List (List ℕ)). a.texts ++ ts) (sym (finished.sends more later));
    so_far = a.so_far;
    wrote = a.wrote;
    ordered = a.ordered;
    fine = a.fine;
  }

  -- a claim about a result that is not a fault
  pub orders_end : {X : Type 0} (texts_of still : List ℕ → List Reply → List (List ℕ))
      (happened : List Happening) (before after : Option (List Happening))
      (result : Result X ServeFault)
      → Orders written_as password texts_of still happened before result after
      → StopsInOrder written_as password happened before after
  orders_end texts_of still happened before after (Ok x) way = stops_here happened before after way
  orders_end texts_of still happened before after (Err f) stop = stop

-- ---- reads

-- the texts for the bytes that were read, followed by more
abbrev pub texts_after : List ℕ → List Happening → List ℕ → List Reply → List (List ℕ)
texts_after password happened more = Answers password (bytes_read happened ++ more)

-- A session that has done all the list says, and waits for input.
pub record Waits (password : List ℕ) (s : Session) (before after : Option (List Happening))
    (left left' : Option (List ℕ)) : Type 0 where
  pub happened : List Happening
  pub passed : after ≡ after_all happened before
  pub read : Consumes left left' (bytes_read happened)
  pub is_at : IsAt as_bytes password (texts_after password happened) (still_sends s) happened

-- These bytes were read, and the session has not yet taken them in.
pub record HasRead (password : List ℕ) (s : Session) (bytes : List ℕ)
    (before after : Option (List Happening))
    (left left' : Option (List ℕ)) : Type 0 where
  pub happened : List Happening
  pub passed : after ≡ after_all happened before
  pub read : Consumes left left' (bytes_read happened)
  pub is_at : IsAt as_bytes password (texts_after password happened)
      (λ more. still_sends s (bytes ++ more)) happened

module _ (password : List ℕ) where
  pub waits_new : (s : Session) (log : Option (List Happening)) (left : Option (List ℕ))
      → Owes password s → Waits password s log log left left
  waits_new s log left owes = record {
    happened = [];
    passed = nothing_passed log;
    read = Consumes-nil left;
    is_at = record {
      texts = [];
      rest = λ more later. sym (owes.sends more later);
      so_far = λ replies. refl;
      wrote = refl;
      ordered = tt;
      fine = refl;
    };
  }

  pub has_read : (s : Session) (bytes : List ℕ) (before middle after : Option (List Happening))
      (left left' left'' : Option (List ℕ))
      → Waits password s before middle left left' → IsSettled s
      → Consumes left' left'' bytes → Passes middle (reads bytes) after
      → HasRead password s bytes before after left left''
  has_read s bytes before middle after left left' left'' w settled consumed passed = record {
    happened = reads bytes ∷ w.happened;
    passed = one_more w.happened (reads bytes) before middle after w.passed passed;
    read = Consumes-trans left left' left'' (bytes_read w.happened) bytes w.read consumed;
    is_at = record {
      texts = w.is_at.texts;
      rest = λ more later. ap (λ (input : List ℕ). Answers password input
          (replies_in w.happened ++ later)) (append_assoc (bytes_read w.happened) bytes more)
          ∙ w.is_at.rest (bytes ++ more) later;
      so_far = λ replies. ap (λ (input : List ℕ). Answers password input replies)
          (append-nil (bytes_read w.happened ++ bytes));
      wrote = w.is_at.wrote;
      ordered = (w.is_at.fine, answered w.happened w.is_at (settled.sends []), w.is_at.ordered);
      fine = w.is_at.fine;
    };
  }

  -- the session took the bytes in
  pub waits_next : (s new : Session) (bytes : List ℕ)
      (before middle after : Option (List Happening)) (left left' : Option (List ℕ))
      → (r : HasRead password s bytes before middle left left')
      → ComesOn as_bytes password (texts_after password r.happened) (still_sends new) r.happened
      middle after
      → Waits password new before after left left'
  waits_next s new bytes before middle after left left' r way = record {
    happened = way.new ++ r.happened;
    passed = all_more r.happened way.new before middle after r.passed way.passed;
    read = subst (Consumes left left') (sym way.unread) r.read;
    is_at = subst (λ (input : List ℕ). IsAt as_bytes password
        (λ more. Answers password (input ++ more)) (still_sends new) (way.new ++ r.happened))
        (sym way.unread) way.is_at;
  }

  -- the end of the input
  pub at_end : (s : Session) (bytes : List ℕ) (before after : Option (List Happening))
      (left left' : Option (List ℕ)) → bytes ≡ []
      → (r : HasRead password s bytes before after left left')
      → IsAt as_bytes password (texts_after password r.happened) (still_sends s) r.happened
  at_end s bytes before after left left' none r =
      at_still r.happened (λ more replies. ap (λ (b : List ℕ). still_sends s (b ++ more) replies)
      none) r.is_at

  -- ---- a whole session

  pub in_order_none : (log : Option (List Happening)) (left : Option (List ℕ))
      → IsInOrder as_bytes password log log left left
  in_order_none log left = record
      { happened = []; passed = nothing_passed log; ordered = tt; read = Consumes-nil left }

  pub in_order_unread : (s : Session) (before middle after : Option (List Happening))
      (left left' left'' : Option (List ℕ))
      → Waits password s before middle left left' → IsSettled s
      → Consumes left' left'' [] → Passes middle fails_to_read after
      → IsInOrder as_bytes password before after left left''
  in_order_unread s before middle after left left' left'' w settled consumed passed = record {
    happened = fails_to_read ∷ w.happened;
    passed = one_more w.happened fails_to_read before middle after w.passed passed;
    ordered = (w.is_at.fine, answered w.happened w.is_at (settled.sends []), w.is_at.ordered);
    read = subst (Consumes left left'') (append-nil (bytes_read w.happened))
        (Consumes-trans left left' left'' (bytes_read w.happened) [] w.read consumed);
  }

  pub in_order_waiting : (s : Session) (before after : Option (List Happening))
      (left left' : Option (List ℕ))
      → Waits password s before after left left'
      → IsInOrder as_bytes password before after left left'
  in_order_waiting s before after left left' w = record {
    happened = w.happened;
    passed = w.passed;
    ordered = w.is_at.ordered;
    read = w.read;
  }

  pub in_order_stop : (s : Session) (bytes : List ℕ) (before middle after : Option (List Happening))
      (left left' : Option (List ℕ))
      → (r : HasRead password s bytes before middle left left')
      → StopsInOrder as_bytes password r.happened middle after
      → IsInOrder as_bytes password before after left left'
  in_order_stop s bytes before middle after left left' r stop = record {
    happened = stop.new ++ r.happened;
    passed = all_more r.happened stop.new before middle after r.passed stop.passed;
    ordered = stop.ordered;
    read = subst (Consumes left left') (sym stop.unread) r.read;
  }
