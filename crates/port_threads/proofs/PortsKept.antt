-- Opening and closing sessions loses no port.
use Rattle.std.proofs.Common.{◌≡◌, ◌≢◌, ◌⊎◌, ℕ, ◌<◌, ◌≤◌, List, [], Option, Some, None, IfSome, sym, ◌∙◌, ap, subst, inl, inr, ⊎_elim, arith}
use Rattle.std.proofs.lemmas.Bool.{cases_eq}
use Rattle.slab.specs.Slab.{Slab, get, Updates}
use Rattle.turn_lock.specs.declared.turned.Entry.{Entry}
use Rattle.turn_lock.specs.Calls.{Joins, parent_after_split, child_after_split}
use Rattle.turn_lock.specs.History.{calls_by}
use Rattle.turn_lock.specs.Shown.{ShownPort, IsSame}
use Rattle.port_threads.specs.Ports.{PortContinues, AreJoined, AreServed, Returns, child}
use Rattle.port_threads.specs.Sessions.{IsEmpty, AreHeld, IsOpen, IsEnded, KeepsPorts}
use Rattle.port_threads.proofs.Going.{as_joined, leaf_among, leaf_at, goes_refl, goes_trans}
use Rattle.port_threads.proofs.Going.{goes_split, goes_joins}
use Rattle.port_threads.proofs.Going.{starts_trans}

-- a port that was returned is the one that was lent
pub returned_same : {E R O : Type 0} (did : ShownPort E R O → ShownPort E R O → Type 0)
    (p q : ShownPort E R O)
    → ((r s : ShownPort E R O) → did r s → IsSame r s) → Returns did p q → IsSame p q
returned_same did p q same (inl e) =
    record {
      lock = ap (λ r. r.lock) e;
      bound = ap (λ r. r.bound) e;
      origin = ap (λ r. r.known.origin) e;
      number = ap (λ r. r.known.number) e;
      splits =
          ap (λ r. r.known.splits) e;
      joined = ap (λ r. r.known.joined) e;
    }
returned_same did p q same (inr done) = same p q done

-- a property of the connection that was given
pub if_given : {C : Type 0} (P : C → Type 0) (next : Option C) (given : C) → next ≡ Some given
    → IfSome next P → P given
if_given {C = C} P next given is so = let Q : Option C → Type 0 = λ o. IfSome o P in subst Q is so

module _ {H E R O : Type 0} (port_of : H → ShownPort E R O) (terms_of : H → List ℕ)
    (did : List ℕ → ShownPort E R O → ShownPort E R O → Type 0) (terms : List ℕ) where
  abbrev Ends : ShownPort E R O → List ℕ → Type 0
  Ends = IsEnded port_of terms_of did terms

  abbrev Opens : Slab H → List ℕ → Type 0
  Opens = IsOpen port_of terms_of did terms

  abbrev Goes : ShownPort E R O → Slab H → ShownPort E R O → Slab H → Type 0
  Goes = KeepsPorts port_of terms_of did terms

  pub keeps_refl : (p : ShownPort E R O) (held : Slab H)
      → KeepsPorts port_of terms_of did terms p held p held
  keeps_refl p held = record { goes = goes_refl p; holds = λ h. h; accounts = λ from a. a }

  pub keeps_trans : (p : ShownPort E R O) (held : Slab H) (q : ShownPort E R O) (later : Slab H)
      (r : ShownPort E R O) (last : Slab H)
      → KeepsPorts port_of terms_of did terms p held q later
      → KeepsPorts port_of terms_of did terms q later r last
      → KeepsPorts port_of terms_of did terms p held r last
  keeps_trans p held q later r last s t =
      record {
        goes = goes_trans p q r s.goes t.goes;
        holds = λ h. t.holds (s.holds h);
        accounts = λ from a. t.accounts from (s.accounts from a);
      }

  -- no port is lost also on equal terms
  pub keeps_by : (other : List ℕ) (p : ShownPort E R O) (held : Slab H) (q : ShownPort E R O)
      (later : Slab H) → terms ≡ other
      → KeepsPorts port_of terms_of did terms p held q later
      → KeepsPorts port_of terms_of did other p held q later
  keeps_by other p held q later same keeps_ports =
      let T : List ℕ → Type 0 = λ t. KeepsPorts port_of terms_of did t p held q later in
      subst T same keeps_ports

  -- the slab's values after a removal were there before
  held_before : (held later : Slab H) (key other : ℕ) (s : H) → Updates held later key None
      → get later other ≡ Some s → get held other ≡ Some s
  held_before held later key other s updates found =
      elim (cases_eq other key) [
        | inl same ↦ let vacant : get later other ≡ None =
            ap (get later) same ∙ updates.changed in absurd (cc)
        | inr differs ↦ sym (updates.others other differs) ∙ found
      ]

  -- the session at a place has the port with this number
  pub record IsThis (s : H) (number : List ℕ) : Type 0 where
    pub named : (port_of s).known.number ≡ number
    pub fresh : calls_by number (port_of s).known.seen ≡ []
    pub unsplit : (port_of s).known.splits ≡ 0
    pub on_terms : terms_of s ≡ terms

  -- an open session remains open if another place is cleared; otherwise it is the session that was
  -- there
  open_later : (held later : Slab H) (key : ℕ) (s : H) (number : List ℕ) → get held key ≡ Some s
      → Updates held later key None → Opens held number → IsThis s number ⊎ Opens later number
  open_later held later key s number there updates o =
      elim (cases_eq o.key key) [
        | inl same ↦
            let found : Some o.session ≡ Some s = sym o.there ∙ ap (get held) same ∙ there in
            let equal : o.session ≡ s = cc in
            let P : H → Type 0 = λ h. IsThis h number in
            inl (subst P equal record {
              named = o.named;
              fresh = o.fresh;
              unsplit = o.unsplit;
              on_terms = o.on_terms;
            })
        | inr differs ↦ inr record {
          key = o.key;
          session = o.session;
          there = updates.others o.key differs ∙ o.there;
          named = o.named;
          fresh =
              o.fresh;
          unsplit = o.unsplit;
          on_terms = o.on_terms;
        }
      ]

  -- a session that has ended remains ended
  ended_on : (p q : ShownPort E R O) (number : List ℕ) → PortContinues p q → Ends p number
      → Ends q number
  ended_on p q number goes e = record {
    among = goes.leaves number e.among;
    served =
        let c = e.served in
        record {
          lent = c.lent;
          back = c.back;
          named = c.named;
          fresh = c.fresh;
          returned = c.returned;
          seen = starts_trans c.back.known.seen p.known.seen q.known.seen c.seen goes.seen;
          calls_are = goes.own number (inr (leaf_among number p.known.joined e.among))
              ∙ c.calls_are;
        };
  }

  -- the port of a session was joined in
  ended_now : (legal : O → List (Entry E R) → Type 0) (p q lent r : ShownPort E R O)
      (number : List ℕ) → Joins legal p.known r.known q.known → lent.known.number ≡ number
      → calls_by number lent.known.seen ≡ [] → r.known.number ≡ number → r.known.splits ≡ 0
      → Returns (did terms) lent r → Ends q number
  ended_now legal p q lent r number joins named fresh same unsplit returned = record {
    among = rw joins.joined (leaf_at (as_joined r.known) same unsplit p.known.joined
        r.known.joined);
    served = record {
      lent = lent;
      back = r;
      named = named;
      fresh = fresh;
      returned = returned;
      seen = joins.other_seen;
      calls_are = joins.other_calls number (inl (sym same));
    };
  }

  -- the session at this place ended, and its port was joined in
  pub keeps_close : (legal : O → List (Entry E R) → Type 0) (p q : ShownPort E R O)
      (held later : Slab H) (key : ℕ) (s : H) (r : ShownPort E R O) → get held key ≡ Some s
      → Updates held later key None → later.capacity ≡ held.capacity
      → Returns (did (terms_of s)) (port_of s) r → IsSame (port_of s) r → q.lock ≡ p.lock → q.bound
      ≡ p.bound → Joins legal p.known r.known q.known
      → KeepsPorts port_of terms_of did terms p held q later
  keeps_close legal p q held later key s r there updates capacity returned same lock bound joins =
      let goes = goes_joins legal p q r.known lock bound joins in
      let R : List ℕ → Type 0 = λ t. Returns (did t) (port_of s) r in
      record {
        goes = goes;
        holds = λ h. record {
          room = omega (arith, h.room, capacity);
          places = λ other session found. h.places other session
              (held_before held later key other session updates found);
          locks = λ other session found. h.locks other session
              (held_before held later key other session updates found) ∙ sym lock;
        };
        accounts = λ from a i low high.
            let before : i < p.known.splits = omega (arith, joins.sees.splits, high) in
            let number = child p.known.number i in
            let A : List ℕ → Type 0 = λ n. Ends q (child n i) ⊎ Opens later (child n i) in
            let account : A p.known.number = ⊎_elim (λ e. inl (ended_on p q number goes e))
            (λ o. ⊎_elim (λ now. inl (ended_now legal p q (port_of s) r number joins now.named
            now.fresh (same.number ∙ now.named) (same.splits ∙ now.unsplit)
            (subst R now.on_terms returned)))
            (λ still. inr still) (open_later held later key s number there updates o))
            (a i low before) in
            subst A (sym joins.sees.number) account;
      }

  -- a port was split off, and a session opened with it
  pub keeps_open : (p q : ShownPort E R O) (held later : Slab H) (key : ℕ) (s : H)
      (own : ShownPort E R O) → q.lock ≡ p.lock → q.bound ≡ p.bound → q.known
      ≡ parent_after_split p.known → port_of s ≡ own → own.lock ≡ p.lock → own.known
      ≡ child_after_split p.known
      → calls_by own.known.number own.known.seen ≡ [] → terms_of s ≡ terms
      → get held key ≡ None → key < 8 → Updates held later key (Some s) → later.capacity
      ≡ held.capacity → KeepsPorts port_of terms_of did terms p held q later
  keeps_open p q held later key s own lock bound divides is lent birth fresh on_terms vacant
      within updates capacity =
      let came_from : (other : ℕ) (t : H) → get later other ≡ Some t → ((other ≡ key) × (t ≡ s))
      ⊎ (get held other ≡ Some t) = λ other t found.
      elim (cases_eq other key) [
        | inl same ↦ let both : Some t ≡ Some s = sym found ∙ ap (get later) same
            ∙ updates.changed in inl (same, cc)
        | inr differs ↦ inr (sym (updates.others other differs) ∙ found)
      ]
      in
      let goes = goes_split p q lock bound divides in
      let numbered : own.known.number ≡ child p.known.number p.known.splits =
      ap (λ k. k.number) birth in
      let K : List ℕ → Type 0 = λ n. calls_by n own.known.seen ≡ [] in
      let F : ShownPort E R O → Type 0 = λ x. (x.known.number ≡ child p.known.number p.known.splits)
      × (calls_by (child p.known.number p.known.splits) x.known.seen ≡ [])
      × (x.known.splits ≡ 0) in
      let new : F (port_of s) = subst F (sym is)
      (numbered, subst K numbered fresh, ap (λ k. k.splits) birth) in
      record {
        goes = goes;
        holds = λ h. record {
          room = omega (arith, h.room, capacity);
          places = λ other t found. elim (came_from other t found) [
            | inl new ↦ omega (
              arith,
              new.0,
              within,
            )
            | inr old ↦ h.places other t old
          ];
          locks = λ other t found. elim (came_from other t found) [
            | inl new ↦ ap (λ x. (port_of x).lock) new.1 ∙ ap (λ x. x.lock) is ∙ lent
                ∙ sym lock
            | inr old ↦ h.locks other t old ∙ sym lock
          ];
        };
        accounts = λ from a i low high.
            let one_more = ap (λ k. k.splits) divides in
            let A : List ℕ → Type 0 = λ n. Ends q (child n i) ⊎ Opens later (child n i) in
            let N : ℕ → Type 0 = λ k. Opens later (child p.known.number k) in
            let account : A p.known.number = elim (cases_eq i p.known.splits) [
              | inl last ↦ inr (subst N (sym last) record {
                key = key;
                session = s;
                there = updates.changed;
                named = new.0;
                fresh = new.1;
                unsplit = new.2;
                on_terms = on_terms;
              })
              | inr earlier ↦
                  elim (a i low (omega (arith, one_more, high, earlier))) [
                    | inl ended ↦ inl (ended_on p q (child p.known.number i) goes ended)
                    | inr o ↦
                        let elsewhere : o.key ≢ key = λ same. let none : get held o.key ≡ None =
                        ap (get held) same ∙ vacant in let some = o.there in cc in
                        inr record {
                          key = o.key;
                          session = o.session;
                          there = updates.others o.key elsewhere ∙ o.there;
                          named =
                              o.named;
                          fresh = o.fresh;
                          unsplit = o.unsplit;
                          on_terms = o.on_terms;
                        }
                  ]
            ] in
            subst A (sym (ap (λ k. k.number) divides)) account;
      }

  -- a port was split off, no thread could be started for it, and it was joined in again
  pub keeps_back : (legal : O → List (Entry E R) → Type 0) (p q r own back : ShownPort E R O)
      (held : Slab H) → q.lock ≡ p.lock → q.bound ≡ p.bound → q.known ≡ parent_after_split p.known
      → own.known ≡ child_after_split p.known
      → calls_by own.known.number own.known.seen ≡ [] → Returns (did terms) own back
      → IsSame own back → r.lock ≡ q.lock → r.bound ≡ q.bound
      → Joins legal q.known back.known r.known → KeepsPorts port_of terms_of did terms p held r held
  keeps_back legal p q r own back held lock bound divides birth fresh returned same relock rebound
      joins =
      let splits = goes_split p q lock bound divides in
      let rejoins = goes_joins legal q r back.known relock rebound joins in
      let goes = goes_trans p q r splits rejoins in
      let numbered : own.known.number ≡ child p.known.number p.known.splits =
      ap (λ k. k.number) birth in
      let K : List ℕ → Type 0 = λ n. calls_by n own.known.seen ≡ [] in
      record {
        goes = goes;
        holds = λ h. record {
          room = h.room;
          places = h.places;
          locks = λ key s found. h.locks key s found ∙ sym (relock ∙ lock);
        };
        accounts = λ from a i low high.
            let one_more = ap (λ k. k.splits) divides in
            let A : List ℕ → Type 0 = λ n. Ends r (child n i) ⊎ Opens held (child n i) in
            let N : ℕ → Type 0 = λ k. Ends r (child p.known.number k) in
            let account : A p.known.number = elim (cases_eq i p.known.splits) [
              | inl last ↦ inl (subst N (sym last)
                  (ended_now legal q r own back (child p.known.number p.known.splits) joins numbered
                  (subst K numbered fresh) (same.number ∙ numbered)
                  (same.splits ∙ ap (λ k. k.splits) birth) returned))
              | inr earlier ↦
                  elim (a i low (omega (arith, one_more, joins.sees.splits, high, earlier))) [
                    | inl ended ↦ inl (ended_on p r (child p.known.number i) goes ended)
                    | inr o ↦ inr o
                  ]
            ] in
            subst A (sym (joins.sees.number ∙ ap (λ k. k.number) divides)) account;
      }

  pub held_none : (p : ShownPort E R O) (held : Slab H) → IsEmpty held → AreHeld port_of p held
  held_none p held empty =
      record {
        room = empty.room;
        places = λ key s found. let none = empty.none key in absurd (cc);
        locks = λ key s found. let none = empty.none key in absurd (cc);
      }

  -- nothing happened
  pub keeps_same : (p q : ShownPort E R O) (held later : Slab H) → q.lock ≡ p.lock → q.bound
      ≡ p.bound → q.known ≡ p.known → later ≡ held → KeepsPorts port_of terms_of did terms p held q
      later
  keeps_same p q held later lock bound known same =
      let port : q ≡ p = λ i. record { lock = lock i; bound = bound i; known = known i } in
      let P : ShownPort E R O → Type 0 = λ x. KeepsPorts port_of terms_of did terms p held x later
      in
      let Q : Slab H → Type 0 = λ x. KeepsPorts port_of terms_of did terms p held p x in
      subst P (sym port) (subst Q (sym same) (keeps_refl p held))

  -- if no session is open, each port that was split off since has ended
  pub ended_all : (p q : ShownPort E R O) (held later : Slab H) → IsEmpty held
      → KeepsPorts port_of terms_of did terms p held q later
      → ((key : ℕ) → key < 8 → get later key ≡ None)
      → (i : ℕ) → p.known.splits ≤ i → i < q.known.splits → Ends q (child q.known.number i)
  ended_all p q held later empty keeps_ports closed i low high =
      let at_first : AreHeld port_of p held = held_none p held empty in
      let at_last : AreHeld port_of q later = keeps_ports.holds at_first in
      elim (keeps_ports.accounts p.known.splits (λ j from below. absurd (omega arith)) i low high) [
        | inl ended ↦ ended
        | inr o ↦ let none : get later o.key ≡ None = closed o.key
            (at_last.places o.key o.session o.there) in let some = o.there in absurd (cc)
      ]

  pub joined_all : (p q : ShownPort E R O) (held later : Slab H) → IsEmpty held
      → KeepsPorts port_of terms_of did terms p held q later
      → ((key : ℕ) → key < 8 → get later key ≡ None) → AreJoined p.known.splits q
  joined_all p q held later empty keeps_ports closed i low high =
      (ended_all p q held later empty keeps_ports closed i low high).among

  pub served_all : (p q : ShownPort E R O) (held later : Slab H) → IsEmpty held
      → KeepsPorts port_of terms_of did terms p held q later
      → ((key : ℕ) → key < 8 → get later key ≡ None) → AreServed (did terms) p.known.splits q
  served_all p q held later empty keeps_ports closed i low high =
      (ended_all p q held later empty keeps_ports closed i low high).served
