-- Calls on a raw file, one after another: writes at its end, reads, a cut, a sync.
use Rattle.std.proofs.Common.{◌≡◌, inl, inr, ⊎_elim, ℕ, ◌<◌, ◌≤◌, List, [], ◌∷◌, ◌++◌}
use Rattle.std.proofs.Common.{length, take, drop, refl, sym, ◌∙◌, ap, subst, arith, append_assoc}
use Rattle.std.proofs.Common.{append-nil, length-append, take-append-drop}
use Rattle.std.proofs.Math.Seq.{drop-append_seam}
use Rattle.std.proofs.lemmas.List.{nil_from_length}
use Rattle.durable_lines.specs.CrashModel.{Follows, IsTorn, Narrows, HasOneOutcome}
use Rattle.durable_lines.specs.CrashModel.{TornAppend, TornCut}
use Rattle.durable_lines.specs.FileState.{State, synced_with, IsLeft, after_append}
use Rattle.durable_lines.specs.RawFile.{CutsOrStays, HasFront, LeftNow, ReadsPiece}
use Rattle.durable_lines.specs.RawModel.{RawModel, AppendsFront, CallsRaw}
use Rattle.durable_lines.proofs.StateLemmas.{append_follows, cut_follows, only_synced, uncut}

-- what an append leaves, a longer one may leave
torn_more : (bytes more left : List ℕ) → IsTorn bytes left → IsTorn (bytes ++ more) left
torn_more bytes more [] torn = tt
torn_more [] more (l ∷ left) torn = absurd torn
torn_more (byte ∷ bytes) more (l ∷ left) torn = (torn.0, torn_more bytes more left torn.1)

-- what a crash leaves before an append, one after it may leave
left_appended : (bytes : List ℕ) (s : State) (c : List ℕ) → IsLeft s c
    → IsLeft (after_append bytes s) c
left_appended bytes s c (inl cut) = inl cut
left_appended bytes s c (inr torn) = inr (torn.0, torn_more s.added bytes torn.0 torn.1, torn.2)

-- two appends are one of both
pub appended_twice : (first second : List ℕ) (s : State)
    → after_append second (after_append first s) ≡ after_append (first ++ second) s
appended_twice first second s =
    ap (λ (added : List ℕ). record { synced = s.synced; kept = s.kept; added = added })
    (append_assoc s.added first second)

-- an append of nothing
pub appended_none : (s : State) → s ≡ after_append [] s
appended_none s =
    ap (λ (added : List ℕ). record { synced = s.synced; kept = s.kept; added = added })
    (sym (append-nil s.added))

-- a write has appended the first of its bytes, to a file that was as before
pub front_written : (count : ℕ) (bytes : List ℕ) (s0 s1 s2 : State)
    → s2 ≡ after_append (take count bytes) s1 → s1 ≡ s0 → HasFront bytes s0 s2
front_written count bytes s0 s1 s2 wrote same = (
  take count bytes,
  drop count bytes,
  sym (take-append-drop count bytes),
  wrote ∙ ap (after_append (take count bytes)) same,
)

-- a front of the rest of some bytes, after the first of them
front_on : (first rest : List ℕ) (s0 s1 s2 : State) (bytes : List ℕ) → bytes ≡ first ++ rest
    → s1 ≡ after_append first s0 → HasFront rest s1 s2 → HasFront bytes s0 s2
front_on first rest s0 s1 s2 bytes split was f = (
  first ++ f.0,
  f.1,
  split ∙ ap (λ (bs : List ℕ). first ++ bs) f.2 ∙ sym (append_assoc first f.0 f.1),
  f.3 ∙ ap (after_append f.0) was ∙ appended_twice first f.0 s0,
)

module _ {R : Type 0} (model : RawModel R) where
  -- two calls, the second of which appends
  pub then_append : (old mid new : R) (first last fails : Type 0) (bytes : List ℕ)
      → CallsRaw model old mid first → CallsRaw model mid new last
      → AppendsFront model bytes mid new → (fails → last) → CallsRaw model old new fails
  then_append old mid new first last fails bytes one two front ends =
      let low : model.moment old ≤ model.moment mid = one.time.later in
      record {
        time = record {
          later = omega (arith, one.time.later, two.time.later);
          nothing_else = λ t c le since.
              ⊎_elim
              (λ had. ⊎_elim (λ was. inl was)
              (λ now. inr (
                now.0,
                (let f = front now.0 in
                    subst (λ (s : State). IsLeft s c) (sym f.3)
                    (left_appended f.0 (model.state mid) c now.1)),
              ))
              (one.time.nothing_else t c le had))
              (λ now. inr now)
              (two.time.nothing_else t c (omega (arith, le, low)) since);
          keeps = λ t c le was.
              two.time.keeps t c (omega (arith, le, low)) (one.time.keeps t c le was);
        };
        identity = two.identity ∙ one.identity;
        failed = λ fail. two.failed (ends fail);
        remains_failed = λ was. two.remains_failed (one.remains_failed was);
      }

  -- two calls, the second of which changes no bytes
  pub then_same : (old mid new : R) (first last fails : Type 0) → CallsRaw model old mid first
      → CallsRaw model mid new last → model.state new ≡ model.state mid → (fails → last)
      → CallsRaw model old new fails
  then_same old mid new first last fails one two same ends =
      then_append old mid new first last fails [] one two
      (λ a. ([], [], refl, same ∙ appended_none (model.state mid))) ends

  -- calls none of which has failed, as far as this says
  pub calls_none : (old new : R) (fails : Type 0) → CallsRaw model old new fails
      → CallsRaw model old new ⊥
  calls_none old new fails calls = record {
    time = calls.time;
    identity = calls.identity;
    failed = λ none. absurd none;
    remains_failed = calls.remains_failed;
  }

  -- The writes so far: a raw file was given the bytes before the rest.
  pub record WritesTo (old now : R) (bytes rest : List ℕ) : Type 0 where
    pub front : List ℕ
    pub split : bytes ≡ front ++ rest
    pub state : model.acts → model.state now ≡ after_append front (model.state old)
    pub calls : CallsRaw model old now ⊥

  -- a write has taken the first bytes of the rest
  pub writes_more : (old mid new : R) (last : Type 0) (bytes rest : List ℕ) (count : ℕ)
      → WritesTo old mid bytes rest
      → (model.acts → model.state new ≡ after_append (take count rest) (model.state mid))
      → CallsRaw model mid new last → WritesTo old new bytes (drop count rest)
  writes_more old mid new last bytes rest count so wrote calls = record {
    front = so.front ++ take count rest;
    split = so.split
        ∙ ap (λ (bs : List ℕ). so.front ++ bs) (sym (take-append-drop count rest))
        ∙ sym (append_assoc so.front (take count rest) (drop count rest));
    state = λ a. wrote a ∙ ap (after_append (take count rest)) (so.state a)
        ∙ appended_twice so.front (take count rest) (model.state old);
    calls = then_append old mid new ⊥ last ⊥ rest so.calls calls
        (λ a. (take count rest, drop count rest, sym (take-append-drop count rest), wrote a))
        (λ none. absurd none);
  }

  -- a front of the bytes was written, also by a write that has failed
  pub writes_failed : (old mid new : R) (bytes rest : List ℕ) → WritesTo old mid bytes rest
      → AppendsFront model rest mid new → AppendsFront model bytes old new
  writes_failed old mid new bytes rest so front a =
      front_on so.front rest (model.state old) (model.state mid) (model.state new) bytes so.split
      (so.state a) (front a)

-- nothing is claimed of a file of the operating system
pub narrows_void : (old new : State) → Narrows (LeftNow ⊥ old) (LeftNow ⊥ new)
narrows_void old new c left = absurd left.0

-- The reads so far: the bytes before a place were read.
pub record ReadsTo (bytes : List ℕ) (place : ℕ) (got : List ℕ) : Type 0 where
  pub split : (rest : List ℕ) × (bytes ≡ got ++ rest)
  pub reached : place ≡ length got

pub reads_none : (bytes : List ℕ) (place : ℕ) → place ≡ 0 → ReadsTo bytes place []
reads_none bytes place is = record { split = (bytes, refl); reached = is }

-- what follows the bytes that were read
rest_of : (bytes got rest : List ℕ) (place : ℕ) → place ≡ length got → bytes ≡ got ++ rest
    → drop place bytes ≡ rest
rest_of bytes got rest place is split =
    ap (λ (n : ℕ). drop n bytes) is ∙ ap (drop (length got)) split ∙ drop-append_seam got rest

-- one more piece was read
pub reads_more : (bytes : List ℕ) (from to room : ℕ) (got piece more : List ℕ)
    → ReadsTo bytes from got → ReadsPiece bytes from to room piece → more ≡ got ++ piece
    → ReadsTo bytes to more
reads_more bytes from to room got piece more so read is =
    let rest = so.split.0 in
    let front : piece ≡ take (length piece) rest = read.read
    ∙ ap (take (length piece)) (rest_of bytes got rest from so.reached so.split.1) in
    record {
      split = (
        drop (length piece) rest,
        so.split.1 ∙ ap (λ (bs : List ℕ). got ++ bs)
            (sym (take-append-drop (length piece) rest)
            ∙ ap (λ (bs : List ℕ). bs ++ drop (length piece) rest) (sym front))
            ∙ sym (append_assoc got piece (drop (length piece) rest))
            ∙ ap (λ (bs : List ℕ). bs ++ drop (length piece) rest) (sym is),
      );
      reached = omega (
        arith,
        read.moved,
        so.reached,
        length-append got piece,
        ap (λ (bs : List ℕ). length bs) is,
      );
    }

-- all bytes were read: a read returned none
pub reads_all : (bytes : List ℕ) (from to room : ℕ) (got piece : List ℕ) → ReadsTo bytes from got
    → ReadsPiece bytes from to room piece → piece ≡ [] → 0 < room → got ≡ bytes
reads_all bytes from to room got piece so read none some =
    let rest = so.split.0 in
    let empty : rest ≡ [] = nil_from_length rest (omega (
      arith,
      read.ended none some,
      so.reached,
      ap (λ (bs : List ℕ). length bs) so.split.1,
      length-append got rest,
    )) in
    sym (so.split.1 ∙ ap (λ (bs : List ℕ). got ++ bs) empty ∙ append-nil got)

-- what a crash leaves after an append, of which a front may have been written
pub append_leaves : (acts : Type 0) (bytes : List ℕ) (s0 s1 : State)
    → (acts → HasFront bytes s0 s1)
    → Follows (TornAppend bytes) (LeftNow acts s0) (LeftNow acts s1)
append_leaves acts bytes s0 s1 front c left =
    let f = front left.0 in
    let from = append_follows f.0 s0 c (subst (λ (s : State). IsLeft s c) f.3 left.1) in (
      from.0,
      (left.0, from.1),
      (
        from.2.0,
        subst (λ (bs : List ℕ). IsTorn bs from.2.0) (sym f.2)
            (torn_more f.0 f.1 from.2.0 from.2.1),
        from.2.2,
      ),
    )

-- what a crash leaves after a cut, which may not have been made
pub cut_leaves : (acts : Type 0) (len : ℕ) (s0 s1 : State) → (acts → CutsOrStays len s0 s1)
    → Follows (TornCut len) (LeftNow acts s0) (LeftNow acts s1)
cut_leaves acts len s0 s1 made c left = ⊎_elim
    (λ same. (c, (left.0, subst (λ (s : State). IsLeft s c) same left.1), uncut len c))
    (λ cut.
    let from = cut_follows len s0 c (subst (λ (s : State). IsLeft s c) cut left.1) in
    (from.0, (left.0, from.1), from.2))
    (made left.0)

-- after a sync a crash leaves the bytes
pub sync_leaves : (acts : Type 0) (bytes : List ℕ) (s1 : State) → (acts → s1 ≡ synced_with bytes)
    → HasOneOutcome bytes (LeftNow acts s1)
sync_leaves acts bytes s1 synced c left =
    only_synced bytes c (subst (λ (s : State). IsLeft s c) (synced left.0) left.1)
