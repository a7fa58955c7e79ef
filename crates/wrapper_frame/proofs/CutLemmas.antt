-- Bytes split into frames.
use Rattle.std.proofs.Common.{◌≡◌, ◌≢◌, ℕ, zero, suc, ◌+◌, ◌<◌, ◌≤◌, List, [], ◌++◌, length, take, drop, Some, None, refl, sym, subst, ◌∙◌, ap, arith, length-drop}
use Rattle.std.proofs.lemmas.List.{drop-append-le, take-append-le, length-take-le}
use Rattle.wrapper_frame.specs.declared.parts.Frame.{Frame}
use Rattle.wrapper_frame.specs.declared.header.Head.{Head}
use Rattle.wrapper_frame.specs.declared.header.Head.TheVariants.{Part, BadVersion, TooLong, Whole}
use Rattle.wrapper_frame.specs.Header.{header_size, head_of}
use Rattle.wrapper_frame.specs.Messages.{Cut, first_frame, after_first, cut_after, cut_by_head, cut_in, frames_of, rest_of}
use Rattle.wrapper_frame.specs.Stream.{IsFirst, IsPart, KeepsFrames, Stops, Fronts}
use Rattle.wrapper_frame.proofs.FrontLemmas.{whole_parts, field_more, whole_more, version_more, long_more, part_few}

-- bytes that do not begin with a frame
abbrev pub uncut : List ℕ → Cut
uncut bytes = record { frames = []; rest = bytes }

-- two splits by the same beginning are equal if the bytes after the first frame are split equally
cut_by_same : (head : Head) (bytes : List ℕ) (f g : List ℕ → Cut)
    → ((n : ℕ) → head ≡ Whole n → f (after_first n bytes) ≡ g (after_first n bytes))
    → cut_by_head head bytes f ≡ cut_by_head head bytes g
cut_by_same (Whole n) bytes f g same = ap (cut_after (first_frame n bytes)) (same n refl)
cut_by_same Part bytes f g same = refl
cut_by_same BadVersion bytes f g same = refl
cut_by_same TooLong bytes f g same = refl

-- without a whole frame at the front, nothing is split off
cut_none : (head : Head) (bytes : List ℕ) (f : List ℕ → Cut) → ((n : ℕ) → head ≢ Whole n)
    → cut_by_head head bytes f ≡ uncut bytes
cut_none (Whole n) bytes f unlike = absurd (unlike n refl)
cut_none Part bytes f unlike = refl
cut_none BadVersion bytes f unlike = refl
cut_none TooLong bytes f unlike = refl

-- the bytes after a frame are fewer
pub after_shorter : (bytes : List ℕ) (n : ℕ) → head_of bytes ≡ Whole n
    → length (after_first n bytes) < length bytes
after_shorter bytes n h =
    let w = whole_parts bytes n h in
    omega (arith, w.there, length-drop (header_size + n) bytes)

-- no bytes do not begin with a frame
pub short_whole : (bytes : List ℕ) → length bytes ≤ 0 → (n : ℕ) → head_of bytes ≢ Whole n
short_whole bytes short n h = let w = whole_parts bytes n h in omega (arith, w.there)

-- any limit on the number of frames that is at least the number of bytes gives the same split
same_cut : (f g : ℕ) (bytes : List ℕ) → length bytes ≤ f → length bytes ≤ g → cut_in f bytes
    ≡ cut_in g bytes
unfolding cut_in
same_cut zero zero bytes a b = refl
same_cut zero (suc g) bytes a b = sym (cut_none (head_of bytes) bytes (cut_in g)
    (short_whole bytes a))
same_cut (suc f) zero bytes a b = cut_none (head_of bytes) bytes (cut_in f) (short_whole bytes b)
same_cut (suc f) (suc g) bytes a b =
    cut_by_same (head_of bytes) bytes (cut_in f) (cut_in g)
    (λ n h. let shorter = after_shorter bytes n h in same_cut f g (after_first n bytes)
    (omega arith) (omega arith))

-- bytes split into all their frames
abbrev pub cut_of : List ℕ → Cut
cut_of bytes = cut_in (length bytes) bytes

cut_step_in : (most : ℕ) (bytes : List ℕ) → length bytes ≤ most → cut_in most bytes
    ≡ cut_by_head (head_of bytes) bytes cut_of
unfolding cut_in
cut_step_in zero bytes short = sym (cut_none (head_of bytes) bytes cut_of (short_whole bytes short))
cut_step_in (suc most) bytes short =
    cut_by_same (head_of bytes) bytes (cut_in most) cut_of
    (λ n h. let shorter = after_shorter bytes n h in same_cut most (length (after_first n bytes))
    (after_first n bytes) (omega arith) (omega arith))

-- one step of the split
pub cut_step : (bytes : List ℕ) → cut_of bytes ≡ cut_by_head (head_of bytes) bytes cut_of
cut_step bytes = cut_step_in (length bytes) bytes (omega arith)

-- without a whole frame at the front there are no frames
pub cut_stays : (bytes : List ℕ) → ((n : ℕ) → head_of bytes ≢ Whole n) → cut_of bytes ≡ uncut bytes
cut_stays bytes unlike = cut_step bytes ∙ cut_none (head_of bytes) bytes cut_of unlike

-- a whole frame at the front is the first; the others are those of the bytes after it
pub cut_first : (bytes : List ℕ) (n : ℕ) → head_of bytes ≡ Whole n → cut_of bytes
    ≡ cut_after (first_frame n bytes) (cut_of (after_first n bytes))
cut_first bytes n h = cut_step bytes ∙ ap (λ (head : Head). cut_by_head head bytes cut_of) h

-- the frame at the front is independent of the bytes after it
frame_more : (bytes more : List ℕ) (n : ℕ) → header_size + n ≤ length bytes
    → first_frame n (bytes ++ more) ≡ first_frame n bytes
frame_more bytes more n h =
    let headed : header_size ≤ length bytes = omega arith in
    let there : n ≤ length (drop header_size bytes) =
    omega (arith, length-drop header_size bytes) in
    let src = field_more 2 bytes more (omega arith) in
    let dst = field_more 4 bytes more (omega arith) in
    let payload : take n (drop header_size (bytes ++ more)) ≡ take n (drop header_size bytes) =
    ap (take n) (drop-append-le header_size bytes more headed)
    ∙ take-append-le n (drop header_size bytes) more there in
    cc

-- a first frame and the bytes after it, whatever bytes follow
cut_first_more : (bytes more : List ℕ) (n : ℕ) → head_of bytes ≡ Whole n
    → cut_of (bytes ++ more) ≡ cut_after (first_frame n bytes)
    (cut_of (after_first n bytes ++ more))
cut_first_more bytes more n h =
    let w = whole_parts bytes n h in
    let after : after_first n (bytes ++ more) ≡ after_first n bytes ++ more =
    drop-append-le (header_size + n) bytes more w.there in
    cut_first (bytes ++ more) n (whole_more bytes more n h)
    ∙ ap (λ (frame : Frame). cut_after frame (cut_of (after_first n (bytes ++ more))))
    (frame_more bytes more n w.there)
    ∙ ap (λ (rest : List ℕ). cut_after (first_frame n bytes) (cut_of rest)) after

-- a payload has the length that its header states
pub payload_length : (bytes : List ℕ) (n : ℕ) → header_size + n ≤ length bytes
    → length (first_frame n bytes).payload ≡ n
payload_length bytes n h = length-take-le n (drop header_size bytes)
    (omega (arith, length-drop header_size bytes))

-- the frame taken if a whole frame is at the front
pub goes_on : (bytes : List ℕ) (n : ℕ) → head_of bytes ≡ Whole n
    → KeepsFrames bytes (Some (first_frame n bytes)) (after_first n bytes)
unfolding frames_of rest_of
goes_on bytes n h = record {
  frames = λ more. ap (λ (cut : Cut). cut.frames) (cut_first_more bytes more n h);
  rest = λ more. ap (λ (cut : Cut). cut.rest) (cut_first_more bytes more n h);
}

-- the frame taken, by the parts of a first frame
pub first_on : (old : List ℕ) (frame : Frame) (new : List ℕ) → IsFirst old frame new
    → KeepsFrames old (Some frame) new
first_on old frame new is =
    subst (λ (rest : List ℕ). KeepsFrames old (Some frame) rest) (sym is.after)
    (subst (λ (first : Frame). KeepsFrames old (Some first) (after_first (length frame.payload)
    old))
    (sym is.frame_is)
    (goes_on old (length frame.payload) is.front))

-- if the front is part of a frame, nothing changes
pub stays : (bytes : List ℕ) → KeepsFrames bytes None bytes
stays bytes = record { frames = λ more. refl; rest = λ more. refl }

-- part of a frame contains no frames
pub is_part : (bytes : List ℕ) → head_of bytes ≡ Part → IsPart bytes
unfolding frames_of rest_of
is_part bytes h =
    let none = cut_stays bytes (λ n e. cc) in
    record {
      front = h;
      few = part_few bytes h;
      frames = ap (λ (cut : Cut). cut.frames) none;
      rest = ap (λ (cut : Cut). cut.rest) none;
    }

-- a front that is not a frame, and remains so whatever bytes follow, stops the reading
stops_at : (front : Head) (bytes : List ℕ) → ((n : ℕ) → front ≢ Whole n)
    → ((more : List ℕ) → head_of (bytes ++ more) ≡ front) → Stops front bytes
unfolding frames_of rest_of
stops_at front bytes unlike same =
    let none = λ (more : List ℕ). cut_stays (bytes ++ more) (λ n e. unlike n (sym (same more) ∙ e))
    in
    record {
      frames = λ more. ap (λ (cut : Cut). cut.frames) (none more);
      rest = λ more. ap (λ (cut : Cut). cut.rest) (none more);
      heads = same;
    }

pub stops_version : (bytes : List ℕ) → head_of bytes ≡ BadVersion → Stops BadVersion bytes
stops_version bytes h = stops_at BadVersion bytes (λ n e. cc) (λ more. version_more bytes more h)

pub stops_long : (bytes : List ℕ) → head_of bytes ≡ TooLong → Stops TooLong bytes
stops_long bytes h = stops_at TooLong bytes (λ n e. cc) (λ more. long_more bytes more h)

-- a whole frame at the front is contained in the bytes
pub whole_there : (bytes : List ℕ) (n : ℕ) → head_of bytes ≡ Whole n → header_size
    + n ≤ length bytes
whole_there bytes n h = (whole_parts bytes n h).there

-- the bytes left after a first frame
pub goes_on_as : (bytes : List ℕ) (n : ℕ) (new : List ℕ) → head_of bytes ≡ Whole n → new
    ≡ after_first n bytes → KeepsFrames bytes (Some (first_frame n bytes)) new
goes_on_as bytes n new h e = subst (λ (rest : List ℕ). KeepsFrames bytes (Some (first_frame n
    bytes))
    rest) (sym e) (goes_on bytes n h)

-- what a front means
pub fronts : (bytes : List ℕ) (front : Head) → front ≡ head_of bytes → Fronts bytes front
fronts bytes Part e = is_part bytes (sym e)
fronts bytes BadVersion e = stops_version bytes (sym e)
fronts bytes TooLong e = stops_long bytes (sym e)
fronts bytes (Whole n) e = whole_there bytes n (sym e)
