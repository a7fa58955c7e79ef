-- The laws of the frames of a stream.
use Rattle.std.proofs.Common.{◌≡◌, ◌≢◌, ℕ, zero, suc, ◌+◌, ◌*◌, ◌<◌, ◌≤◌, ◌^◌, ◌/◌, ◌%◌, ◌-◌, ◌⊎◌, inl, inr, List, [], ◌∷◌, ◌++◌, length, take, drop, refl, sym, subst, ◌∙◌, ap, arith, append_assoc, length-append, length-drop}
use Rattle.std.specs.List.{flat_map}
use Rattle.std.proofs.lemmas.List.{drop-drop, take-append-drop, get_or-append-add}
use Rattle.std.proofs.Math.Seq.{take-append_seam, drop-append_seam}
use Rattle.byteorder.specs.Endian.{big_number, big_bytes}
use Rattle.byteorder.specs.Numbers.{big_number-reads_back, big_from-lt}
use Rattle.wrapper_frame.specs.declared.parts.Frame.{Frame}
use Rattle.wrapper_frame.specs.declared.header.Head.{Head}
use Rattle.wrapper_frame.specs.declared.header.Head.TheVariants.{Part, BadVersion, TooLong, Whole}
use Rattle.wrapper_frame.specs.Header.{header_size, wrapper_version, version_of, src_of, dst_of, length_of, head_of}
use Rattle.wrapper_frame.specs.Text.{header_text, frame_text, IsFrame}
use Rattle.wrapper_frame.specs.Messages.{Cut, first_frame, after_first, cut_after, frames_of, rest_of, AreBytes, AreFrames, BeginsWithNone, Messages, IsEnd}
use Rattle.wrapper_frame.proofs.FrontLemmas.{whole_parts, parts_whole}
use Rattle.wrapper_frame.proofs.CutLemmas.{cut_of, cut_first, cut_stays, payload_length, short_whole, after_shorter}

-- the fields of a header, and the bytes after it
pub record Fields (bytes : List ℕ) (src dst size : ℕ) (after : List ℕ) : Type 0 where
  pub headed : header_size ≤ length bytes
  pub version : version_of bytes ≡ wrapper_version
  pub src_is : src_of bytes ≡ src
  pub dst_is : dst_of bytes ≡ dst
  pub size_is : length_of bytes ≡ size
  pub after_is : drop header_size bytes ≡ after

-- the text of a header has its fields
header_fields : (src dst size : ℕ) (after : List ℕ) → src < 2 ^ 16 → dst < 2 ^ 16 → size < 2 ^ 16
    → Fields (header_text src dst size ++ after) src dst size after
header_fields src dst size after s d z = record {
  headed = omega (arith, length-append (header_text src dst size) after);
  version = refl;
  src_is = big_number-reads_back 2 src (big_bytes 2 dst ++ big_bytes 2 size ++ after) s;
  dst_is = big_number-reads_back 2 dst (big_bytes 2 size ++ after) d;
  size_is = big_number-reads_back 2 size after z;
  after_is = refl;
}

-- the text of a frame has its fields
text_fields : (frame : Frame) (more : List ℕ) → IsFrame frame
    → Fields (frame_text frame ++ more) frame.src frame.dst (length frame.payload)
    (frame.payload ++ more)
unfolding frame_text
text_fields frame more is = header_fields frame.src frame.dst (length frame.payload) (frame.payload
    ++ more) is.src is.dst (omega (arith, is.payload))

-- the text of a frame begins with the frame
text_whole : (frame : Frame) (more : List ℕ) → IsFrame frame → head_of (frame_text frame ++ more)
    ≡ Whole (length frame.payload)
text_whole frame more is =
    let fields = text_fields frame more is in
    let after : length (frame_text frame ++ more) - header_size ≡ length frame.payload
    + length more =
    sym (length-drop header_size (frame_text frame ++ more)) ∙ ap length fields.after_is
    ∙ length-append frame.payload more in
    parts_whole (frame_text frame ++ more) (length frame.payload) (record {
      there = omega (arith, fields.headed);
      small = is.payload;
      version = fields.version;
      told = fields.size_is;
    })

-- frames with equal parts are equal
same_frame : (src dst src' dst' : ℕ) (payload payload' : List ℕ) → src ≡ src' → dst ≡ dst' → payload
    ≡ payload'
    → ◌≡◌ {A = Frame} (record { src = src; dst = dst; payload = payload })
    (record { src = src'; dst = dst'; payload = payload' })
same_frame src dst src' dst' payload payload' s d p = cc

-- the first frame of a frame's text is that frame
text_first : (frame : Frame) (more : List ℕ) → IsFrame frame
    → first_frame (length frame.payload) (frame_text frame ++ more) ≡ frame
text_first frame more is =
    let fields = text_fields frame more is in
    let payload : take (length frame.payload) (drop header_size (frame_text frame ++ more))
    ≡ frame.payload =
    ap (take (length frame.payload)) fields.after_is ∙ take-append_seam frame.payload more in
    same_frame _ _ frame.src frame.dst _ frame.payload fields.src_is fields.dst_is payload

-- the bytes after the first frame are those after its text
text_after : (frame : Frame) (more : List ℕ) → IsFrame frame
    → after_first (length frame.payload) (frame_text frame ++ more) ≡ more
text_after frame more is =
    let fields = text_fields frame more is in
    sym (drop-drop (length frame.payload) header_size (frame_text frame ++ more))
    ∙ ap (drop (length frame.payload)) fields.after_is ∙ drop-append_seam frame.payload more

-- bytes that begin with a frame's text are split into that frame and the split of the others
cut_text : (frame : Frame) (more : List ℕ) → IsFrame frame → cut_of (frame_text frame ++ more)
    ≡ cut_after frame (cut_of more)
cut_text frame more is =
    cut_first (frame_text frame ++ more) (length frame.payload) (text_whole frame more is)
    ∙ ap (λ (first : Frame). cut_after first (cut_of
    (after_first (length frame.payload) (frame_text frame ++ more)))) (text_first frame more is)
    ∙ ap (λ (rest : List ℕ). cut_after frame (cut_of rest)) (text_after frame more is)

-- the text of a frame is read back
pub is_read_back : (frame : Frame) (more : List ℕ) → IsFrame frame
    → (frames_of (frame_text frame ++ more) ≡ frame ∷ frames_of more)
    × (rest_of (frame_text frame ++ more) ≡ rest_of more)
unfolding frames_of rest_of
is_read_back frame more is = (
  ap (λ (cut : Cut). cut.frames) (cut_text frame more is),
  ap (λ (cut : Cut). cut.rest) (cut_text frame more is),
)

-- the bytes after others are bytes
bytes_after : (xs ys : List ℕ) → AreBytes (xs ++ ys) → AreBytes ys
bytes_after xs ys all i = subst (λ (x : ℕ). x < 256) (get_or-append-add xs ys i 0)
    (all (length xs + i))

bytes_drop : (n : ℕ) (bytes : List ℕ) → AreBytes bytes → AreBytes (drop n bytes)
bytes_drop n bytes all = bytes_after (take n bytes) (drop n bytes)
    (subst AreBytes (sym (take-append-drop n bytes)) all)

-- two bytes are the bytes of their number
two_bytes : (a b : ℕ) → a < 256 → b < 256 → big_bytes 2 (a * 256 + b) ≡ a ∷ b ∷ []
two_bytes a b ha hb =
    let q : (a * 256 + b) / 256 ≡ a = omega arith in
    let high : (a * 256 + b) / 256 % 256 ≡ a = omega arith in
    let low : (a * 256 + b) % 256 ≡ b = omega arith in
    cc

-- two bytes at the front are the bytes of their number, and the others follow
two_spelled : (xs : List ℕ) → 2 ≤ length xs → AreBytes xs → big_bytes 2 (big_number 2 xs)
    ++ drop 2 xs ≡ xs
two_spelled [] h all = absurd (omega arith)
two_spelled (a ∷ []) h all = absurd (omega arith)
two_spelled (a ∷ b ∷ xs) h all =
    let number : a * 256 + (b * 1 + 0) ≡ a * 256 + b = omega arith in
    ap (λ (n : ℕ). big_bytes 2 n ++ xs) number
    ∙ ap (λ (bs : List ℕ). bs ++ xs) (two_bytes a b (all 0) (all 1))

-- the four numbers of a header spell its bytes
header_spelled : (bytes : List ℕ) → header_size ≤ length bytes → AreBytes bytes
    → (big_bytes 2 (version_of bytes) ++ big_bytes 2 (src_of bytes) ++ big_bytes 2 (dst_of bytes)
    ++ big_bytes 2 (length_of bytes)) ++ drop header_size bytes ≡ bytes
header_spelled bytes h all =
    let fourth : big_bytes 2 (length_of bytes) ++ drop header_size bytes ≡ drop 6 bytes =
    ap (λ (xs : List ℕ). big_bytes 2 (length_of bytes) ++ xs) (sym (drop-drop 2 6 bytes))
    ∙ two_spelled (drop 6 bytes) (omega (arith, length-drop 6 bytes)) (bytes_drop 6 bytes all) in
    let third : big_bytes 2 (dst_of bytes) ++ drop 6 bytes ≡ drop 4 bytes =
    ap (λ (xs : List ℕ). big_bytes 2 (dst_of bytes) ++ xs) (sym (drop-drop 2 4 bytes))
    ∙ two_spelled (drop 4 bytes) (omega (arith, length-drop 4 bytes)) (bytes_drop 4 bytes all) in
    let second : big_bytes 2 (src_of bytes) ++ drop 4 bytes ≡ drop 2 bytes =
    ap (λ (xs : List ℕ). big_bytes 2 (src_of bytes) ++ xs) (sym (drop-drop 2 2 bytes))
    ∙ two_spelled (drop 2 bytes) (omega (arith, length-drop 2 bytes)) (bytes_drop 2 bytes all) in
    let first : big_bytes 2 (version_of bytes) ++ drop 2 bytes ≡ bytes =
    two_spelled bytes (omega arith) all in
    ap (λ (xs : List ℕ). big_bytes 2 (version_of bytes) ++ big_bytes 2 (src_of bytes)
    ++ big_bytes 2 (dst_of bytes) ++ xs) fourth
    ∙ ap (λ (xs : List ℕ). big_bytes 2 (version_of bytes) ++ big_bytes 2 (src_of bytes) ++ xs) third
    ∙ ap (λ (xs : List ℕ). big_bytes 2 (version_of bytes) ++ xs) second
    ∙ first

-- a whole frame at the front is spelled by its text
front_spelled : (bytes : List ℕ) (n : ℕ) → head_of bytes ≡ Whole n → AreBytes bytes
    → frame_text (first_frame n bytes) ++ after_first n bytes ≡ bytes
unfolding frame_text
front_spelled bytes n h all =
    let w = whole_parts bytes n h in
    let size : length (first_frame n bytes).payload ≡ length_of bytes =
    payload_length bytes n w.there ∙ sym w.told in
    let body : take n (drop header_size bytes) ++ after_first n bytes ≡ drop header_size bytes =
    ap (λ (xs : List ℕ). take n (drop header_size bytes)
    ++ xs) (sym (drop-drop n header_size bytes))
    ∙ take-append-drop n (drop header_size bytes) in
    let header : (xs : List ℕ) → header_text (src_of bytes) (dst_of bytes)
    (length (first_frame n bytes).payload) ++ xs
    ≡ (big_bytes 2 (version_of bytes) ++ big_bytes 2 (src_of bytes) ++ big_bytes 2 (dst_of bytes)
    ++ big_bytes 2 (length_of bytes)) ++ xs =
    λ xs. ap (λ (k : ℕ). header_text (src_of bytes) (dst_of bytes) k ++ xs) size
    ∙ ap (λ (k : ℕ). (big_bytes 2 k ++ big_bytes 2 (src_of bytes) ++ big_bytes 2 (dst_of bytes)
    ++ big_bytes 2 (length_of bytes)) ++ xs) (sym w.version) in
    append_assoc (header_text (src_of bytes) (dst_of bytes) (length (first_frame n bytes).payload))
    (first_frame n bytes).payload (after_first n bytes)
    ∙ header ((first_frame n bytes).payload ++ after_first n bytes)
    ∙ ap (λ (xs : List ℕ). (big_bytes 2 (version_of bytes) ++ big_bytes 2 (src_of bytes)
    ++ big_bytes 2 (dst_of bytes) ++ big_bytes 2 (length_of bytes)) ++ xs) body
    ∙ header_spelled bytes (omega (arith, w.there)) all

-- the frame at the front can be written
front_fits : (bytes : List ℕ) (n : ℕ) → head_of bytes ≡ Whole n → AreBytes bytes
    → IsFrame (first_frame n bytes)
front_fits bytes n h all =
    let w = whole_parts bytes n h in
    record {
      src = big_from-lt 0 2 (drop 2 bytes) (bytes_drop 2 bytes all);
      dst = big_from-lt 0 2 (drop 4 bytes) (bytes_drop 4 bytes all);
      payload = omega (arith, w.small, payload_length bytes n w.there);
    }

-- a whole frame is at the front, or none is
front_cases : (head : Head) → ((n : ℕ) × (head ≡ Whole n)) ⊎ ((n : ℕ) → head ≢ Whole n)
front_cases (Whole n) = inl (n, refl)
front_cases Part = inr (λ n e. cc)
front_cases BadVersion = inr (λ n e. cc)
front_cases TooLong = inr (λ n e. cc)

-- bytes without a whole frame at the front do not begin with the text of a frame
begins_with_none : (bytes : List ℕ) → ((n : ℕ) → head_of bytes ≢ Whole n) → BeginsWithNone bytes
begins_with_none bytes unlike frame more is e =
    unlike (length frame.payload) (ap head_of e ∙ text_whole frame more is)

-- the converse
none_whole : (bytes : List ℕ) → AreBytes bytes → BeginsWithNone bytes → (n : ℕ)
    → head_of bytes ≢ Whole n
none_whole bytes all none n h = none (first_frame n bytes) (after_first n bytes)
    (front_fits bytes n h all) (sym (front_spelled bytes n h all))

-- a split of bytes satisfies the relation
abbrev IsCut : List ℕ → Cut → Type 0
IsCut bytes cut = Messages bytes cut.frames cut.rest

-- one more frame
messages_first : (bytes : List ℕ) (n : ℕ) (cut : Cut) → head_of bytes ≡ Whole n → AreBytes bytes
    → IsCut (after_first n bytes) cut
    → IsCut bytes (cut_after (first_frame n bytes) cut)
messages_first bytes n cut h all m =
    let text = frame_text (first_frame n bytes) in
    record {
      spelled =
          sym (front_spelled bytes n h all) ∙ ap (λ (xs : List ℕ). text ++ xs) m.spelled
          ∙ sym (append_assoc text (flat_map frame_text cut.frames) cut.rest);
      fit = (front_fits bytes n h all, m.fit);
      ended = m.ended;
    }

-- the split satisfies the relation if that of the bytes after the first frame does
found_by : (bytes : List ℕ) → AreBytes bytes → ((n : ℕ) × (head_of bytes ≡ Whole n))
    ⊎ ((n : ℕ) → head_of bytes ≢ Whole n)
    → ((n : ℕ) → head_of bytes ≡ Whole n → IsCut (after_first n bytes)
    (cut_of (after_first n bytes))) → IsCut bytes (cut_of bytes)
found_by bytes all (inl (n, h)) later =
    subst (IsCut bytes) (sym (cut_first bytes n h))
    (messages_first bytes n (cut_of (after_first n bytes)) h all (later n h))
found_by bytes all (inr unlike) later =
    subst (IsCut bytes) (sym (cut_stays bytes unlike))
    (record { spelled = refl; fit = tt; ended = begins_with_none bytes unlike })

found_in : (most : ℕ) (bytes : List ℕ) → length bytes ≤ most → AreBytes bytes
    → IsCut bytes (cut_of bytes)
found_in zero bytes short all = found_by bytes all (inr (short_whole bytes short))
    (λ n h. absurd (short_whole bytes short n h))
found_in (suc most) bytes short all =
    found_by bytes all (front_cases (head_of bytes))
    (λ n h. let shorter = after_shorter bytes n h in found_in most (after_first n bytes)
    (omega arith) (bytes_drop (header_size + n) bytes all))

-- bytes are the texts of their frames, followed by their rest
pub is_found : (bytes : List ℕ) → AreBytes bytes → Messages bytes (frames_of bytes) (rest_of bytes)
unfolding frames_of rest_of
is_found bytes all = found_in (length bytes) bytes (omega arith) all

-- the split of the texts of frames followed by a rest that begins with none
only_in : (frames : List Frame) (rest : List ℕ) → AreBytes (flat_map frame_text frames ++ rest)
    → AreFrames frames → BeginsWithNone rest
    → cut_of (flat_map frame_text frames ++ rest) ≡ record { frames = frames; rest = rest }
only_in [] rest all fit none = cut_stays rest (none_whole rest all none)
only_in (frame ∷ frames) rest all fit none =
    let later : List ℕ = flat_map frame_text frames ++ rest in
    let same : (frame_text frame ++ flat_map frame_text frames) ++ rest ≡ frame_text frame
    ++ (flat_map frame_text frames ++ rest) =
    append_assoc (frame_text frame) (flat_map frame_text frames) rest in
    ap cut_of same
    ∙ cut_text frame (flat_map frame_text frames ++ rest) fit.0
    ∙ ap (cut_after frame) (only_in frames rest
    (bytes_after (frame_text frame) (flat_map frame_text frames ++ rest)
    (subst AreBytes same all)) fit.1 none)

-- bytes are the texts of no other frames
pub is_only : (bytes : List ℕ) (frames : List Frame) (rest : List ℕ) → AreBytes bytes
    → Messages bytes frames rest → (frames ≡ frames_of bytes) × (rest ≡ rest_of bytes)
unfolding frames_of rest_of
is_only bytes frames rest all m =
    let cut = ap cut_of m.spelled ∙ only_in frames rest (subst AreBytes m.spelled all) m.fit m.ended
    in
    (sym (ap (λ (cut : Cut). cut.frames) cut), sym (ap (λ (cut : Cut). cut.rest) cut))

-- a front that is not a whole frame is one of the three ends
end_cases : (head : Head) → ((n : ℕ) → head ≢ Whole n) → IsEnd head
end_cases (Whole n) unlike = unlike n refl
end_cases Part unlike = tt
end_cases BadVersion unlike = tt
end_cases TooLong unlike = tt

-- the rest begins with one of the three ends if that of the bytes after the first frame does
end_by : (bytes : List ℕ) → ((n : ℕ) × (head_of bytes ≡ Whole n))
    ⊎ ((n : ℕ) → head_of bytes ≢ Whole n)
    → ((n : ℕ) → head_of bytes ≡ Whole n → IsEnd (head_of (cut_of (after_first n bytes)).rest))
    → IsEnd (head_of (cut_of bytes).rest)
end_by bytes (inl (n, h)) later = subst (λ (cut : Cut). IsEnd (head_of cut.rest))
    (sym (cut_first bytes n h)) (later n h)
end_by bytes (inr unlike) later = subst (λ (cut : Cut). IsEnd (head_of cut.rest))
    (sym (cut_stays bytes unlike)) (end_cases (head_of bytes) unlike)

end_in : (most : ℕ) (bytes : List ℕ) → length bytes ≤ most → IsEnd (head_of (cut_of bytes).rest)
end_in zero bytes short = end_by bytes (inr (short_whole bytes short))
    (λ n h. absurd (short_whole bytes short n h))
end_in (suc most) bytes short =
    end_by bytes (front_cases (head_of bytes))
    (λ n h. let shorter = after_shorter bytes n h in end_in most (after_first n bytes)
    (omega arith))

-- the rest begins with one of the three ends
pub has_end : (bytes : List ℕ) → IsEnd (head_of (rest_of bytes))
unfolding rest_of
has_end bytes = end_in (length bytes) bytes (omega arith)
