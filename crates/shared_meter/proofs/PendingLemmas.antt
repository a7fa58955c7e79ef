-- The pending lines of a journal after one more line.
use Rattle.std.proofs.Common.{◌≡◌, ℕ, ◌+◌, ◌≤◌, List, [], ◌∷◌, ◌++◌, length}
use Rattle.std.proofs.Common.{drop, refl, sym, ap, ◌∙◌, subst, arith}
use Rattle.std.proofs.lemmas.List.{length-append, drop-append-le, append_assoc, append-nil}
use Rattle.std.proofs.Math.Seq.{drop-length}
use Rattle.std.specs.List.{AllByRecursion}
use Rattle.text_lines.specs.Lines.{text_of, IsPlain}
use Rattle.turn_lock.specs.declared.turned.Entry.{Entry}
use Rattle.relay_events.specs.declared.event.Event.{Event}
use Rattle.relay_events.specs.declared.reply.Reply.{Reply}
use Rattle.shared_meter.specs.Pending.{PendingView, IsPending, IsTextOfLine, Pends}
use Rattle.shared_meter.specs.Pending.{event_lines, lines_of_calls}

-- the text of two lists of lines is that of both, one after the other
pub text_append : (lines more : List (List ℕ)) → text_of (lines ++ more) ≡ text_of lines ++ text_of more
unfolding text_of
text_append [] more = refl
text_append (line ∷ lines) more =
    ap (λ (rest : List ℕ). line ++ 10 ∷ rest) (text_append lines more)
    ∙ sym (append_assoc line (10 ∷ text_of lines) (text_of more))

-- no lines are pending of a journal without lines
pub none_pending : (pending : PendingView) → pending.text ≡ [] → pending.taken ≡ 0
    → pending.count ≡ 0 → pending.switches ≡ 0 → IsPending pending [] 0
unfolding text_of
none_pending pending text taken count switches = record {
  plain = tt;
  count = count;
  taken = subst (λ n. n ≤ 0) (sym taken) (omega arith);
  text = text ∙ subst (λ n. [] ≡ text_of (drop n [])) (sym taken) refl;
  switches_are = switches;
}

plain_push : (lines : List (List ℕ)) (line : List ℕ) → AllByRecursion IsPlain lines → IsPlain line
    → AllByRecursion IsPlain (lines ++ line ∷ [])
plain_push [] line plain one = (one, tt)
plain_push (first ∷ lines) line plain one = (plain.0, plain_push lines line plain.1 one)

-- one more line is pending, unless it was lost
pub noted : (old new : PendingView) (more line : List ℕ) (by : ℕ) (lines : List (List ℕ))
    (switches : ℕ) → IsTextOfLine line more → new.text ≡ old.text ++ more → new.taken ≡ old.taken
    → new.count ≡ old.count + 1 → new.switches ≡ old.switches + by → new.is_lost ≡ old.is_lost
    → Pends old lines switches → Pends new (lines ++ line ∷ []) (switches + by)
noted old new more line by lines switches written text taken count switched same pends whole =
    let was : IsPending old lines switches = pends (sym same ∙ whole) in
    let within : new.taken ≤ length lines = subst (λ n. n ≤ length lines) (sym taken) was.taken in
    record {
      plain = plain_push lines line was.plain written.1;
      count = count ∙ (ap (λ n. n + 1) was.count ∙ sym (length-append lines (line ∷ [])));
      taken = omega (arith, within, length-append lines (line ∷ []));
      text = text ∙ (ap (λ (t : List ℕ). t ++ more) was.text
          ∙ (ap (λ (t : List ℕ). text_of (drop old.taken lines) ++ t) written.0
          ∙ (sym (text_append (drop old.taken lines) (line ∷ []))
          ∙ (ap (λ n. text_of (drop n lines ++ line ∷ [])) (sym taken)
          ∙ ap text_of (sym (drop-append-le new.taken lines (line ∷ []) within))))));
      switches_are = switched ∙ ap (λ n. n + by) was.switches_are;
    }

-- no line is left after all were taken
pub none_left : (old new : PendingView) (lines : List (List ℕ)) (switches : ℕ) → new.text ≡ []
    → new.taken ≡ old.count → new.count ≡ old.count → new.switches ≡ old.switches
    → IsPending old lines switches → IsPending new lines switches
unfolding text_of
none_left old new lines switches text taken count switched was =
    let all : new.taken ≡ length lines = taken ∙ was.count in
    record {
      plain = was.plain;
      count = count ∙ was.count;
      taken = subst (λ n. n ≤ length lines) (sym all) (omega arith);
      text = text ∙ sym (ap text_of (subst (λ n. drop n lines ≡ []) (sym all) (drop-length lines)));
      switches_are = switched ∙ was.switches_are;
    }

-- the lines of a history with one more call
pub lines_more : (calls : List (Entry Event Reply)) (call : Entry Event Reply)
    → lines_of_calls (calls ++ call ∷ []) ≡ lines_of_calls calls ++ event_lines call.event
lines_more [] call = append-nil (event_lines call.event)
lines_more (first ∷ calls) call =
    ap (λ (rest : List (List ℕ)). event_lines first.event ++ rest) (lines_more calls call)
    ∙ sym (append_assoc (event_lines first.event) (lines_of_calls calls) (event_lines call.event))
