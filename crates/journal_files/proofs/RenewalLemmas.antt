-- A trace that begins later in the same run ends in the same meter.
use Rattle.std.proofs.Common.{◌≡◌, ◌⊎◌, inl, inr, ⊎_elim, ℕ, ◌-◌, List, [], ◌∷◌, Result, Ok, length}
use Rattle.std.proofs.Common.{refl, ap, sym, ◌∙◌, subst}
use Rattle.std.proofs.lemmas.List.{take-append-drop}
use Rattle.durable_lines.specs.CrashModel.{LeavesOnly, Narrows, PassesTime}
use Rattle.durable_lines.specs.FileModel.{FileModel}
use Rattle.durable_lines.specs.Holding.{IsSameOrRenewed}
use Rattle.durable_lines.specs.Lines.{lines_in, IsSettled, IsText}
use Rattle.durable_lines.proofs.Moments.{elapses_still, leaves_as, leaves_then, one_call}
use Rattle.durable_lines.proofs.StateLemmas.{same_appends, same_cuts}
use Rattle.relay_core.proofs.AgreeingEvents.{event_alike}
use Rattle.relay_core.proofs.RunLemmas.{world_after-append}
use Rattle.relay_core.specs.Agreeing.{Agree, IsWorld}
use Rattle.relay_core.specs.Machine.{at_event}
use Rattle.relay_core.specs.Opening.{IsFitOpening, world_of_opening}
use Rattle.relay_core.specs.Runs.{world_after}
use Rattle.relay_core.specs.World.{World}
use Rattle.relay_events.specs.declared.event.Event.{Event}
use Rattle.relay_events.specs.declared.reply.Reply.{Reply}
use Rattle.relay_recorder.specs.Histories.{replies_from}
use Rattle.relay_recorder.specs.Recording.{Recording}
use Rattle.relay_recorder.specs.declared.trace.Trace.{Trace}
use Rattle.trace_player.specs.Journals.{IsJournal, journal_text}
use Rattle.trace_player.specs.Resuming.{world_of}
use Rattle.trace_player.specs.Traces.{trace_of}
use Rattle.trace_words.specs.declared.fault.TraceFault.{TraceFault}
use Rattle.journal_files.specs.Journals.{Continues}
use Rattle.journal_files.specs.Renewals.{AnswerAlike, IsLaterTrace, IsRenewalOf, IsRenewedAs}
use Rattle.journal_files.specs.Renewals.{before_last, last_of}

-- worlds that agree, the first of them in range
record AgreeInRange (v w : World) : Type 0 where
  range : IsWorld v
  agree : Agree v w

-- worlds that agree also agree after the same events
agree_after : (events : List Event) (v w : World) → AgreeInRange v w
    → AgreeInRange (world_after events v) (world_after events w)
agree_after [] v w alike = alike
agree_after (event ∷ events) v w alike =
    let go = event_alike event v w alike.range alike.agree in
    agree_after events (at_event event v).world (at_event event w).world
    (record { range = go.range; agree = go.world })

-- worlds that agree give the same replies
answer_alike : (events : List Event) (v w : World) → AgreeInRange v w
    → replies_from v events ≡ replies_from w events
answer_alike [] v w alike = refl
answer_alike (event ∷ events) v w alike =
    let go = event_alike event v w alike.range alike.agree in
    let a = at_event event v in
    let b = at_event event w in
    ap (λ (reply : Reply). reply ∷ replies_from a.world events) go.reply
    ∙ ap (λ (replies : List Reply). b.reply ∷ replies)
    (answer_alike events a.world b.world (record { range = go.range; agree = go.world }))

-- the events before the last n, followed by these, are all events
whole_run : (n : ℕ) (events : List Event) (w : World)
    → world_after (last_of n events) (world_after (before_last n events) w) ≡ world_after events w
whole_run n events w =
    sym (world_after-append (before_last n events) (last_of n events) w)
    ∙ ap (λ (es : List Event). world_after es w) (take-append-drop (length events - n) events)

pub shorten_trace : (depth : ℕ) (earlier later : Trace) (before : List Event)
    → IsFitOpening later.opening → IsWorld (world_of_opening later.opening)
    → Agree (world_of_opening later.opening) (world_after before (world_of_opening earlier.opening))
    → before ≡ before_last depth earlier.events → later.events ≡ last_of depth earlier.events
    → IsLaterTrace depth earlier later
shorten_trace depth earlier later before fit range agree are kept =
    let first = world_of_opening earlier.opening in
    let opening : Agree (world_of_opening later.opening)
    (world_after (before_last depth earlier.events) first) =
    subst (λ (es : List Event). Agree (world_of_opening later.opening) (world_after es first)) are
    agree in
    let ended : world_after later.events (world_after (before_last depth earlier.events) first)
    ≡ world_of earlier =
    ap (λ (es : List Event). world_after es
    (world_after (before_last depth earlier.events) first)) kept
    ∙ whole_run depth earlier.events first in
    let both : AgreeInRange (world_of later) (world_of earlier) =
    subst (λ (w : World). AgreeInRange (world_of later) w) ended
    (agree_after later.events (world_of_opening later.opening)
    (world_after (before_last depth earlier.events) first)
    (record { range = range; agree = opening })) in
    record {
      fit = fit;
      kept = kept;
      opening = opening;
      meter = both.agree;
      answers = λ further. answer_alike further (world_of later) (world_of earlier) both;
    }

-- the text of a trace that begins later is that of a renewed journal
pub renewal_of : (depth : ℕ) (old new : List ℕ) (earlier later : Trace)
    → trace_of old ≡ Ok earlier → IsLaterTrace depth earlier later
    → later.opening.device ≡ earlier.opening.device → new ≡ journal_text later
    → trace_of new ≡ Ok later → IsJournal new → IsRenewalOf depth old new
renewal_of depth old new earlier later told begins device written again journal = record {
  earlier = earlier;
  told = told;
  later = later;
  begins_later = begins;
  device = device;
  written = written;
  read_back = again;
  journal = journal;
}

pub same_trace : (told : Result Trace TraceFault) (a b : Trace) → told ≡ Ok a → told ≡ Ok b → a ≡ b
same_trace told a b is_a is_b = cc

-- the meters that are resumed from both journals answer alike
pub renewed_answers : (depth : ℕ) (old new device : List ℕ) (before after : Recording)
    → IsRenewalOf depth old new → (from_old : Continues device old before)
    → (from_new : Continues device new after)
    → AnswerAlike (world_of from_new.trace) (world_of from_old.trace)
renewed_answers depth old new device before after renewal from_old from_new =
    let later : renewal.later ≡ from_new.trace =
    same_trace (trace_of new) renewal.later from_new.trace renewal.read_back from_new.told in
    let earlier : renewal.earlier ≡ from_old.trace =
    same_trace (trace_of old) renewal.earlier from_old.trace renewal.told from_old.told in
    subst (λ (trace : Trace). AnswerAlike (world_of trace) (world_of from_old.trace)) later
    (subst (λ (trace : Trace). AnswerAlike (world_of renewal.later) (world_of trace)) earlier
    renewal.begins_later.answers)

-- ---- the file of a journal that is renewed

-- the bytes that replace a journal
renewed_as : (depth : ℕ) (old new : List ℕ) → IsText old → IsRenewalOf depth old new → IsText new
    → IsRenewedAs old new
renewed_as depth old new old_text renewal new_text =
    record { depth = depth; renewal = renewal; old_text = old_text; new_text = new_text }

abbrev Renewed : List ℕ → List ℕ → Type 0
Renewed = IsSameOrRenewed IsRenewedAs

module _ {F : Type 0} (model : FileModel F) where
  -- the file was read, and stays
  pub read_leaves : (old new : F) → IsSettled model old → PassesTime model old new
      → Narrows (model.may_leave old) (model.may_leave new)
      → LeavesOnly model old new (Renewed (model.seen old))
  read_leaves old new settled time narrows =
      one_call model old new (Renewed (model.seen old)) (λ c now. inl (settled.durable c now)) time
      (λ c now. inl (settled.durable c (narrows c now)))

  -- a file that was read is settled
  pub read_settled : (old new : F) → IsSettled model old → model.seen new ≡ model.seen old
      → Narrows (model.may_leave old) (model.may_leave new)
      → model.identity new ≡ model.identity old → IsSettled model new
  read_settled old new settled same narrows one = record {
    text = subst IsText (sym same) settled.text;
    durable = λ c now. settled.durable c (narrows c now) ∙ sym same;
    kept = subst (λ (n : ℕ). model.stored n (model.seen new)) (sym one)
        (subst (model.stored (model.identity old)) (sym same) settled.kept);
  }

  -- the file was replaced
  pub replaced_as : (depth : ℕ) (old new : F) (text : List ℕ) → IsSettled model old
      → IsRenewalOf depth (model.seen old) text → IsText text → model.seen new ≡ text
      → Renewed (model.seen old) (model.seen new)
  replaced_as depth old new text settled renewal is_text is =
      inr (subst (λ (bytes : List ℕ). IsRenewedAs (model.seen old) bytes) (sym is)
      (renewed_as depth (model.seen old) text settled.text renewal is_text))

  -- the file was read and then replaced
  pub replaced_leaves : (old mid new : F) (depth : ℕ) (text : List ℕ) → IsSettled model old
      → PassesTime model old mid → Narrows (model.may_leave old) (model.may_leave mid)
      → IsRenewalOf depth (model.seen old) text → IsText text
      → LeavesOnly model mid new (λ c. model.may_leave mid c ⊎ (c ≡ text))
      → LeavesOnly model old new (Renewed (model.seen old))
  replaced_leaves old mid new depth text settled time narrows renewal is_text replaces =
      leaves_then model old mid new (Renewed (model.seen old))
      (read_leaves old mid settled time narrows)
      (leaves_as model mid new (λ c. model.may_leave mid c ⊎ (c ≡ text))
      (Renewed (model.seen old))
      (λ c left. ⊎_elim (λ was. inl (settled.durable c (narrows c was)))
      (λ is. inr (subst (λ (bytes : List ℕ). IsRenewedAs (model.seen old) bytes) (sym is)
      (renewed_as depth (model.seen old) text settled.text renewal is_text))) left)
      replaces)

  -- the file was read
  pub read_stays : (old new : F) (Q : List ℕ → Type 0) → PassesTime model old new
      → Narrows (model.may_leave old) (model.may_leave new)
      → LeavesOnly model old new (λ c. model.may_leave old c ⊎ Q c)
  read_stays old new Q time narrows =
      one_call model old new (λ c. model.may_leave old c ⊎ Q c) (λ c now. inl now) time
      (λ c now. inl (narrows c now))

  -- the file was read, and then more was done
  read_then : (old mid new : F) (P Q : List ℕ → Type 0) → PassesTime model old mid
      → Narrows (model.may_leave old) (model.may_leave mid) → ((c : List ℕ) → P c → Q c)
      → LeavesOnly model mid new (λ c. model.may_leave mid c ⊎ P c)
      → LeavesOnly model old new (λ c. model.may_leave old c ⊎ Q c)
  read_then old mid new P Q time narrows weaker leaves =
      leaves_then model old mid new (λ c. model.may_leave old c ⊎ Q c)
      (read_stays old mid Q time narrows)
      (leaves_as model mid new (λ c. model.may_leave mid c ⊎ P c)
      (λ c. model.may_leave old c ⊎ Q c)
      (λ c left. ⊎_elim (λ was. inl (narrows c was)) (λ now. inr (weaker c now)) left) leaves)

  -- the file was read and then replaced by the text of its renewal
  pub replaced_any : (depth : ℕ) (old mid new : F) (text : List ℕ) → PassesTime model old mid
      → Narrows (model.may_leave old) (model.may_leave mid)
      → IsRenewalOf depth (model.seen old) text
      → LeavesOnly model mid new (λ c. model.may_leave mid c ⊎ (c ≡ text))
      → LeavesOnly model old new (λ c. model.may_leave old c ⊎ IsRenewalOf depth (model.seen old) c)
  replaced_any depth old mid new text time narrows renewal leaves =
      read_then old mid new (λ c. c ≡ text) (IsRenewalOf depth (model.seen old)) time narrows
      (λ c is. subst (IsRenewalOf depth (model.seen old)) (sym is) renewal) leaves

  -- the file was read and then renewed
  pub renewed_any : (depth : ℕ) (old mid new : F) → PassesTime model old mid
      → Narrows (model.may_leave old) (model.may_leave mid) → model.seen mid ≡ model.seen old
      → LeavesOnly model mid new (λ c. model.may_leave mid c ⊎ IsRenewalOf depth (model.seen mid) c)
      → LeavesOnly model old new (λ c. model.may_leave old c ⊎ IsRenewalOf depth (model.seen old) c)
  renewed_any depth old mid new time narrows same leaves =
      read_then old mid new (IsRenewalOf depth (model.seen mid))
      (IsRenewalOf depth (model.seen old)) time narrows
      (λ c is. subst (λ (bytes : List ℕ). IsRenewalOf depth bytes c) same is) leaves

  -- the file was read and then recovered
  pub recovered_any : (old mid new : F) → PassesTime model old mid
      → Narrows (model.may_leave old) (model.may_leave mid) → model.seen mid ≡ model.seen old
      → LeavesOnly model mid new
      (λ c. model.may_leave mid c ⊎ (lines_in c ≡ lines_in (model.seen mid)))
      → LeavesOnly model old new
      (λ c. model.may_leave old c ⊎ (lines_in c ≡ lines_in (model.seen old)))
  recovered_any old mid new time narrows same leaves =
      read_then old mid new (λ c. lines_in c ≡ lines_in (model.seen mid))
      (λ c. lines_in c ≡ lines_in (model.seen old)) time narrows
      (λ c lines. lines ∙ ap lines_in same) leaves

pub ruleset file_renewals = (read_leaves, read_settled, replaced_as)

pub ruleset renewals = (read_settled, read_stays)

pub ruleset same_files = (elapses_still, same_appends, same_cuts)
