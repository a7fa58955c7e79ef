-- The causes of the faults of a journal.
use Rattle.std.proofs.Common.{◌≡◌, ◌⊎◌, inl, inr, ℕ, List, Ok, Err, refl, sym, ◌∙◌, subst}
use Rattle.durable_lines.specs.declared.fault.FileFault.{FileFault}
use Rattle.durable_lines.specs.declared.fault.FileFault.TheVariants as file
use Rattle.journal_files.specs.Faults.{of_file, of_trace, IsBeginFault, IsRenewFault}
use Rattle.journal_files.specs.Faults.{IsResumeFault, IsUnwritable}
use Rattle.journal_files.specs.declared.fault.StartFault.{StartFault}
use Rattle.journal_files.specs.declared.fault.StartFault.TheVariants as journal
use Rattle.relay_recorder.specs.Recording.{Recording}
use Rattle.relay_recorder.specs.declared.trace.Trace.{Trace}
use Rattle.trace_player.specs.Traces.{trace_of}
use Rattle.trace_words.specs.declared.fault.TraceFault.{TraceFault}
use Rattle.trace_words.specs.declared.fault.TraceFault.TheVariants as trace

-- a text that is not a trace is not resumed
pub resume_unread : (device text : List ℕ) (fault : TraceFault) (given : StartFault)
    → given ≡ of_trace fault → (fault ≡ trace.Memory) ⊎ (trace_of text ≡ Err fault)
    → IsResumeFault device text given
resume_unread device text fault given is fails =
    subst (IsResumeFault device text) (sym is) (cause fault fails)
  where
    cause : (fault : TraceFault) → (fault ≡ trace.Memory) ⊎ (trace_of text ≡ Err fault)
        → IsResumeFault device text (of_trace fault)
    cause (trace.Line number) (inl memory) = cc
    cause (trace.Line number) (inr given) = given
    cause trace.TooLong fails = tt
    cause trace.Memory fails = tt

-- a text that is not a trace is not renewed
pub renew_unread : (text : List ℕ) (fault : TraceFault) (given : StartFault)
    → given ≡ of_trace fault → (fault ≡ trace.Memory) ⊎ (trace_of text ≡ Err fault)
    → IsRenewFault text given
renew_unread text fault given is fails = subst (IsRenewFault text) (sym is) (cause fault fails)
  where
    cause : (fault : TraceFault) → (fault ≡ trace.Memory) ⊎ (trace_of text ≡ Err fault)
        → IsRenewFault text (of_trace fault)
    cause (trace.Line number) (inl memory) = cc
    cause (trace.Line number) (inr given) = inl given
    cause trace.TooLong fails = tt
    cause trace.Memory fails = tt

-- a trace is not renewed if its new text is not written
pub renew_unwritten : (text : List ℕ) (told : Trace) (given : StartFault)
    → trace_of text ≡ Ok told → IsUnwritable given → IsRenewFault text given
renew_unwritten text told (journal.Line number) is unwritable = inr (told, is, unwritable)
renew_unwritten text told journal.Counted is unwritable = unwritable
renew_unwritten text told (journal.Damaged at) is unwritable = unwritable
renew_unwritten text told journal.OtherMeter is unwritable = (told, is)
renew_unwritten text told journal.TooLong is unwritable = tt
renew_unwritten text told journal.File is unwritable = tt
renew_unwritten text told journal.Memory is unwritable = tt

-- no text is a failed file
pub text_no_file : (fault : TraceFault) (given : StartFault) → given ≡ of_trace fault
    → given ≡ journal.File → ⊥
text_no_file fault given is file = apart fault (sym is ∙ file)
  where
    apart : (fault : TraceFault) → of_trace fault ≡ journal.File → ⊥
    apart (trace.Line number) same = cc
    apart trace.TooLong same = cc
    apart trace.Memory same = cc

pub unwritable_no_file : (given : StartFault) → IsUnwritable given → given ≡ journal.File → ⊥
unwritable_no_file given unwritable is = subst IsUnwritable is unwritable

-- a file that was reported as failed has failed
pub file_failed : (fault : FileFault) (given : StartFault) → given ≡ of_file fault
    → given ≡ journal.File → fault ≡ file.Failed
file_failed fault given is failed = found fault (sym is ∙ failed)
  where
    found : (fault : FileFault) → of_file fault ≡ journal.File → fault ≡ file.Failed
    found file.Failed same = refl
    found file.TooLong same = cc
    found file.Memory same = cc

-- a file that was reported as too long is too long
pub file_too_long : (fault : FileFault) (given : StartFault) → given ≡ of_file fault
    → given ≡ journal.TooLong → fault ≡ file.TooLong
file_too_long fault given is long = found fault (sym is ∙ long)
  where
    found : (fault : FileFault) → of_file fault ≡ journal.TooLong → fault ≡ file.TooLong
    found file.Failed same = cc
    found file.TooLong same = refl
    found file.Memory same = cc

-- a fault of a file is a cause of its own
pub file_resumes_not : (device text : List ℕ) (fault : FileFault) (given : StartFault)
    → given ≡ of_file fault → IsResumeFault device text given
file_resumes_not device text fault given is =
    subst (IsResumeFault device text) (sym is) (cause fault)
  where
    cause : (fault : FileFault) → IsResumeFault device text (of_file fault)
    cause file.Failed = tt
    cause file.TooLong = tt
    cause file.Memory = tt

pub file_renews_not : (text : List ℕ) (fault : FileFault) (given : StartFault)
    → given ≡ of_file fault → IsRenewFault text given
file_renews_not text fault given is = subst (IsRenewFault text) (sym is) (cause fault)
  where
    cause : (fault : FileFault) → IsRenewFault text (of_file fault)
    cause file.Failed = tt
    cause file.TooLong = tt
    cause file.Memory = tt

pub file_begins_not : (recorder : Recording) (fault : FileFault) (given : StartFault)
    → given ≡ of_file fault → IsBeginFault recorder given
file_begins_not recorder fault given is = subst (IsBeginFault recorder) (sym is) (cause fault)
  where
    cause : (fault : FileFault) → IsBeginFault recorder (of_file fault)
    cause file.Failed = tt
    cause file.TooLong = tt
    cause file.Memory = tt

pub ruleset resume_faults = (resume_unread, text_no_file, file_failed, file_resumes_not)

pub ruleset renew_faults =
    (renew_unread, renew_unwritten, text_no_file, unwritable_no_file, file_failed, file_renews_not)

pub ruleset begin_faults = (file_failed, file_too_long, file_begins_not)
