-- The view that contracts have of a journal's file that is renewed.
--     place_of          the place of the file
--     terms_of          when it is renewed, and what then stays in it
--     grown_of          the number of bytes that were appended since the last renewal
--     held_back_of      why the last renewal that was tried left the old file, if it did
--     HasFailed         a call has failed
--     GrowsBy           a call adds what it appends to the number of bytes
--     IsRenewedUnless   a text is that of a renewed journal, or the old one for a fault
--     RenewsOnTerms     a renewal is tried exactly if the file has grown by more than the limit
--     renewed_model     the model of such files, from that of their places
use Rattle.std.specs.Prelude.{◌≡◌, true, ℕ, ◌+◌, ◌-◌, ◌^◌, ◌<◌, ◌≤◌, min, length, List, Option, Some}
use Rattle.std.specs.Prelude.{None}
use Rattle.durable_lines.specs.FileModel.{FileCall, FileModel, Append}
use Rattle.journal_files.specs.Faults.{IsRenewFault}
use Rattle.journal_files.specs.Renewals.{IsRenewalOf, IsRenewedAs}
use Rattle.journal_files.specs.declared.fault.StartFault.{StartFault}
use Rattle.journal_files.specs.declared.renewed_file.RenewalTerms.{RenewalTerms}
use Rattle.journal_files.specs.declared.renewed_file.RenewedFile.{RenewedFile}

-- the place of the file
abbrev pub place_of : {P D : Type 0} → RenewedFile P D → P
place_of file = file.place

-- when the file is renewed, and what then stays in it
abbrev pub terms_of : {P D : Type 0} → RenewedFile P D → RenewalTerms
terms_of file = file.terms

-- the number of bytes that were appended since the last renewal
abbrev pub grown_of : {P D : Type 0} → RenewedFile P D → ℕ
grown_of file = file.grown

-- why the last renewal that was tried left the old file, if it did
abbrev pub held_back_of : {P D : Type 0} → RenewedFile P D → Option StartFault
held_back_of file = file.held_back

-- whether a call has failed
abbrev pub HasFailed : {P D : Type 0} → RenewedFile P D → Type 0
HasFailed file = file.has_failed ≡ true

-- whether a call leaves the terms, and adds the bytes that it appends to the number of bytes since
-- the last renewal, up to 2^64 - 1
abbrev pub GrowsBy : {P D : Type 0} → FileCall → RenewedFile P D → RenewedFile P D → Type 0
GrowsBy (Append bytes) old new =
    (terms_of new ≡ terms_of old) × (grown_of new ≡ min (grown_of old + length bytes) (2 ^ 64 - 1))
GrowsBy _ old new = (terms_of new ≡ terms_of old) × (grown_of new ≡ grown_of old)

-- whether the new text is that of the renewed journal; or it is the old one, which is not renewed
-- for this fault
abbrev pub IsRenewedUnless : (depth : ℕ) → Option StartFault → (old new : List ℕ) → Type 0
IsRenewedUnless depth None old new = IsRenewalOf depth old new
IsRenewedUnless depth (Some fault) old new = (new ≡ old) × IsRenewFault old fault

-- Whether a renewal is tried exactly if the file has grown by more than the limit of its terms.
-- Then it counts from 0 again, and the journal is renewed with the events of its terms, or stays
-- for a fault that is kept. The bytes are claimed if files of its place act as the crash model has
-- them.
pub record RenewsOnTerms {P D : Type 0} (model : FileModel P) (old new : RenewedFile P D)
    : Type 0 where
  pub terms : terms_of new ≡ terms_of old
  pub early : grown_of old ≤ (terms_of old).limit → new ≡ old
  pub counts_anew : (terms_of old).limit < grown_of old → grown_of new ≡ 0
  pub due : (terms_of old).limit < grown_of old → model.acts
      → IsRenewedUnless (terms_of old).depth (held_back_of new) (model.seen (place_of old))
      (model.seen (place_of new))

-- the model of such files, from that of their places: they act as the crash model says if the
-- places do
abbrev pub renewed_model : {P D : Type 0} → FileModel P → FileModel (RenewedFile P D)
renewed_model model = record {
  acts = model.acts;
  identity = λ file. model.identity (place_of file);
  seen = λ file. model.seen (place_of file);
  may_leave = λ file. model.may_leave (place_of file);
  moment = λ file. model.moment (place_of file);
  left_since = λ file. model.left_since (place_of file);
  stored = model.stored;
  renews = IsRenewedAs;
  has_failed = HasFailed;
  overflows = λ file. model.overflows (place_of file);
  also = GrowsBy;
  counts_now = λ file. model.counts_now (place_of file);
  only_now = λ file. model.only_now (place_of file);
}
