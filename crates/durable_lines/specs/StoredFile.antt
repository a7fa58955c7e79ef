-- The view that contracts have of a file that is limited in length.
--     StoredState     the raw file, its limit, and whether a call has failed
--     limit_of        the maximum length in bytes
--     HasFailed       a call has failed
--     StaysWithin     a call that keeps the limit
--     stored_model    the model of such files, from that of their raw files
use Rattle.std.specs.Prelude.{◌≡◌, ◌+◌, ◌<◌, ◌≤◌, ℕ, Bool, true, List, length, ⊤}
use Rattle.durable_lines.specs.FileModel.{FileCall, FileModel, Read, Append, Cut, Sync}
use Rattle.durable_lines.specs.RawModel.{RawModel, raw_bytes, LeftOfRaw}

-- a raw file, its maximum length in bytes, and whether a call on it has failed
pub record StoredState (R : Type 0) : Type 0 where
  pub raw : R
  pub limit : ℕ
  pub has_failed : Bool

-- the maximum length in bytes
abbrev pub limit_of : {R : Type 0} → StoredState R → ℕ
limit_of f = f.limit

-- whether a call has failed
abbrev pub HasFailed : {R : Type 0} → StoredState R → Type 0
HasFailed f = f.has_failed ≡ true

-- whether a call on these bytes that returns `Ok` keeps the limit: a read of no more bytes, or an
-- append to no more
abbrev pub StaysWithin : (limit : ℕ) → FileCall → List ℕ → Type 0
StaysWithin limit Read bytes = length bytes ≤ limit
StaysWithin limit (Append added) bytes = length bytes + length added ≤ limit
StaysWithin limit (Cut len) bytes = ⊤
StaysWithin limit Sync bytes = ⊤

-- the model of such files, from that of their raw files: they act as the crash model says if the
-- raw files do
abbrev pub stored_model : {R : Type 0} → RawModel R → FileModel (StoredState R)
stored_model model = record {
  acts = model.acts;
  identity = λ f. model.identity f.raw;
  seen = λ f. raw_bytes model f.raw;
  may_leave = λ f. LeftOfRaw model f.raw;
  moment = λ f. model.moment f.raw;
  left_since = λ f. model.left_since f.raw;
  stored = model.stored;
  renews = λ old new. ⊥;
  has_failed = HasFailed;
  overflows = λ f bytes. model.acts → limit_of f < length (raw_bytes model f.raw) + length bytes;
  also = λ call old new. (limit_of new ≡ limit_of old)
      × (model.acts → StaysWithin (limit_of old) call (raw_bytes model old.raw));
  counts_now = λ f. model.counts_now f.raw;
  only_now = λ f. model.only_now f.raw;
}
