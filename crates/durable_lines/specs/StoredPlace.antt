-- The view that contracts have of a name in a folder.
--     HasFailed       a call has failed
--     with_file       a place after it was given its file
--     seen_in         the bytes of its file
--     ChangesFile     what a call does to the bytes of its file
--     SyncsFolder     the calls on the folder within a call on the file
--     CallsFolder     the calls on the folder within a call on the name
use Rattle.std.specs.Prelude.{◌≡◌, ◌≤◌, ℕ, Bool, true, Option, None, Some, IfSome}
use Rattle.std.specs.Prelude.{List, [], ◌∷◌, ◌++◌, length, take, ⊤}
use Rattle.durable_lines.specs.Calls.{PlaceCall, CreateDraft, RenameDraft, SyncRename}
use Rattle.durable_lines.specs.CrashModel.{HasOneOutcome}
use Rattle.durable_lines.specs.FileModel.{FileCall, Read, Append, Cut, Sync}
use Rattle.durable_lines.specs.RawFolder.{FolderCall, SyncFolder, CreatesName, GivesName}
use Rattle.durable_lines.specs.RawModel.{RawModel, raw_bytes, LeftOfRaw}
use Rattle.durable_lines.specs.StoredFile.{StoredState}
use Rattle.durable_lines.specs.declared.stored_place.StoredPlace.{StoredPlace}

-- whether a call has failed
abbrev pub HasFailed : {F S : Type 0} → StoredPlace F S → Type 0
HasFailed p = p.has_failed ≡ true

-- a place after it was given its file: nothing else changes, so one that has failed remains failed
abbrev pub with_file : {F S : Type 0} → StoredPlace F S → StoredState S → StoredPlace F S
with_file p given = record p { file = Some given }

-- the bytes of the file of a place, if it has one
abbrev pub seen_in : {R : Type 0} → RawModel R → Option (StoredState R) → List ℕ
seen_in model (Some f) = raw_bytes model f.raw
seen_in model None = []

-- whether a call on the file of a place that returns `Ok` does this to its bytes, if the files of
-- the folder act as the crash model says
abbrev pub ChangesFile : {R : Type 0} → RawModel R → FileCall
    → (old new : Option (StoredState R)) → Type 0
ChangesFile model Read old new = ⊤
ChangesFile model (Append bytes) old new = seen_in model new ≡ seen_in model old ++ bytes
ChangesFile model (Cut len) old new =
    len ≤ length (seen_in model old) → seen_in model new ≡ take len (seen_in model old)
ChangesFile model Sync old new =
    IfSome new (λ f. HasOneOutcome (raw_bytes model f.raw) (LeftOfRaw model f.raw))

-- whether a call on the file of a place that returns `Ok` makes these calls on the folder: none,
-- but for a sync after a rename, which syncs the folder. Until then it stays known that there was
-- one
abbrev pub SyncsFolder : FileCall → (was_renamed is_renamed : Bool) → (old new : List FolderCall)
    → Type 0
SyncsFolder Read was_renamed is_renamed old new = (new ≡ old) × (is_renamed ≡ was_renamed)
SyncsFolder (Append bytes) was_renamed is_renamed old new =
    (new ≡ old) × (is_renamed ≡ was_renamed)
SyncsFolder (Cut len) was_renamed is_renamed old new = (new ≡ old) × (is_renamed ≡ was_renamed)
SyncsFolder Sync was_renamed is_renamed old new =
    was_renamed ≡ true → new ≡ old ++ SyncFolder ∷ []

-- whether a call on the name of a place that returns `Ok` makes these calls on the folder
abbrev pub CallsFolder : PlaceCall → (name draft : List ℕ) → (is_renamed : Bool)
    → (old new : List FolderCall) → Type 0
CallsFolder CreateDraft name draft is_renamed old new = CreatesName draft old new
CallsFolder RenameDraft name draft is_renamed old new =
    GivesName name draft old new × (is_renamed ≡ true)
CallsFolder SyncRename name draft is_renamed old new = new ≡ old ++ SyncFolder ∷ []
