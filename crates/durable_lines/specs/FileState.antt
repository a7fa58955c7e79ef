-- A file in memory at one moment, and what a crash may leave of it.
--     State            the bytes of the last sync, and the cuts and appends after it
--     seen_of          the bytes that a read returns
--     IsLeft           what a crash at that moment may leave
--     synced_with      the state after a sync
--     after_append     the state after an append
--     after_cut        the state after a cut
--     torn_text        the bytes that a crash leaves of appended ones, chosen byte by byte
--     text_left_by     the bytes that a crash leaves if all cuts are on the disk
--     text_left_uncut  the bytes that a crash leaves if the cuts are not on the disk
use Rattle.std.specs.Prelude.{◌⊎◌, ◌-◌, ℕ, List, [], ◌∷◌, ◌++◌, length, max, take, nat_le}
use Rattle.std.specs.Prelude.{if◌then◌else◌}
use Rattle.durable_lines.specs.CrashModel.{TornAppend, TornCut}
use Rattle.durable_lines.specs.declared.byte_fate.ByteFate.{ByteFate}
use Rattle.durable_lines.specs.declared.byte_fate.ByteFate.TheVariants.{Kept, Zeroed, Missing}

-- The bytes of the last sync, the number of them that no cut has removed, and the bytes appended
-- after those.
pub record State : Type 0 where
  pub synced : List ℕ
  pub kept : ℕ
  pub added : List ℕ

-- the bytes that a read returns
abbrev pub seen_of : State → List ℕ
seen_of s = take s.kept s.synced ++ s.added

-- Whether a crash before the next sync may leave this: the synced bytes with the cut done, in part
-- or not at all, or with the cut done and an interrupted append.
abbrev pub IsLeft : State → List ℕ → Type 0
IsLeft s c = TornCut s.kept s.synced c ⊎ TornAppend s.added (take s.kept s.synced) c

-- the state of a file that is synced with these bytes
abbrev pub synced_with : List ℕ → State
synced_with bytes = record { synced = bytes; kept = length bytes; added = [] }

-- the state after an append
abbrev pub after_append : List ℕ → State → State
after_append bytes s = record { synced = s.synced; kept = s.kept; added = s.added ++ bytes }

-- the state after a cut to a length: it removes appended bytes first
abbrev pub after_cut : ℕ → State → State
after_cut len s = if nat_le len s.kept
    then (record { synced = s.synced; kept = len; added = [] })
    else (record { synced = s.synced; kept = s.kept; added = take (len - s.kept) s.added })

-- the bytes that a crash leaves of appended ones, each of which is kept, zeroed, or missing with
-- all bytes after it; a byte without a fate is missing
abbrev pub torn_text : List ByteFate → List ℕ → List ℕ
torn_text [] bytes = []
torn_text (fate ∷ fates) [] = []
torn_text (Kept ∷ fates) (byte ∷ bytes) = byte ∷ torn_text fates bytes
torn_text (Zeroed ∷ fates) (byte ∷ bytes) = 0 ∷ torn_text fates bytes
torn_text (Missing ∷ fates) (byte ∷ bytes) = []

-- the bytes that a crash leaves if all cuts are on the disk
abbrev pub text_left_by : List ByteFate → State → List ℕ
text_left_by fates s = take s.kept s.synced ++ torn_text fates s.added

-- the bytes that a crash leaves if the cuts are not on the disk, or only down to a length
abbrev pub text_left_uncut : ℕ → State → List ℕ
text_left_uncut len s = take (max s.kept len) s.synced
