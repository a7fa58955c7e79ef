-- How a journal is kept.
--     depth_for    the number of events that stay in it
--     terms_for    when it is renewed, and what then stays in it
use Rattle.std.specs.Prelude.{ℕ, max, min}
use Rattle.relay_recorder.specs.Recording.{max_capacity}
use Rattle.journal_files.specs.declared.renewed_file.RenewalTerms.{RenewalTerms}
use Rattle.server_files.specs.declared.journal.JournalOptions.{JournalOptions}

-- the number of events that stay in a journal: that of the options, or the nearest that a recorder
-- can keep
abbrev pub depth_for : JournalOptions → ℕ
depth_for options = max 1 (min options.depth max_capacity)

-- when a journal is renewed, and how many events stay in it
abbrev pub terms_for : JournalOptions → RenewalTerms
terms_for options = record { limit = options.limit; depth = depth_for options }
