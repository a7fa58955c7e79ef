-- The close of the files of a ledger.
--     IsClosedWhole     the log was copied into the file, which has the last commit without it
use Rattle.std.specs.Prelude.{◌≡◌, IsTrue}
use Rattle.sqlite_disk.specs.declared.Disk.{Ghosts}
use Rattle.sqlite_disk.specs.declared.Files.{Files}
use Rattle.sqlite_trees.specs.View.{IsClean}
use Rattle.sqlite_wal.specs.Reads.{AreClean}
use Rattle.sqlite_store.specs.FileStore.{files as store_files, log_frames, view}
use Rattle.sqlite.specs.declared.FileStore.{FileStore}
use Rattle.sqlite.specs.Closing.{IsCopied}
use Rattle.sqlite.specs.Files.{IsClosed}
use Rattle.sqlite.specs.Held.{Held}

-- Whether a connection was closed without an error: its store was left without a frame in its log,
-- and if the disk returned what was written, the file has the last commit, now and after a crash,
-- also without its log.
pub record IsClosedWhole {D : Type 0} {g : Ghosts D} (conn : Held (FileStore D g)) : Type 0 where
  pub last : FileStore D g
  pub files : Files D
  pub files_are : store_files last ≡ (files.log, files.db)
  pub closed : IsClosed conn last
  pub whole : IsClean (view last) → IsTrue (view last).is_open × (log_frames last ≡ 0)
  pub copied : AreClean g files.log files.db → IsCopied conn files
