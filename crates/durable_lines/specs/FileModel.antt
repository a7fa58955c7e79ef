-- What contracts say of the files of a type, all in one value.
--     FileCall     a call on a file
--     FileModel    what the files of a type are, and what a crash may leave of them
use Rattle.std.specs.Prelude.{◌≤◌, ℕ, List}

-- a call on a file, other than a renewal
pub data FileCall : Type 0 where
  Read : FileCall
  Append : (bytes : List ℕ) → FileCall
  Cut : (len : ℕ) → FileCall
  Sync : FileCall

-- What the files of a type are, and what a crash may leave of them. Each type of files gives it
-- once, and contracts that speak of any file take it from there.
pub record FileModel (F : Type 0) : Type 1 where
  -- Files of this type act as the crash model says. The clauses on the bytes hold only then. No
  -- contract can promise it of a file of the operating system.
  pub acts : Type 0
  -- Which file it is, a number that no call changes. A file that is replaced under its name keeps
  -- the number.
  pub identity : F → ℕ
  -- the bytes that a read returns
  pub seen : F → List ℕ
  -- what a crash at this moment may leave
  pub may_leave : F → List ℕ → Type 0
  -- the moment, a number that never falls
  pub moment : F → ℕ
  -- what a crash at this moment, or at any since an earlier one, may have left
  pub left_since : F → ℕ → List ℕ → Type 0
  -- A sync of the file with this number has returned while it had these bytes. Generic code gets it
  -- only from `sync`; once known, it holds for good.
  pub stored : ℕ → List ℕ → Type 0
  -- The second bytes renew the first: they tell in another way what the first do. No bytes renew
  -- others in a file that is never renewed.
  pub renews : List ℕ → List ℕ → Type 0
  -- the file has failed
  pub has_failed : F → Type 0
  -- the file would exceed its limit with these further bytes; `⊤` claims nothing
  pub overflows : F → List ℕ → Type 0
  -- what a call that returns `Ok` does besides what its other clauses say; `⊤` if it does no more
  pub also : FileCall → F → F → Type 0
  -- a law: this moment is one of those since an earlier one
  pub counts_now : (file : F) (t : ℕ) (c : List ℕ) → t ≤ moment file → may_leave file c
      → left_since file t c
  -- a law: since this moment there is no other
  pub only_now : (file : F) (c : List ℕ) → left_since file (moment file) c → may_leave file c
