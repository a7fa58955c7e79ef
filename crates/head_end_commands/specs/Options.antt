-- The values of the options of `run` and `ask`.
--     IsLimit      the time limit of an option
--     AreLimits    both time limits
--     AreWorkers   the number of workers
use Rattle.std.specs.Prelude.{◌≡◌, ◌≤◌, ◌*◌, ◌==◌, ℕ, codes, List, if◌then◌else◌}
use Rattle.std.specs.Duration.{as_nanos}
use Rattle.std.specs.declared.time.Duration.{Duration}
use Rattle.clap.specs.declared.parser.matches.Found.{Found}
use Rattle.head_end.specs.declared.tcp.TcpLimits.{TcpLimits}
use Rattle.program.specs.Values.{IsNumber}

-- the seconds of a limit; 0 means no limit, which is 2^32 - 1 seconds
abbrev pub limit_seconds : ℕ → ℕ
limit_seconds number = if number == 0 then 4_294_967_295 else number

-- whether this is the time limit of the option of this name, which is in seconds
pub record IsLimit (found : Found) (name : List ℕ) (limit : Duration) : Type 0 where
  pub number : ℕ
  pub number_is : IsNumber 32 found name number
  pub limit_is : as_nanos limit ≡ limit_seconds number * 1_000_000_000

-- whether these are the time limits that the options set for a connect and for a whole connection
pub record AreLimits (found : Found) (limits : TcpLimits) : Type 0 where
  pub connect : IsLimit found (codes "connect-timeout") limits.connect
  pub answer : IsLimit found (codes "timeout") limits.answer

-- whether this is a number of workers from 1 to 16, the one of the option `--workers` if that is in
-- range
pub record AreWorkers (found : Found) (workers : ℕ) : Type 0 where
  pub number : ℕ
  pub number_is : IsNumber 8 found (codes "workers") number
  pub workers_are : 1 ≤ number → number ≤ 16 → workers ≡ number
  pub some : 1 ≤ workers
  pub few : workers ≤ 16
