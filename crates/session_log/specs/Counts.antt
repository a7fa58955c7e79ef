-- The answers of a session, counted.
--     no_answers    the count before the first answer
--     count_with    the count after one more answer
use Rattle.std.specs.Prelude.{ℕ, ◌+◌, ◌-◌, ◌^◌, min}
use Rattle.session_log.specs.declared.answer.AnswerKind.{AnswerKind}
use Rattle.session_log.specs.declared.answer.AnswerKind.TheVariants.{Opened, NotOpened, Served}
use Rattle.session_log.specs.declared.answer.AnswerKind.TheVariants.{Refused, Other}
use Rattle.session_log.specs.declared.count.AnswerCount.{AnswerCount}

-- the count before the first answer: no requests, none refused
abbrev pub no_answers : AnswerCount
no_answers = record { requests = 0; refused = 0 }

-- a count with one more, up to 2^64 - 1
abbrev pub one_more : ℕ → ℕ
one_more n = min (n + 1) (2 ^ 64 - 1)

-- the count after one more answer; only an answer to a request counts
abbrev pub count_with : AnswerKind → AnswerCount → AnswerCount
count_with Served count = record { requests = one_more count.requests; refused = count.refused }
count_with Refused count =
    record { requests = one_more count.requests; refused = one_more count.refused }
count_with Opened count = count
count_with (NotOpened diagnostic) count = count
count_with Other count = count
