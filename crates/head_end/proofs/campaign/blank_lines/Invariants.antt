use Rattle.std.proofs.Common.{◌≡◌, map, take}
use Rattle.head_end.proofs.campaign.blank_lines.Given as goal

-- the lines so far have the names of the jobs so far
abbrev pub invariant-jobs : goal.invariant-jobs
invariant-jobs l = map (λ line. line.id) l.lines.items
    ≡ map (λ job. job.id) (take l.job-index l.jobs)
