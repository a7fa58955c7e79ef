use Rattle.trace_openings.proofs.OpeningText.{joined, joined_last}
use Rattle.trace_openings.proofs.limiter_writing.write_settings.Goals as goal

pub returns : goal.returns
returns c =
    let two = joined _ _ _ _ _ c.in_ok-write_value.ensures c.in_ok-write_value-2.ensures in
    let three = joined _ _ _ _ _ two c.in_ok-write_value-3.ensures in
    let four = joined _ _ _ _ _ three c.in_ok-write_value-4.ensures in
    let five = joined _ _ _ _ _ four c.in_ok-write_profile.ensures in
    let six = joined _ _ _ _ _ five c.in_ok-write_groups.ensures in
    joined_last _ _ _ _ _ c.write_actions.result six c.write_actions.ensures
