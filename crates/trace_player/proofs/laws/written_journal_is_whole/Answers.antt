use Rattle.trace_player.proofs.Appended.{events_whole, journal_whole}
use Rattle.trace_player.proofs.laws.written_journal_is_whole.Goals as goal

pub returns-clause-journal : goal.returns-clause-journal
returns-clause-journal c =
    journal_whole c.written_opening_is_read.ensures.read_back c.written_opening_is_read.ensures.rows

pub returns-clause-events : goal.returns-clause-events
returns-clause-events c = events_whole
