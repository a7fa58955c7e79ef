use Rattle.trace_player.proofs.JournalAgain.{grown_again, whole_again}
use Rattle.trace_player.proofs.laws.written_journal_is_read.Goals as goal

pub returns-clause-whole : goal.returns-clause-whole
returns-clause-whole c =
    whole_again c.written_opening_is_read.ensures.read_back c.written_opening_is_read.ensures.rows

pub returns-clause-grown : goal.returns-clause-grown
returns-clause-grown c =
    grown_again c.written_opening_is_read.ensures.read_back c.written_opening_is_read.ensures.rows
