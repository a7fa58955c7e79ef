-- Each law is a lemma.
use Rattle.wrapper_frame.proofs.LawLemmas.{is_found, is_only, has_end, is_read_back}
use Rattle.wrapper_frame.proofs.law.one_reading.Goals as goal

pub returns : goal.returns
returns c = record { found = is_found; unique = is_only; ends = has_end; read_back = is_read_back }
