-- Each law is a lemma.
use Rattle.xdlms_blocks.proofs.BlockLemmas.{is_cut, is_whole, is_only, is_joined}
use Rattle.xdlms_blocks.proofs.law.one_text.Goals as goal

pub returns : goal.returns
returns c = record { cut = is_cut; whole = is_whole; unique = is_only; joined = is_joined }
