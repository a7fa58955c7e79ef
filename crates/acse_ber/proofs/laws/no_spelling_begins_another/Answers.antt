use Rattle.acse_ber.proofs.OneValue.{one_aarq, one_aare, one_release}
use Rattle.acse_ber.proofs.laws.no_spelling_begins_another.Goals as goal

pub returns-clause-aarq : goal.returns-clause-aarq
returns-clause-aarq c = one_aarq

pub returns-clause-aare : goal.returns-clause-aare
returns-clause-aare c = one_aare

pub returns-clause-release : goal.returns-clause-release
returns-clause-release c = one_release
