-- A run is the length of a prefix of the newest rows.
use Rattle.std.proofs.Common.{refl}
use Rattle.std.proofs.lemmas.List.Sums.{prefix_len-le-length, prefix_len_passes, prefix_len_stops}
use Rattle.limiter_core.specs.Rows.{Entry, is_past, run}
use Rattle.limiter_core.proofs.laws.run_means.Goals as goal

pub returns-clause-within : goal.returns-clause-within
unfolding run
returns-clause-within c = λ side rows. prefix_len-le-length (is_past side) rows

pub returns-clause-past : goal.returns-clause-past
unfolding run
returns-clause-past c = λ side rows k less. prefix_len_passes (is_past side) rows k Entry less

pub returns-clause-longest : goal.returns-clause-longest
unfolding run
returns-clause-longest c = λ side rows less. prefix_len_stops (is_past side) rows Entry less

pub returns-clause-suffix : goal.returns-clause-suffix
unfolding run
returns-clause-suffix c = λ side rows. refl
