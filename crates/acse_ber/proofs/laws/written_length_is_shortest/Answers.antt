use Rattle.acse_ber.proofs.Lengths.{length_is_short}
use Rattle.acse_ber.proofs.laws.written_length_is_shortest.Goals as goal

pub returns : goal.returns
returns c = λ bytes n are is. (length_is_short bytes n are is).1
