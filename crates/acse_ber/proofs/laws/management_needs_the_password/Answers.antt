use Rattle.acse_ber.proofs.Verdicts.{only_with_password, only_public, accepted_with_password}
use Rattle.acse_ber.proofs.laws.management_needs_the_password.Goals as goal

pub returns-clause-management : goal.returns-clause-management
returns-clause-management c = only_with_password

pub returns-clause-public : goal.returns-clause-public
returns-clause-public c = only_public

pub returns-clause-accepted : goal.returns-clause-accepted
returns-clause-accepted c = accepted_with_password
