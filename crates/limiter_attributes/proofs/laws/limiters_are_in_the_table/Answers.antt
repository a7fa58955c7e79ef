use Rattle.limiter_attributes.proofs.InTable.{attribute_in_table, monitored_in_table}
use Rattle.limiter_attributes.proofs.laws.limiters_are_in_the_table.Goals as goal

pub returns : goal.returns
returns c = record { attributes = attribute_in_table; monitored = monitored_in_table }
