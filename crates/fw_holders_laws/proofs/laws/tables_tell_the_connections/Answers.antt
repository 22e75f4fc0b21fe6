use Rattle.fw_holders_laws.proofs.Plugs.{outputs_with_line, inputs_with_line, connected_in_range}
use Rattle.fw_holders_laws.proofs.laws.tables_tell_the_connections.Goals as goal

pub returns : goal.returns
returns c = record { outputs = outputs_with_line; inputs = inputs_with_line; range = connected_in_range }
