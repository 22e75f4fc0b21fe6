use Rattle.fw_async_fields.proofs.NodeLaws.{number_back, local_back, id_back}
use Rattle.fw_async_fields.proofs.node_ids.node_ids_are_numbers.Goals as goal

pub returns-clause-number : goal.returns-clause-number
returns-clause-number c = number_back

pub returns-clause-local : goal.returns-clause-local
returns-clause-local c = local_back

pub returns-clause-id : goal.returns-clause-id
returns-clause-id c = id_back
