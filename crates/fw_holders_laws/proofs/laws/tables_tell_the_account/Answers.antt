use Rattle.fw_holders_laws.proofs.Channels.{table_is, flows_end, rest_is_left}
use Rattle.fw_holders_laws.proofs.laws.tables_tell_the_account.Goals as goal

pub returns : goal.returns
returns c = record { table = table_is; flows = flows_end; left = rest_is_left }
