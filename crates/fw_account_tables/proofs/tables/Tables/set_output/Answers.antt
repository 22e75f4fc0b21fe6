use Rattle.fw_account_tables.proofs.Common.{ap, with_item}
use Rattle.fw_account_tables.proofs.tables.Tables.set_output.Goals as goal

pub returns : goal.returns
returns c = ap (λ k. record c.args.self.now { outputs = with_item c.args.self.now.outputs k c.args.word; output_seats = with_item c.args.self.now.output_seats k c.args.seats }) c.place-place.ensures
