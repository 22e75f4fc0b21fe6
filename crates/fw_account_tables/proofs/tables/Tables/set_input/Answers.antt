use Rattle.fw_account_tables.proofs.Common.{ap, with_item}
use Rattle.fw_account_tables.proofs.tables.Tables.set_input.Goals as goal

pub returns : goal.returns
returns c = ap (λ k. record c.args.self.now { inputs = with_item c.args.self.now.inputs k c.args.word; input_seats = with_item c.args.self.now.input_seats k c.args.seats }) c.place-place.ensures
