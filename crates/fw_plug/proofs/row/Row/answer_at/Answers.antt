use Rattle.std.proofs.Common.{ap}
use Rattle.fw_plug.specs.Plugs.{RowWords}
use Rattle.fw_plug.proofs.Rows.{answered}
use Rattle.fw_plug.proofs.row.Row.answer_at.Goals as goal

pub returns-clause-words : goal.returns-clause-words
returns-clause-words g c =
    answered c.self.inside.plugs.items c.as_mut_slice.result.now c.answer_in.new.plugs c.args.self.now.words c.args.n (g.R.RegisterRequest.request c.args.r.now) c.as_mut_slice.ensures.value
    (ap (λ (v : RowWords). v.words) c.self.view_is) c.answer_in.ensures.count c.answer_in.ensures.words
