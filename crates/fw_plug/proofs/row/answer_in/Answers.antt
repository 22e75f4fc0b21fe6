use Rattle.std.proofs.Common.{Some, refl}
use Rattle.fw_plug.proofs.Rows.{words_answered, lingering_answered}
use Rattle.fw_plug.proofs.row.answer_in.Goals as goal

pub returns-clause-words : goal.returns-clause-words
returns-clause-words g c =
    words_answered c.args.plugs.now c.args.n c.index-plugs-n.result c.answer.new.self (g.R.RegisterRequest.request c.args.r.now) (Some c.args.n) refl c.requires c.answer.ensures.word

pub returns-clause-lingering : goal.returns-clause-lingering
returns-clause-lingering g c =
    lingering_answered c.args.plugs.now c.args.n c.index-plugs-n.result c.answer.new.self (g.R.RegisterRequest.request c.args.r.now) (Some c.args.n) refl c.requires c.answer.ensures.lingers
