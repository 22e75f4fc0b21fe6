use Rattle.fw_async.proofs.Common.{◌++◌, ap, ◌∙◌}
use Rattle.fw_async.proofs.ExactLaws.{spelled_alone}
use Rattle.fw_async.proofs.writer.write_packet.Goals as goal

pub returns-clause-begins_no_other : goal.returns-clause-begins_no_other
returns-clause-begins_no_other c q more g e = spelled_alone c.args.p.now q more c.requires g (e ∙ ap (λ t. t ++ more) c.spell.ensures)
