use Rattle.fw_log.proofs.Common.{length, ap, ◌∙◌, arith}
use Rattle.fw_log.proofs.IdsLaws.{kept_all, kept_full}
use Rattle.fw_log.proofs.read_reset.keep.Goals as goal

pub returns-then-as_slice-lt252 : goal.returns-then-as_slice-lt252
returns-then-as_slice-lt252 c = c.push.ensures ∙ kept_all c.args.ids.now c.args.packet (omega (arith, ap length c.as_slice.ensures.value, c.if-as_slice-lt252.true))

pub returns-else-as_slice-lt252 : goal.returns-else-as_slice-lt252
returns-else-as_slice-lt252 c = kept_full c.args.ids.now c.args.packet (omega (arith, ap length c.as_slice.ensures.value)) c.requires
