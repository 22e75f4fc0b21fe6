use Rattle.fw_account_tables.proofs.Common.{sym, ◌∙◌, ChannelsAvailable}
use Rattle.fw_account_tables.proofs.Swapping.{swap_other}
use Rattle.fw_account_tables.proofs.ChannelSwaps.{half_is}
use Rattle.fw_account_tables.proofs.tables.Tables.swap_channels.Goals as goal

pub returns-then-argument-half : goal.returns-then-argument-half
returns-then-argument-half c = λ l h.
    swap_other c.args.self.now l c.args.c (ChannelsAvailable c.args.base) c.args.argument c.args.new h.sound
    (λ e. c.if-argument-half.true (sym e ∙ sym (c.half.ensures ∙ half_is c.args.self.now l c.args.base h c.requires.half)))
