use Rattle.fw_log.proofs.Common.{get_or, ap, sym, ◌∙◌, is_length}
use Rattle.fw_log.proofs.HeadLaws.{after_length}
use Rattle.fw_log.proofs.read_head.entry_fault.Goals as goal

pub returns-in-Two : goal.returns-in-Two
returns-in-Two c =
    c.epoch_fault.ensures
    ∙ after_length c.args.version c.args.epoch c.args.place c.args.last c.args.e.now c.if-e-lt-LENGTH_END.false (sym c.is_kind.ensures ∙ c.if-not-is_kind.false)
    (sym (c.is_length.ensures ∙ ap (is_length (get_or c.args.e.now 0 0)) c.length_of.ensures) ∙ c.if-not-is_length.false) c.in-Two.is
