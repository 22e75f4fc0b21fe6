use Rattle.std.proofs.Common.{rules, ◌≡◌, refl, cond, ap, ◌∙◌, sym}
use Rattle.std.specs.Option.{is_some}
use Rattle.fw_cip.specs.Streams.{heard}
use Rattle.fw_log_text.specs.Report.{gap_of}
use Rattle.fw_log_text.proofs.TallyLaws.{counts_more, not_full, one_block, one_gap}
use Rattle.fw_log_text.proofs.report.Channel.take.Goals as goal
use Rattle.fw_log_text.proofs.report.Channel.take.Goals.{in-Gap, in-Block, in-Empty, then-is_some, else-is_some}

pub returns : goal.returns
returns c packets few h =
    let self = c.args.self in
    let block : c.if-is_some.block ≡ cond (is_some c.args.packet.now.block) 1 0 = elim c.if-is_some.branch [
      | then-is_some w ↦ w.block-is ∙ ap (λ b. cond b 1 0) (sym w.if-is_some.true ∙ c.is_some.ensures)
      | else-is_some w ↦ w.block-is ∙ ap (λ b. cond b 1 0) (sym w.if-is_some.false ∙ c.is_some.ensures)
    ] in
    let gap : c.match-take.gap ≡ gap_of (heard self.listener c.args.packet.now) = elim c.match-take.branch [
      | in-Block w ↦ w.gap-is ∙ ap gap_of (sym w.in-Block.is ∙ c.take.ensures.answer)
      | in-Empty w ↦ w.gap-is ∙ ap gap_of (sym w.in-Empty.is ∙ c.take.ensures.answer)
      | in-Gap w ↦ w.gap-is ∙ ap gap_of (sym w.in-Gap.is ∙ c.take.ensures.answer)
    ] in
    counts_more packets c.args.packet.now self _ h (c.take.ensures.expects packets h.listener)
    (not_full self.packets self.packets 1 1 packets h.count few (search rules) (search rules) refl c.saturating_add.ensures)
    (not_full self.packets self.blocks _ _ packets h.count few self.fewer_blocks (one_block c.args.packet.now) block c.saturating_add-2.ensures)
    (not_full self.packets self.gaps _ _ packets h.count few self.fewer_gaps (one_gap (heard self.listener c.args.packet.now)) gap c.saturating_add-3.ensures)
