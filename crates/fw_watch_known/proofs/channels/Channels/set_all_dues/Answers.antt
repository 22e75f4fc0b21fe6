use Rattle.std.proofs.Common.{ap, sym, ◌∙◌, ◌+◌, ℕ, Bool}
use Rattle.fw_watch_known.specs.Channels.{is_taken, is_to_be_used, with_due}
use Rattle.fw_watch_known.proofs.LoopLaws.{no_dues, dues_more}
use Rattle.fw_watch_known.proofs.channels.Channels.set_all_dues.Goals as goal

pub loop-at-init : goal.loop-at-init
loop-at-init c = sym (no_dues c.args.first c.args.old c.args.new c.args.due c.args.plugs.now c.args.self.now)

pub loop-at-preserved : goal.loop-at-preserved
loop-at-preserved c =
    let k : ℕ = c.args.first + c.loop-at.at in
    c.set_due.ensures
    ∙ ap (λ (b : Bool). with_due b k c.args.due c.loop-at.self) (c.is_to_be_used-to_be_used.ensures ∙ ap (λ (b : Bool). is_to_be_used b k c.args.plugs.now) c.is_taken.ensures)
    ∙ ap (with_due (is_to_be_used (is_taken c.loop-at.at c.args.old c.args.new) k c.args.plugs.now) k c.args.due) c.loop-at.invariant
    ∙ sym (dues_more c.loop-at.at c.args.first c.args.old c.args.new c.args.due c.args.plugs.now c.args.self.now)
