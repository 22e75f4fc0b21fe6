use Rattle.std.proofs.Common.{ap, ◌∙◌, ◌+◌, ℕ, Bool}
use Rattle.fw_watch_known.specs.Channels.{is_to_be_used, with_due}
use Rattle.fw_watch_known.proofs.channels.Channels.set_one_due.Goals as goal

pub returns : goal.returns
returns c =
    let k : ℕ = c.args.first + c.args.at in
    c.set_due.ensures
    ∙ ap (λ (b : Bool). with_due b k c.args.due c.args.self.now) (c.is_to_be_used-to_be_used.ensures ∙ ap (λ (b : Bool). is_to_be_used b k c.args.plugs.now) c.is_taken.ensures)
