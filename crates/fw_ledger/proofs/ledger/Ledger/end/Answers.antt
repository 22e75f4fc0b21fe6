use Rattle.fw_model_account.specs.Packets.{ended}
use Rattle.fw_ledger.proofs.ledger.Ledger.end.Goals as goal

pub invariant_of-self : goal.invariant_of-self
invariant_of-self c =
    let h = c.self.invariant in
    (ended c.args.device h.0, c.end.ensures h.0 h.1)
