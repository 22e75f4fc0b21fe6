use Rattle.fw_ledger.proofs.Taking.{follows_stand}
use Rattle.fw_ledger.proofs.ledger.Ledger.swap.Goals as goal

pub invariant_of-self : goal.invariant_of-self
invariant_of-self c =
    let h = c.self.invariant in
    follows_stand _ _ _ h.0 _ h.1 (c.swap.ensures h.0 h.1)
