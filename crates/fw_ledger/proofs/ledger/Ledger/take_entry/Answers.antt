use Rattle.fw_ledger.proofs.Taking.{takes_stand}
use Rattle.fw_ledger.proofs.ledger.Ledger.take_entry.Goals as goal

pub invariant_of-self : goal.invariant_of-self
invariant_of-self c =
    let h = c.self.invariant in
    takes_stand _ _ _ _ _ h.0 _ h.1 (c.take_entry.ensures h.0 h.1)
