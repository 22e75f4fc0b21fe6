use Rattle.fw_ledger.proofs.Taking.{takes_stand}
use Rattle.fw_ledger.proofs.ledger.Ledger.take_request.Goals as goal

pub invariant_of-self : goal.invariant_of-self
invariant_of-self c =
    let h = c.self.invariant in
    let q = c.requires.asked in
    takes_stand _ _ _ _ _ h.0 _ h.1 (c.take_request.ensures h.0 q.0 h.1 q.1)
