use Rattle.std.proofs.Common.{List, sym, subst}
use Rattle.fw_log_requests.specs.declared.asked.Asked.{Asked}
use Rattle.fw_log_requests.specs.Standing.{AreKept}
use Rattle.fw_log_requests.proofs.ApartLaws.{answered_kept}
use Rattle.fw_log_requests.proofs.requests.Requests.take_answered.Goals as goal

pub invariant_of-self-else-is_empty : goal.invariant_of-self-else-is_empty
invariant_of-self-else-is_empty c =
    let P : List Asked → Type 0 = AreKept c.self.inside.askers in
    subst P (sym c.take_answered.ensures) (answered_kept c.self.inside.askers c.args.answer c.args.head.now c.self.inside.queue c.self.invariant)
