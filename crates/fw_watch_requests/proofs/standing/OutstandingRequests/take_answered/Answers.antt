use Rattle.std.proofs.Common.{List, sym, subst}
use Rattle.fw_watch_requests.specs.declared.asked.Asked.{Asked}
use Rattle.fw_watch_requests.specs.Kept.{AreKept}
use Rattle.fw_watch_requests.proofs.ApartLaws.{answered_kept}
use Rattle.fw_watch_requests.proofs.standing.OutstandingRequests.take_answered.Goals as goal

pub invariant_of-self-else-is_empty : goal.invariant_of-self-else-is_empty
invariant_of-self-else-is_empty c =
    let P : List Asked → Type 0 = AreKept c.self.inside.askers in
    subst P (sym c.take_answered-asked.ensures.known) (answered_kept c.self.inside.askers c.args.read c.args.head c.self.inside.queue c.self.invariant)
