use Rattle.std.proofs.Common.{List, sym, subst}
use Rattle.fw_watch_requests.specs.declared.asked.Asked.{Asked}
use Rattle.fw_watch_requests.specs.Kept.{AreKept}
use Rattle.fw_watch_requests.proofs.ApartLaws.{source_kept}
use Rattle.fw_watch_requests.proofs.standing.OutstandingRequests.end_of.Goals as goal

pub invariant_of-self : goal.invariant_of-self
invariant_of-self c =
    let P : List Asked → Type 0 = AreKept c.self.inside.askers in
    subst P (sym c.take_source.ensures) (source_kept c.self.inside.askers c.args.source c.self.inside.queue c.self.invariant)
