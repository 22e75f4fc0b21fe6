use Rattle.std.proofs.Common.{◌∙◌, ℕ, List, ap, sym, subst, slice_index_or, false}
use Rattle.fw_watch_requests.specs.declared.asked.Asked.{Asked}
use Rattle.fw_watch_requests.specs.Kept.{AreKept}
use Rattle.fw_watch_requests.proofs.ApartLaws.{none_asked, same_kept}
use Rattle.fw_watch_requests.proofs.standing.OutstandingRequests.end_same.Goals as goal

pub take_same-requires : goal.take_same-requires
take_same-requires c f =
    none_asked c.self.inside.askers c.args.head.now c.self.inside.queue c.self.invariant.marked (ap (λ (k : ℕ). slice_index_or c.self.inside.askers k false) (sym c.asker_of.ensures) ∙ f)

pub invariant_of-self : goal.invariant_of-self
invariant_of-self c =
    let P : List Asked → Type 0 = AreKept c.self.inside.askers in
    subst P (sym c.take_same.ensures) (same_kept c.self.inside.askers c.args.head.now c.self.inside.queue c.self.invariant)
