use Rattle.fw_bus_state.proofs.Common.{◌≡◌, Some, candidate_in}
use Rattle.fw_bus_state.proofs.HeldCandidates.{held_at}
use Rattle.fw_bus_state.proofs.candidates.Candidates.hear.Goals as goal

pub hear-requires-clause-stands : goal.hear-requires-clause-stands
hear-requires-clause-stands c =
    let here : candidate_in c.args.self.now c.args.device ≡ Some c.in-Some.candidate =
    held_at c.args.self.now c.self.inside.list.items c.self.inside.begun c.args.device c.from.result c.index_mut.result.now c.in-Some.candidate
    c.self.view_is c.requires.device c.from.ensures c.index_mut.ensures.value c.in-Some.is in
    c.requires.stands c.in-Some.candidate here

pub hear-requires-clause-complete : goal.hear-requires-clause-complete
hear-requires-clause-complete c = c.requires.complete
