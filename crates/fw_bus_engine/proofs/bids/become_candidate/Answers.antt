use Rattle.fw_bus_engine.proofs.Common.{List, sym, subst, ◌∙◌, arith, Action, Carries, HasElection, living_there}
use Rattle.fw_order.specs.declared.order.Order.TheVariants as Orders
use Rattle.fw_model_run.specs.Carrying.{becomes_candidate, stays_candidate}
use Rattle.fw_bus_engine.proofs.OneAction.{does_as, does_nothing, does_silent}
use Rattle.fw_bus_engine.proofs.Tying.{enter_turns}
use Rattle.fw_bus_engine.proofs.bids.become_candidate.Goals as goal

pub enter-requires : goal.enter-requires
enter-requires g c =
    let st = c.requires.ready.stands in
    let low = (living_there c.args.machine.now c.args.device c.requires.ready c.requires.living).node in
    let nodes = st.devices.nodes.size in
    let size = st.election.size in
    omega (arith, low, nodes, size)

-- one that is a candidate stays one
pub returns-then-is_candidate : goal.returns-then-is_candidate
returns-then-is_candidate g c = record {
  does = does_nothing c.args.machine.now (g.K.Sink.held c.args.sink.now) (g.K.Sink.faults c.args.sink.now) tt
      (λ s good st. stays_candidate (sym (c.is_candidate.ensures.election s.election
      (subst (λ n. HasElection c.args.machine.now.candidates n s.election) (sym st.election.size) st.election)) ∙ c.if-is_candidate.true));
}

pub returns : goal.returns
returns g c = record {
  does = does_as (λ s t ys out p. subst (λ (z : List Action). Carries s (Orders.Candidate c.args.device) z out t) (sym p.0) (becomes_candidate p.1))
      (does_silent (g.K.Sink.held c.args.sink.now) (g.K.Sink.faults c.args.sink.now) c.args.machine.now.cycle tt
      (enter_turns c.args.machine.now c.enter.new.self c.args.device c.requires.living c.requires.capable
      (λ e h. sym c.if-is_candidate.false ∙ c.is_candidate.ensures.election e h) c.enter.ensures));
}
