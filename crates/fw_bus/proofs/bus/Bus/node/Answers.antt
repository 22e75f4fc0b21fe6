-- A node is lent exactly if the device is on the bus of the state.
use Rattle.std.proofs.Common.{◌≡◌, ℕ, true, false, List, Option, Some, None, ap, sym, subst, IfSome, Bor}
use Rattle.std.specs.Option.{IfNone, option_map}
use Rattle.fw_node.specs.State.{NodeState}
use Rattle.fw_devices.specs.Network.{is_node, node_at}
use Rattle.fw_model_run.specs.State.{State}
use Rattle.fw_model_run.specs.Good.{IsGood}
use Rattle.fw_bus_state.specs.declared.machine.Machine.{Machine}
use Rattle.fw_bus.specs.Buses.{BusView, LendsNode}
use Rattle.fw_bus_state.specs.Lingering.{HasLingering}
use Rattle.fw_bus_state.specs.Reels.{HasHearers}
use Rattle.fw_bus_state.specs.Stands.{HasNodes, StandsFor, seen}
use Rattle.fw_bus.proofs.Runs.{run_good}
use Rattle.fw_bus.proofs.Lends.{lends_none, lends_some}
use Rattle.fw_bus.proofs.bus.Bus.node.Goals as goal

lent_of : (s : State) (nodes : List NodeState) (d : ℕ) (o : Option (Bor NodeState)) → IsGood s → HasNodes nodes (seen s) → HasLingering nodes s.account.continues → HasHearers nodes s.dub.lingers
    → IfNone o (is_node nodes d ≡ false) → IfSome o (λ n. (n.now ≡ node_at nodes d) × (is_node nodes d ≡ true)) → LendsNode s d (option_map (λ (n : Bor NodeState). n.now) o)
lent_of s nodes d None g h lingers hears none some = lends_none s nodes d g h lingers hears none
lent_of s nodes d (Some n) g h lingers hears none some = let P : NodeState → Type 0 = λ x. LendsNode s d (Some x) in subst P (sym some.0) (lends_some s nodes d g h lingers hears some.1)

pub returns : goal.returns
returns c = record {
  lent = λ commands actions log s run st.
      let P : Machine → Type 0 = λ m. StandsFor m s in
      let here : StandsFor c.self.inside.machine s = subst P (ap (λ (b : BusView). b.machine) (sym c.self.view_is)) st in
      lent_of s c.self.inside.machine.devices.nodes c.args.device c.node.result (run_good run) here.devices.nodes here.devices.lingering here.devices.hearers c.node.ensures.none c.node.ensures.some;
}
