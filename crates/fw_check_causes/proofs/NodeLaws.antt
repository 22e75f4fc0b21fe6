-- Why a device has no node, as the machine shows it.
use Rattle.std.proofs.Common.{◌≡◌, ℕ, Bool, true, false, cond, List, Option, Some, ap, sym, ◌∙◌}
use Rattle.std.specs.Option.{option_map}
use Rattle.fw_devices.specs.Network.{is_node}
use Rattle.fw_bus_state.specs.declared.machine.Machine.{Machine}
use Rattle.fw_bus_state.specs.Stands.{StandsFor}
use Rattle.fw_model_run.specs.Good.{IsGood}
use Rattle.fw_model_run.specs.State.{State}
use Rattle.fw_check.specs.declared.why.NoNode.{NoNode}
use Rattle.fw_check.specs.declared.why.NoNode.TheVariants as NoNodes
use Rattle.fw_check_causes.specs.Causes.{name_at, no_node}
use Rattle.fw_check_causes.proofs.Seen.{on_same}

-- a device that is off, by the name of the first
abbrev pub node_off_by : List ℕ → Option (List ℕ) → Option NoNode
node_off_by name first = option_map (λ bus. NoNodes.Off name bus) first

abbrev by_test : Bool → List ℕ → Option (List ℕ) → Option NoNode
by_test on name first = cond on (Some (NoNodes.Relay name)) (node_off_by name first)

pub is_silent : (m : Machine) (s : State) (name : List ℕ) (d : ℕ) → IsGood s → StandsFor m s → is_node m.devices.nodes d ≡ true → no_node s name d ≡ Some (NoNodes.Relay name)
is_silent m s name d g st on = ap (λ (t : Bool). by_test t name (name_at s 0)) (sym (on_same m s d g st) ∙ on)

pub is_gone : (m : Machine) (s : State) (name : List ℕ) (d : ℕ) → IsGood s → StandsFor m s → is_node m.devices.nodes d ≡ false → no_node s name d ≡ node_off_by name (name_at s 0)
is_gone m s name d g st on = ap (λ (t : Bool). by_test t name (name_at s 0)) (sym (on_same m s d g st) ∙ on)
