-- What carrying an order out asks of the machine.
use Rattle.std.specs.Prelude.{ℕ, ◌≡◌, ◌+◌, ◌*◌, ◌<◌, ◌≤◌, ◌^◌, ◌&&◌, not, nat_le, if◌then◌else◌, Bool, false, is_some, [], length, None, Ok, IsTrue, IsFalse, ⊤}
use Rattle.fw_tree.specs.declared.facts.End.{End}
use Rattle.fw_tree.specs.declared.TreeFault.{TreeFault}
use Rattle.fw_tree.specs.Topology.{Topology, IsFault}
use Rattle.fw_cmp_jobs.specs.Fits.{SlotFits}
use Rattle.fw_cmp.specs.Losses.{Awaits}
use Rattle.fw_cmp.specs.Starts.{break_fault}
use Rattle.fw_terms.specs.Devices.{has_unit}
use Rattle.fw_devices.specs.Network.{Network, is_node, kind_at, kinds_of}
use Rattle.fw_order.specs.declared.limits.TheConstants.{MOST_HALF_STEPS, MOST_RESETS, MOST_WRITTEN_CYCLES}
use Rattle.fw_order.specs.declared.order.Access.{Access}
use Rattle.fw_order.specs.declared.order.Access.TheVariants.{Read, Swap}
use Rattle.fw_order.specs.declared.order.Order.{Order}
use Rattle.fw_order.specs.declared.order.Order.TheVariants as Orders
use Rattle.fw_model_run.specs.Actions.{AccessFits}
use Rattle.fw_model_run.specs.Afterwards.{slot_of, start_of}
use Rattle.fw_model_run.specs.Named.{is_guarded_at, is_guarded_in}
use Rattle.fw_bus_state.specs.declared.machine.Machine.{Machine}
use Rattle.fw_bus_state.specs.Tables.{states_of}
use Rattle.fw_bus_state.specs.Stands.{is_linked_in, is_living_in, living_in, read_in}
use Rattle.fw_terms.specs.Devices.{is_capable}
use Rattle.fw_bus_state.specs.Candidates.{candidate_in}

-- no fault of the cabling holds
abbrev pub CanJoin : Topology → End → End → Type 0
CanJoin t a b = (f : TreeFault) → IsFault t a b f → ⊥

-- one of the ends is on the bus, and the other is off
abbrev pub joins_in : Machine → End → End → Bool
joins_in m a b = if is_node m.devices.nodes a.device then not (is_node m.devices.nodes b.device) else is_node m.devices.nodes b.device

-- a swap at a register that only controllers' procedures swap
abbrev pub is_guarded : Access → Bool
is_guarded (Read offset) = false
is_guarded (Swap offset swap) = is_guarded_at offset

-- or, from the first candidate on, a swap of BUS_MANAGER_ID
abbrev pub is_guarded_by : Bool → Access → Bool
is_guarded_by begun (Read offset) = false
is_guarded_by begun (Swap offset swap) = is_guarded_in begun offset

-- a deck or a camcorder, on the bus or off
abbrev pub has_deck_in : Network → ℕ → Bool
has_deck_in n d = has_unit (kind_at (kinds_of n.nodes) d)

-- an order can be carried out on the machine as it is
abbrev pub MayCarry : Machine → Order → Type 0
MayCarry m Orders.Withhold = m.devices.names ≡ []
MayCarry m (Orders.Declare name kind ports speed) = (length m.devices.names < 63) × (1 ≤ ports) × (ports ≤ 27) × (speed ≤ 2)
MayCarry m (Orders.Cable a b) = CanJoin m.devices.topology a b × IsFalse (joins_in m a b && nat_le MOST_RESETS m.resets)
MayCarry m (Orders.Reset d) = IsTrue (is_node m.devices.nodes d) × (m.resets < MOST_RESETS)
MayCarry m (Orders.Connect d w i) = IsTrue (is_living_in m d) × SlotFits (slot_of w) × (start_of d w (states_of m.controllers d).state ≡ Ok i)
MayCarry m (Orders.Break d slot) = IsTrue (is_living_in m d) × (break_fault (states_of m.controllers d).state slot ≡ None)
MayCarry m (Orders.Step d count) = IsTrue (is_living_in m d) × (m.half_steps + count ≤ MOST_HALF_STEPS)
MayCarry m (Orders.Settle rounds) = m.half_steps + rounds * length (living_in m) ≤ MOST_HALF_STEPS
MayCarry m (Orders.Wait cycles) = m.cycle + cycles ≤ 2 ^ 52
MayCarry m (Orders.Cycles count) = (m.cycle + count ≤ 2 ^ 52) × (0 < length m.devices.nodes → m.written + count ≤ MOST_WRITTEN_CYCLES)
MayCarry m (Orders.Die d late) = IsTrue (is_living_in m d)
MayCarry m (Orders.Lose d) = IsTrue (is_living_in m d) × Awaits (states_of m.controllers d) × (m.resets < MOST_RESETS)
MayCarry m (Orders.Start d) = IsTrue (is_linked_in m.devices d)
MayCarry m (Orders.Transact x) = IsTrue (is_living_in m x.from) × IsTrue (is_linked_in m.devices x.to) × IsFalse (is_guarded_by m.candidates.begun x.access) × AccessFits x.access
MayCarry m (Orders.Command a b bytes) = IsTrue (is_living_in m a) × IsTrue (is_linked_in m.devices b) × (length bytes ≤ 512)
MayCarry m (Orders.Insert d tape system) = (d < length m.devices.nodes) × IsTrue (has_deck_in m.devices d)
MayCarry m (Orders.Eject d) = (d < length m.devices.nodes) × IsTrue (has_deck_in m.devices d)
MayCarry m (Orders.Show d offset) = IsTrue (is_linked_in m.devices d) × (offset < 2 ^ 12) × ((read_in m d offset).rcode ≡ 0)
MayCarry m (Orders.Candidate d) = IsTrue (is_living_in m d) × IsTrue (is_capable (kind_at (kinds_of m.devices.nodes) d))
MayCarry m (Orders.Contend d count) = IsTrue (is_living_in m d) × IsTrue (is_some (candidate_in m.candidates d)) × (m.half_steps + count ≤ MOST_HALF_STEPS)
MayCarry m (Orders.Dub d) = (d < length m.devices.nodes) × IsTrue (has_deck_in m.devices d) × IsTrue (is_node m.devices.nodes d)
MayCarry m Orders.End = ⊤
