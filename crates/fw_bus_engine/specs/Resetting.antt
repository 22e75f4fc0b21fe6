-- What a bus reset and the end of a reclaim second make of the machine.
use Rattle.std.specs.Prelude.{ℕ, ◌≡◌, ◌+◌, List, [], Bool, Option, Some, None, false, map, if◌then◌else◌}
use Rattle.std.specs.declared.result.Result.{Result}
use Rattle.fw_log_entry.specs.declared.entry.Entry.TheVariants.{Reset}
use Rattle.fw_cmp.specs.Losses.{after_bus_reset as controller_reset, after_end as controller_second}
use Rattle.fw_cmp_jobs.specs.declared.directory.Directory.{Directory}
use Rattle.fw_node.specs.State.{after_second}
use Rattle.fw_devices.specs.Decks.{passed}
use Rattle.fw_devices.specs.Network.{Network, is_node, node_at}
use Rattle.fw_devices.specs.Resets.{IsReset}
use Rattle.fw_model_run.specs.State.{list_to}
use Rattle.fw_model_run.specs.Giving.{GivesEntry}
use Rattle.fw_bus_state.specs.Faults.{CountsFaults}
use Rattle.fw_bus_state.specs.Giving.{Sides}
use Rattle.fw_bus_state.specs.Tables.{IsTable, count_of, states_of, dead_of}
use Rattle.fw_bus_state.specs.Stands.{is_linked_in}
use Rattle.fw_bus_state.specs.Streaming.{counted_on}
use Rattle.fw_bus_state.specs.declared.machine.Machine.{Machine}

-- the node number of a device that has a link
abbrev pub number_with_link : Network → ℕ → Option ℕ
number_with_link n d = if is_linked_in n d then (node_at n.nodes d).number else None

-- what controllers are told at a bus reset of this cycle, which begins a second or not
abbrev pub directory_in : Network → Bool → ℕ → Directory
directory_in n begins cycle = record { node = list_to 63 (number_with_link n); manager = n.latest.manager; over_at = if begins then cycle + 8000 else cycle }

-- The nodes are numbered anew, and each controller hears of it. The second begins, but for the first bus reset, before which device
-- 0 was no node.
pub record BeginsReset (m now : Machine) (initiator : ℕ) : Type 0 where
  pub reset : IsReset m.devices now.devices initiator now.devices.latest
  pub table : IsTable now.controllers (count_of m.controllers) (λ d. controller_reset now.devices.epoch (states_of m.controllers d)) (dead_of m.controllers)
  pub after : now ≡ record m {
    devices = now.devices;
    controllers = now.controllers;
    directory = directory_in now.devices (is_node m.devices.nodes 0) m.cycle;
    reclaiming = is_node m.devices.nodes 0;
    wire = [];
    bids = [];
  }

-- its entry was written, or cut off
pub record GivesReset {T E : Type 0} (m now : Machine) (initiator : ℕ) (sides : Sides) (result : Result T E) : Type 0 where
  pub begins : BeginsReset m now initiator
  pub gives : GivesEntry sides.held sides.after result m.cycle now.devices.epoch (Some (Reset now.devices.latest))
  pub faults : CountsFaults sides.count sides.counts result

-- cycles go by for the tapes of all devices
abbrev pub passed_in : ℕ → Network → Network
passed_in cycles n = record n { nodes = map (passed cycles) n.nodes }

-- The second is over: it no longer runs, no plug lingers, and each controller hears of it. One cycle goes by, in which tapes move and the
-- plugs that still talk count their blocks.
pub record RestsAfterSecond (m now : Machine) : Type 0 where
  pub table : IsTable now.controllers (count_of m.controllers) (λ d. controller_second (states_of m.controllers d)) (dead_of m.controllers)
  pub after : now ≡ record m {
    devices = record m.devices { nodes = map (passed 1) (map after_second m.devices.nodes) };
    controllers = now.controllers;
    cycle = m.cycle + 1;
    reclaiming = false;
    streams = counted_on 1 (map after_second m.devices.nodes) m.streams;
  }
