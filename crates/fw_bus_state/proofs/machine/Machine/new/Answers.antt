use Rattle.fw_bus_state.proofs.Common.{◌<◌, ℕ, List, refl, sym, subst, arith, Network}
use Rattle.fw_devices.specs.Network.{no_devices}
use Rattle.fw_model_run.specs.State.{first_state, list_to}
use Rattle.fw_bus_state.specs.Stands.{HasDevices, devices_at}
use Rattle.fw_async.specs.Wire.{Pairs}
use Rattle.fw_bus_state.specs.Streaming.{HasStreams}
use Rattle.fw_bus_state.specs.Wires.{HasWire}
use Rattle.fw_bus_state.proofs.Counts.{nothing_sent}
use Rattle.fw_bus_state.proofs.WireResets.{wire_empty}
use Rattle.fw_model_run.proofs.Around.{first_beside}
use Rattle.fw_bus_state.specs.Bids.{HasBids}
use Rattle.fw_bus_state.proofs.machine.Machine.new.Goals as goal

-- before the first device nothing is declared
nothing_stands : HasDevices no_devices (devices_at first_state)
nothing_stands = record {
  topology = refl;
  names = refl;
  kinds = refl;
  nodes = record { size = refl; each = λ d lt. let low : d < 0 = lt in absurd (omega arith) };
  lingering = record { each = λ d lt. let low : d < 0 = lt in absurd (omega arith) };
  decks = record { each = λ d lt. let low : d < 0 = lt in absurd (omega arith); others = λ d past. refl };
  hearers = record { each = λ d lt. let low : d < 0 = lt in absurd (omega arith) };
  latest = refl;
  epoch = refl;
  manager = refl;
  withheld = refl;
}

-- and no controller is told of a node
pub returns : goal.returns
unfolding list_to
returns c = record {
  devices = subst (λ (n : Network). HasDevices n (devices_at first_state)) (sym c.requires.devices) nothing_stands;
  clock = record { cycle = refl; reclaiming = refl; half_steps = refl; written = refl; resets = refl };
  table = c.requires.controllers;
  directory = refl;
  wire = subst (λ (w : Pairs). HasWire w first_state) (sym c.new.ensures) (wire_empty first_state (λ d. refl));
  streams = subst (λ (counts : List ℕ). HasStreams counts first_state.streams) (sym c.new-2.ensures) nothing_sent;
  answered = refl;
  unsent = refl;
  election = c.requires.candidates;
  bids = subst (λ (w : Pairs). HasBids w first_state) (sym c.new-3.ensures) (record { each = λ node. refl });
  reel = record { tied_is = refl; reel_is = c.requires.reel };
  around = first_beside;
}
