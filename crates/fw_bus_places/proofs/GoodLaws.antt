-- A machine that is as good as another stands for the same states.
use Rattle.std.proofs.Common.{sym, subst, ◌∙◌}
use Rattle.fw_async.specs.Wire.{Pairs}
use Rattle.fw_model_run.specs.State.{State}
use Rattle.fw_bus_state.specs.declared.machine.Machine.{Machine}
use Rattle.fw_bus_state.specs.Stands.{StandsFor}
use Rattle.fw_bus_places.specs.Places.{IsAsGood, HasSameLetters}

with_requests : (n : Machine) (w b : Pairs) (s : State) → HasSameLetters w n.wire → HasSameLetters b n.bids → StandsFor n s → StandsFor (record n { wire = w; bids = b }) s
with_requests n w b s same_wire same_bids h = record {
  devices = h.devices;
  clock = h.clock;
  table = h.table;
  directory = h.directory;
  wire = record { each = λ node. same_wire node ∙ h.wire.each node };
  streams = h.streams;
  answered = h.answered;
  unsent = h.unsent;
  election = h.election;
  bids = record { each = λ node. same_bids node ∙ h.bids.each node };
  reel = h.reel;
  around = h.around;
}

pub as_good : (m n : Machine) (s : State) → IsAsGood m n → StandsFor n s → StandsFor m s
as_good m n s good h = let P : Machine → Type 0 = λ x. StandsFor x s in subst P (sym good.same) (with_requests n m.wire m.bids s good.wire good.bids h)
