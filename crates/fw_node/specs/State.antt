-- What a node keeps, and what a bus reset and a request leave of it.
use Rattle.std.specs.Prelude.{◌≡◌, ℕ, ◌<◌, Bool, length, slice_index, Option, Some, None, if◌then◌else◌}
use Rattle.std.specs.Option.{option_map}
use Rattle.fw_terms.specs.declared.device.DeviceKind.{DeviceKind}
use Rattle.fw_terms.specs.Devices.{has_unit, output_plugs_of, input_plugs_of}
use Rattle.fw_fcp.specs.declared.frame.Frame.{Frame}
use Rattle.fw_avc.specs.State as Units
use Rattle.fw_avc.specs.State.{UnitState}
use Rattle.fw_csr.specs.declared.request.Request.{Request}
use Rattle.fw_csr.specs.Manager.{ManagerWords, initial_words}
use Rattle.fw_csr.specs.Manager
use Rattle.fw_plug.specs.Plugs.{PlugWords, first_words, reset_words}
use Rattle.fw_plug.specs.Plugs
use Rattle.fw_node.specs.Space.{Space}

-- what a node keeps: its plugs, the manager's registers if it is the resource manager, and its AV/C unit
pub record NodeState : Type 0 where
  pub kind : DeviceKind
  pub device : ℕ
  -- whether the bus withholds channel 31
  pub withheld : Bool
  -- the node's number since the latest bus reset; none came yet if there is none
  pub number : Option ℕ
  pub plugs : PlugWords
  -- the manager's registers, if the latest bus reset named the node the isochronous resource manager
  pub manager : Option ManagerWords
  -- the AV/C unit of a deck or camcorder
  pub unit : Option UnitState
  -- the response to the latest command frame, and the number of the node that it goes to
  pub waiting : Option (ℕ × Frame)

-- a deck and a camcorder have a unit, with the device's plugs
abbrev pub first_unit : DeviceKind → Option UnitState
first_unit kind = if has_unit kind then Some (Units.first_state (output_plugs_of kind) (input_plugs_of kind)) else None

-- a node before the first bus reset that has numbered it
abbrev pub first_state : DeviceKind → ℕ → ℕ → Bool → NodeState
first_state kind device rate withheld = record {
  kind = kind;
  device = device;
  withheld = withheld;
  number = None;
  plugs = first_words (output_plugs_of kind) (input_plugs_of kind) rate;
  manager = None;
  unit = first_unit kind;
  waiting = None;
}

-- the node after a bus reset that gave it this number, and made it the manager or not
abbrev pub after_reset : ℕ → Bool → NodeState → NodeState
after_reset number manager n = record n {
  number = Some number;
  plugs = reset_words n.plugs;
  manager = if manager then Some (initial_words n.withheld) else None;
  unit = option_map Units.after_reset n.unit;
  waiting = None;
}

-- the second after a bus reset is over
abbrev pub after_second : NodeState → NodeState
after_second n = record n { plugs = Plugs.after_second n.plugs }

-- the node after a request to its registers
abbrev pub after_request : Option Request → NodeState → NodeState
after_request None n = n
after_request (Some r) n = record n { plugs = Plugs.words_after n.plugs r; manager = option_map (λ m. Manager.words_after m r) n.manager }

-- what node `number` keeps, as requests see it in a cycle
abbrev pub space_of : ℕ → ℕ → NodeState → Space
space_of number cycle n = record {
  number = number;
  kind = n.kind;
  device = n.device;
  rate = n.plugs.rate;
  cycle = cycle;
  output_word = slice_index n.plugs.outputs;
  input_word = slice_index n.plugs.inputs;
  manager = n.manager;
}

-- a node that keeps n has the registers of a space
pub record HasSpace (n : NodeState) (s : Space) : Type 0 where
  pub number : n.number ≡ Some s.number
  pub kind : n.kind ≡ s.kind
  pub device : n.device ≡ s.device
  pub rate : n.plugs.rate ≡ s.rate
  pub outputs : length n.plugs.outputs ≡ output_plugs_of s.kind
  pub inputs : length n.plugs.inputs ≡ input_plugs_of s.kind
  pub output_words : (k : ℕ) → k < output_plugs_of s.kind → slice_index n.plugs.outputs k ≡ s.output_word k
  pub input_words : (k : ℕ) → k < input_plugs_of s.kind → slice_index n.plugs.inputs k ≡ s.input_word k
  pub manager : n.manager ≡ s.manager
