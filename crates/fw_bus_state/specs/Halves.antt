-- What a half step of a controller leaves as it was.
use Rattle.std.specs.Prelude.{ℕ, ◌≡◌, ◌+◌, Bool, length, IsTrue}
use Rattle.fw_devices.specs.Frames.{frame_of}
use Rattle.fw_bus_state.specs.Tables.{states_of}
use Rattle.fw_bus_state.specs.declared.machine.Machine.{Machine}

-- A half step of a device's controller, in which no bus reset began: of the controllers it changed that one alone. Where no request of
-- that controller stood, so that none was carried out, devices and streams are as they were.
pub record IsHalfFrom (device : ℕ) (asks : Bool) (old new : Machine) : Type 0 where
  pub rest : new ≡ record old { devices = new.devices; controllers = new.controllers; wire = new.wire; streams = new.streams; half_steps = new.half_steps }
  pub frame : frame_of new.devices ≡ frame_of old.devices
  pub size : length new.devices.nodes ≡ length old.devices.nodes
  pub flags : new.controllers.flags ≡ old.controllers.flags
  pub same_size : length new.controllers.list ≡ length old.controllers.list
  pub others : (d : ℕ) → (d ≡ device → ⊥) → states_of new.controllers d ≡ states_of old.controllers d
  pub asked : IsTrue asks → (new.devices ≡ old.devices) × (new.streams ≡ old.streams)

-- it only counted
abbrev pub counted_in : Machine → Machine
counted_in m = record m { half_steps = m.half_steps + 1 }
