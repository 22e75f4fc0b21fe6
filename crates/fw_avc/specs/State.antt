-- What a unit keeps.
use Rattle.std.specs.Prelude.{ℕ, List, [], ◌∷◌, ◌++◌, Bool, true, Option, None, if◌then◌else◌}
use Rattle.std.specs.Option.{option_map}
use Rattle.fw_tape.specs.declared.cassette.Cassette.{Cassette}
use Rattle.fw_tape.specs.declared.transport.Transport.TheVariants.{Stop}
use Rattle.fw_tape.specs.Motion.{entered, transport_of}
use Rattle.fw_avc.specs.declared.notify.Watched.{Watched}
use Rattle.fw_avc.specs.declared.notify.Watched.TheVariants.{Power, Transport}
use Rattle.fw_avc.specs.declared.notify.Kept.{Kept}

-- an AV/C unit: its plugs, its power, the NOTIFY requests that are outstanding, and its tape
pub record UnitState : Type 0 where
  pub outputs : ℕ
  pub inputs : ℕ
  pub power : Bool
  -- the NOTIFY requests in the order in which they came
  pub kept : List Kept
  pub tape : Option Cassette

-- power on, and no tape
abbrev pub first_state : ℕ → ℕ → UnitState
first_state outputs inputs = record { outputs = outputs; inputs = inputs; power = true; kept = []; tape = None }

-- a bus reset discards the kept requests
abbrev pub after_reset : UnitState → UnitState
after_reset u = record u { kept = [] }

-- power off stops the transport
abbrev pub with_power : Bool → UnitState → UnitState
with_power on u = record u { power = on; tape = if on then u.tape else option_map (entered Stop) u.tape }

-- a state of the unit, as it is now
abbrev pub now_of : UnitState → Watched → Watched
now_of u (Power on) = Power u.power
now_of u (Transport t) = Transport (transport_of u.tape)

-- one more request is kept, with the value that it is told
abbrev pub with_kept : ℕ → Watched → UnitState → UnitState
with_kept node value u = record u { kept = u.kept ++ record { node = node; value = value } ∷ [] }
