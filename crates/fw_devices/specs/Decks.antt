-- The tapes in the units of nodes.
use Rattle.std.specs.Prelude.{ℕ, Option}
use Rattle.std.specs.Option.{option_map, option_and_then}
use Rattle.fw_tape.specs.declared.cassette.Cassette.{Cassette}
use Rattle.fw_tape.specs.Motion.{passed_on}
use Rattle.fw_avc.specs.State.{UnitState}
use Rattle.fw_node.specs.State.{NodeState}

-- the tape that is in the unit, if there is a unit and a tape
abbrev pub tape_of : NodeState → Option Cassette
tape_of n = option_and_then (λ (u : UnitState). u.tape) n.unit

-- this tape is in the unit, or none, if there is a unit
abbrev pub with_tape : Option Cassette → NodeState → NodeState
with_tape tape n = record n { unit = option_map (λ (u : UnitState). record u { tape = tape }) n.unit }

-- cycles go by, in which the tape moves
abbrev pub passed : ℕ → NodeState → NodeState
passed cycles n = record n { unit = option_map (λ (u : UnitState). record u { tape = option_map (passed_on cycles) u.tape }) n.unit }
