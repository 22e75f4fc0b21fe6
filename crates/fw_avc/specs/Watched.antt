-- The states that a controller may ask to be told of.
use Rattle.std.specs.Prelude.{ℕ, true, false}
use Rattle.fw_tape.specs.Transports
use Rattle.fw_avc.specs.declared.notify.Watched.{Watched}
use Rattle.fw_avc.specs.declared.notify.Watched.TheVariants.{Power, Transport}

-- the opcode and operand by which a response shows a state
abbrev pub codes_of : Watched → ℕ × ℕ
codes_of (Power true) = (0xB2, 0x70)
codes_of (Power false) = (0xB2, 0x60)
codes_of (Transport t) = Transports.codes_of t
