-- The tape subunit that a unit lends.
use Rattle.std.specs.Prelude.{Option}
use Rattle.std.specs.Borrow.{Lends, MutBor, Fml}
use Rattle.fw_tape.specs.declared.cassette.Cassette.{Cassette}
use Rattle.fw_tape.specs.contracts.tape.Tape.{the_row as tape_row}
use Rattle.fw_avc.specs.State.{UnitState}
use Rattle.fw_avc.specs.contracts.unit.Unit.{the_row}

-- when the tape comes back, it alone has changed
abbrev pub LendsTape : MutBor UnitState → MutBor (Option Cassette) → Fml
LendsTape u tape = Lends the_row tape_row u tape (λ t. record u.now { tape = t })
