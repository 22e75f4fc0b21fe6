-- Each table answers for itself, whatever stands there if it has no row; the others stand after it.
use Rattle.std.proofs.Common.{◌∙◌, ℕ, sym}
use Rattle.fw_log_registers.specs.declared.place.RegisterPlace.{RegisterPlace}
use Rattle.fw_log_registers.specs.declared.place.RegisterPlace.TheVariants.{Unnamed}
use Rattle.fw_log_registers.specs.Places.{bus_rows, unit_rows, long_rows, place_among, place_of}
use Rattle.fw_log_registers.proofs.place.RegisterPlace.of.Goals as goal

-- what stands there if a table and those before it have no row
abbrev long : ℕ → RegisterPlace
long offset = place_among long_rows offset (Unnamed offset)

abbrev unit : ℕ → RegisterPlace
unit offset = place_among unit_rows offset (long offset)

abbrev bus : ℕ → RegisterPlace
bus offset = place_among bus_rows offset (unit offset)

pub returns-in-Some : goal.returns-in-Some
unfolding place_of
returns-in-Some c = sym (c.in-Some.ensures (bus c.args.offset))

pub returns-in-Some-bus_register : goal.returns-in-Some-bus_register
unfolding place_of
returns-in-Some-bus_register c = sym (c.in_default.ensures (bus c.args.offset) ∙ c.in-Some-bus_register.ensures (unit c.args.offset))

pub returns-in-Some-unit_register : goal.returns-in-Some-unit_register
unfolding place_of
returns-in-Some-unit_register c =
    sym (c.in_default.ensures (bus c.args.offset) ∙ c.in_default-bus_register.ensures (unit c.args.offset) ∙ c.in-Some-unit_register.ensures (long c.args.offset))

pub returns : goal.returns
unfolding place_of
returns c =
    c.place_in_row.ensures
    ∙ sym (c.in_default.ensures (bus c.args.offset) ∙ c.in_default-bus_register.ensures (unit c.args.offset) ∙ c.in_default-unit_register.ensures (long c.args.offset))
