-- What the death of a controller does to the places of the tables.
use Rattle.std.specs.Prelude.{ℕ, ◌==◌, nat_lt, slice_set, if◌then◌else◌}
use Rattle.fw_account_tables.specs.declared.tables.Charge.{Charge}
use Rattle.fw_account_tables.specs.declared.tables.Charge.TheVariants.{Free, Pending, Connected, Orphaned}
use Rattle.fw_account_tables.specs.declared.tables.Broadcaster.{Broadcaster}
use Rattle.fw_account_tables.specs.declared.tables.Broadcaster.TheVariants.{Nobody, Controller, Died}
use Rattle.fw_account_tables.specs.declared.tables.Seats.{Seats}

-- a Pending allocation of the dead is nobody's
abbrev pub orphaned_charge : ℕ → Charge → Charge
orphaned_charge c Free = Free
orphaned_charge c (Pending d plug units) = if c == d then Orphaned plug units else Pending d plug units
orphaned_charge c (Connected plug units) = Connected plug units
orphaned_charge c (Orphaned plug units) = Orphaned plug units

-- its broadcast connection is nobody's
abbrev pub orphaned_broadcaster : ℕ → Broadcaster → Broadcaster
orphaned_broadcaster c Nobody = Nobody
orphaned_broadcaster c (Controller d) = if c == d then Died else Controller d
orphaned_broadcaster c Died = Died

-- and its point-to-point connections
abbrev pub orphaned_seats : ℕ → Seats → Seats
orphaned_seats c s = record { counts = (if nat_lt c 63 then slice_set s.counts c 0 else s.counts); broadcaster = orphaned_broadcaster c s.broadcaster }
