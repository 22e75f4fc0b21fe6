-- The latest bus reset of a log, as far as a line tells of it.
use Rattle.std.specs.Prelude.{◌≡◌, ℕ, List, drop}
use Rattle.fw_log_entry.specs.Log.{ResetFits, body}
use Rattle.fw_log_entry.specs.declared.entry.Entry.TheVariants.{Reset}
use Rattle.fw_log_entry.specs.declared.entry.ResetEntry.{ResetEntry}

-- a bus reset has the epoch, the resource manager, the initiator and the nodes of another
pub record IsBusOf (whole r : ResetEntry) : Type 0 where
  pub epoch : whole.epoch ≡ r.epoch
  pub manager : whole.manager ≡ r.manager
  pub initiator : whole.initiator ≡ r.initiator
  pub nodes : whole.nodes ≡ r.nodes

-- after its epoch, of four bytes, the body of a bus reset is these bytes
abbrev pub later_bytes : ResetEntry → List ℕ
later_bytes r = drop 4 (body (Reset r))

-- it has them of one whose body goes on with these bytes after its epoch
pub record TellsBus (bus : ResetEntry) (later : List ℕ) : Type 0 where
  pub reset : ResetEntry
  pub fits : ResetFits reset
  pub same : later_bytes reset ≡ later
  pub told : IsBusOf reset bus
