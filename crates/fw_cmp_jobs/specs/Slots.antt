-- What a slot of a controller holds, the job for it, and what a bus reset and the end of the reclaim second make of it.
use Rattle.std.specs.Prelude.{ℕ, ◌==◌, Bool, true, false, Option, Some, None, ⊤}
use Rattle.fw_terms.specs.declared.plug.PlugAt.{PlugAt}
use Rattle.fw_cmp_jobs.specs.declared.connection.Connection.{Connection}
use Rattle.fw_cmp_jobs.specs.declared.connection.Connection.TheVariants.{PlugToPlug, BroadcastOut, BroadcastIn}
use Rattle.fw_cmp_jobs.specs.declared.connection.Slot.{Slot}
use Rattle.fw_cmp_jobs.specs.declared.connection.Slot.TheVariants.{Free, Making, Established, Restoring, Gone}
use Rattle.fw_cmp_jobs.specs.declared.connection.Flow.{Flow}
use Rattle.fw_cmp_jobs.specs.declared.job.Job.{Job}
use Rattle.fw_cmp_jobs.specs.declared.job.Purpose.TheVariants.{Make, Restore, Break}

-- the slot has no connection and no job
abbrev pub is_free : Slot → Bool
is_free Free = true
is_free _ = false

-- the connection of the slot is asked for, and being made
abbrev pub is_making : Slot → Bool
is_making (Making conn asked overhead) = true
is_making _ = false

-- the connection of the slot is gone, and a break of it still waits
abbrev pub is_gone : Slot → Bool
is_gone (Gone conn) = true
is_gone _ = false

-- the connection of the slot stood before a bus reset, and is to be restored
abbrev pub is_restoring : Slot → Bool
is_restoring (Restoring conn f over) = true
is_restoring _ = false

-- a connection that can be broken: it stands, or is to be restored
abbrev pub is_breakable : Slot → Bool
is_breakable (Established conn f) = true
is_breakable (Restoring conn f over) = true
is_breakable _ = false

-- what the slot of a new connection holds
abbrev pub connect_slot : PlugAt → PlugAt → Option ℕ → ℕ → Slot
connect_slot out into asked overhead = Making (PlugToPlug out into) asked overhead

-- a first broadcast connection uses channel 63
abbrev pub broadcast_slot : PlugAt → ℕ → Slot
broadcast_slot out overhead = Making (BroadcastOut out) (Some 63) overhead

-- a broadcast-in connection begins with channel 63
abbrev pub listen_slot : PlugAt → Slot
listen_slot into = Making (BroadcastIn into) (Some 63) 0

-- the slot holds a connection that is being made
abbrev pub IsMaking : Slot → Type 0
IsMaking (Making conn asked overhead) = ⊤
IsMaking _ = ⊥

-- the job that makes a new connection
abbrev pub making_job : ℕ → Connection → Option ℕ → ℕ → Job
making_job i conn asked overhead = record { slot = i; connection = conn; purpose = Make; asked = asked; overhead = overhead; units = None }

-- the job that makes a connection again after a bus reset, on its own channel and units
abbrev pub restoring_job : ℕ → Connection → Flow → Job
restoring_job i conn f = record { slot = i; connection = conn; purpose = Restore; asked = Some f.channel; overhead = f.overhead; units = Some f.units }

-- the job that breaks a connection
abbrev pub breaking_job : ℕ → Connection → Job
breaking_job i conn = record { slot = i; connection = conn; purpose = Break; asked = None; overhead = 0; units = None }

-- none if the slot is free
abbrev pub job_for : ℕ → Slot → Option Job
job_for i Free = None
job_for i (Making conn asked overhead) = Some (making_job i conn asked overhead)
job_for i (Established conn f) = Some (breaking_job i conn)
job_for i (Restoring conn f over) = Some (restoring_job i conn f)
job_for i (Gone conn) = Some (breaking_job i conn)

-- the job makes the connection of a slot
abbrev pub is_make_at : Job → ℕ → Bool
is_make_at j i = elim j.purpose [ Make ↦ j.slot == i | Restore ↦ false | Break ↦ false ]

-- the job breaks the connection of a slot
abbrev pub is_break_at : Job → ℕ → Bool
is_break_at j i = elim j.purpose [ Make ↦ false | Restore ↦ false | Break ↦ j.slot == i ]

-- each connection that stands is to be restored
abbrev pub slot_reset : Slot → Slot
slot_reset Free = Free
slot_reset (Making conn asked overhead) = Making conn asked overhead
slot_reset (Established conn f) = Restoring conn f false
slot_reset (Restoring conn f over) = Restoring conn f over
slot_reset (Gone conn) = Gone conn

-- the own second of each slot that is to be restored is over
abbrev pub slot_over : Slot → Slot
slot_over Free = Free
slot_over (Making conn asked overhead) = Making conn asked overhead
slot_over (Established conn f) = Established conn f
slot_over (Restoring conn f over) = Restoring conn f true
slot_over (Gone conn) = Gone conn
