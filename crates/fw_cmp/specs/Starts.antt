-- What starts a job: a new connection takes the lowest free slot, and waits; a break waits.
use Rattle.std.specs.Prelude.{ℕ, ◌<◌, nat_le, ◌==◌, ◌&&◌, ◌||◌, not, ◌++◌, ◌∷◌, [], length, Bool, true, false, Option, Some, None, Result, Ok, Err, if◌then◌else◌, ⊤}
use Rattle.fw_terms.specs.Tables.{find_to}
use Rattle.fw_terms.specs.declared.plug.PlugAt.{PlugAt}
use Rattle.fw_cmp_jobs.specs.declared.connection.Slot.{Slot}
use Rattle.fw_cmp.specs.declared.current.WaitingJob.{WaitingJob}
use Rattle.fw_cmp.specs.declared.outcome.StartFault.{StartFault}
use Rattle.fw_cmp.specs.declared.outcome.StartFault.TheVariants.{TableFull, Busy, NoSuchConnection, NotOwnPlug}
use Rattle.fw_cmp.specs.Controllers.{ControllerState, slot_at, with_slot, break_waits, break_runs}
use Rattle.fw_cmp_jobs.specs.Slots.{is_free, is_breakable}

-- the lowest free slot
abbrev pub free_slot : ControllerState → Option ℕ
free_slot c = find_to 32 (λ i. is_free (slot_at c i))

-- eight jobs wait
abbrev pub is_crowded : ControllerState → Bool
is_crowded c = nat_le 8 (length c.waiting)

-- the controller with one job more that waits, after the others
abbrev pub with_task : ControllerState → WaitingJob → ControllerState
with_task c t = record c { waiting = c.waiting ++ t ∷ [] }

-- ---- a new connection

-- the slot that it takes, or why it takes none
abbrev pub start_at : Option ℕ → ControllerState → Result ℕ StartFault
start_at None c = Err TableFull
start_at (Some i) c = if is_crowded c then Err Busy else Ok i

-- the slot that a new connection takes, or why it is refused
abbrev pub start : ControllerState → Result ℕ StartFault
start c = start_at (free_slot c) c

-- the answered slot is one
abbrev pub OkWithin : Result ℕ StartFault → Type 0
OkWithin (Ok i) = i < 32
OkWithin (Err fault) = ⊤

-- a broadcast connection is made only by the controller of the plug's own device
abbrev pub start_own : ℕ → PlugAt → ControllerState → Result ℕ StartFault
start_own own p c = if p.device == own then start c else Err NotOwnPlug

-- the controller after it: unchanged if it was refused
abbrev pub started : Result ℕ StartFault → Slot → ControllerState → ControllerState
started (Ok i) s c = with_task (with_slot c i s) (record { slot = i; breaks = false })
started (Err fault) s c = c

-- ---- a break

-- the slot has a connection, and no break of it waits or is current
abbrev pub can_break : ControllerState → ℕ → Bool
can_break c i = is_breakable (slot_at c i) && not (break_waits c i || break_runs c.current i)

-- why a break is refused, if it is
abbrev pub break_fault : ControllerState → ℕ → Option StartFault
break_fault c i = if can_break c i then (if is_crowded c then Some Busy else None) else Some NoSuchConnection

-- a break is accepted, or why it is refused
abbrev pub start_break : ControllerState → ℕ → Result (Unit {0}) StartFault
start_break c i = elim (break_fault c i) [ None ↦ Ok tt | Some fault ↦ Err fault ]

-- the controller after a break was asked for: unchanged if it was refused
abbrev pub break_started : ControllerState → ℕ → ControllerState
break_started c i = elim (break_fault c i) [ None ↦ with_task c (record { slot = i; breaks = true }) | Some fault ↦ c ]
