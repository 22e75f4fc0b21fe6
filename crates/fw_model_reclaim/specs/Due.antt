-- What is due to a controller: the connections that it has at a plug, and those that it is to restore there while the
-- second of their slots runs.
use Rattle.fw_terms.specs.declared.plug.PlugAt.{PlugAt}
use Rattle.fw_terms.specs.declared.plug.ConnectionKind.{ConnectionKind}
use Rattle.std.specs.Prelude.{ℕ, ◌+◌, ◌<◌, ⊤, ◌&&◌, not, Bool, if◌then◌else◌}
use Rattle.fw_cmp_jobs.specs.declared.connection.Connection.{Connection}
use Rattle.fw_cmp_jobs.specs.declared.connection.Slot.{Slot}
use Rattle.fw_cmp.specs.declared.current.Current.{Current}
use Rattle.fw_cmp.specs.declared.current.Current.TheVariants.{Nothing, Asking, Hearing, Overtaken}
use Rattle.fw_cmp_jobs.specs.declared.stage.Stage.{Stage}
use Rattle.fw_cmp.specs.Controllers.{ControllerState, count_of}
use Rattle.fw_cmp.specs.Holdings.{has_output, has_input, is_at_output, is_at_input, stands_at_output, stands_at_input, reclaims_output, reclaims_input, is_back_at_output}
use Rattle.fw_cmp.specs.Holdings.{is_back_at_input, current_outputs, current_inputs, is_current_slot, outputs_held, inputs_held, outputs_wanted, inputs_wanted}
use Rattle.fw_model_reclaim.specs.Seats.{Side, Output, Input, Due}

-- ---- of a controller

-- the connections that it has
abbrev pub held_by : ControllerState → Side → ConnectionKind → PlugAt → ℕ
held_by c Output = outputs_held c
held_by c Input = inputs_held c

-- the connections that are still to come back
abbrev pub wanted_by : ControllerState → Side → ConnectionKind → PlugAt → ℕ
wanted_by c Output = outputs_wanted c
wanted_by c Input = inputs_wanted c

-- the connections of a kind that a controller has at a plug, and those that are still to come back there
abbrev pub due_to : ControllerState → Side → ConnectionKind → PlugAt → ℕ
due_to c side kind q = held_by c side kind q + wanted_by c side kind q

-- ---- of all controllers, by device

-- the controllers of a bus, by device
abbrev pub Controllers : Type 0
Controllers = ℕ → ControllerState

-- the connections that each controller has at a plug
abbrev pub held_in : Controllers → Due
held_in table c = held_by (table c)

-- the connections that each controller has at a plug, and those that are still to come back there
abbrev pub due_in : Controllers → Due
due_in table c = due_to (table c)

-- ---- of one slot

-- a connection of this kind has this plug of a side
abbrev pub has_plug : Side → Connection → ConnectionKind → PlugAt → Bool
has_plug Output = has_output
has_plug Input = has_input

-- the job's connection stands at its plug of a side
abbrev pub is_at : Side → Stage → Bool
is_at Output = is_at_output
is_at Input = is_at_input

-- the connection of a slot stands, and has this plug of a side
abbrev pub stands_at : Side → Slot → ConnectionKind → PlugAt → Bool
stands_at Output = stands_at_output
stands_at Input = stands_at_input

-- a connection is to be restored at this plug of a side, while its slot's own second runs
abbrev pub reclaims_at : Side → Slot → ConnectionKind → PlugAt → Bool
reclaims_at Output = reclaims_output
reclaims_at Input = reclaims_input

-- the connection of a slot stands at its plug of a side already, as far as its current job has come
abbrev pub is_back_at : Side → Current → ℕ → Bool
is_back_at Output = is_back_at_output
is_back_at Input = is_back_at_input

-- the connection of the current job
abbrev pub current_at : Side → Current → ConnectionKind → PlugAt → ℕ
current_at Output = current_outputs
current_at Input = current_inputs

-- what is due to the slot i
abbrev pub slot_due : Side → Current → Slot → ℕ → ConnectionKind → PlugAt → ℕ
slot_due side cur slot i kind q =
    count_of (not (is_current_slot cur i) && stands_at side slot kind q)
    + (if is_current_slot cur i then current_at side cur kind q else 0)
    + count_of (not (is_back_at side cur i) && reclaims_at side slot kind q)

-- the current job is that of one of the 32 slots
abbrev pub IsAtSlot : Current → Type 0
IsAtSlot Nothing = ⊤
IsAtSlot (Asking j s) = j.slot < 32
IsAtSlot (Hearing j s) = j.slot < 32
IsAtSlot (Overtaken i o) = ⊤
