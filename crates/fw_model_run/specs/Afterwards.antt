-- The states that what is done in a run leaves, and what begins a bus reset.
use Rattle.std.specs.Prelude.{ℕ, ◌+◌, Bool, true, false, Option, Some, None, is_some, if◌then◌else◌}
use Rattle.std.specs.declared.result.Result.{Result}
use Rattle.fw_terms.specs.Tables.{update}
use Rattle.fw_log_entry.specs.declared.entry.Entry.TheVariants.{Reset}
use Rattle.fw_log_entry.specs.declared.entry.ResetEntry.{ResetEntry}
use Rattle.fw_tree.specs.Topology.{Topology}
use Rattle.fw_cmp_jobs.specs.declared.connection.Slot.{Slot}
use Rattle.fw_cmp.specs.declared.outcome.StartFault.{StartFault}
use Rattle.fw_cmp.specs.Controllers.{ControllerState, first_state as new_controller}
use Rattle.fw_cmp.specs.declared.current.Current.{Current}
use Rattle.fw_cmp.specs.declared.current.Current.TheVariants.{Nothing, Asking, Hearing, Overtaken}
use Rattle.fw_cmp_jobs.specs.declared.stage.Stage.{Stage}
use Rattle.fw_cmp.specs.Resets.{state_reset as controller_reset, after_second as controller_second}
use Rattle.fw_cmp.specs.Starts.{start, start_own, started as given}
use Rattle.fw_cmp_jobs.specs.Slots.{connect_slot, broadcast_slot, listen_slot}
use Rattle.fw_order.specs.declared.order.Wanted.{Wanted}
use Rattle.fw_order.specs.declared.order.Wanted.TheVariants.{PlugToPlug, BroadcastOut, BroadcastIn}
use Rattle.fw_model_run.specs.Entries.{second_over, died, started}
use Rattle.fw_model_run.specs.Elections.{with_candidate}
use Rattle.fw_model_run.specs.Dubs.{dub_after_reset, dub_after_second}
use Rattle.fw_model_run.specs.State.{State, entered, while_talking, is_deaf}
use Rattle.fw_model_run.specs.Decks.{with_tape, passed as deck_passed, after_reset as deck_reset}
use Rattle.fw_tape.specs.declared.cassette.Cassette.{Cassette}
use Rattle.fw_tape.specs.Blocks.{blocks_among}
use Rattle.fw_model_run.specs.HalfSteps.{with_controller, after_half}

-- ---- bus resets

-- The state after a bus reset: the manager's registers are as at first, the second begins, but for the first bus reset, before which
-- nothing can have been connected (own), each controller hears of it, and the decks forget who asked to be told of changes. A job whose
-- last response was lost counts as one whose answer was not heard.
abbrev pub after_reset_entry : State → ResetEntry → State
after_reset_entry s e = record s {
  clock = record { cycle = s.clock.cycle; over_at = if is_some s.account.latest then s.clock.cycle + 8000 else s.clock.cycle };
  account = entered s.account (Reset e);
  bus_manager_id = 0x3F;
  controllers = λ d. controller_reset e.epoch (is_deaf s d) (s.controllers d);
  lost = λ d. None;
  decks = λ d. deck_reset (s.decks d);
  frame = None;
  streams = while_talking (entered s.account (Reset e)) s.streams;
  dub = dub_after_reset s.account s.dub;
}

-- one that counts
abbrev pub counting : State → State
counting s = record s { resets = s.resets + 1 }

-- before the first bus reset none counted
abbrev pub beginning : State → State
beginning s = record s { resets = 1 }

-- the state with other devices and cables
abbrev pub with_topology : State → Topology → State
with_topology s g = record s { declared = record s.declared { topology = g } }

-- ---- what controllers are asked for

-- what the slot of a new connection holds
abbrev pub slot_of : Wanted → Slot
slot_of (PlugToPlug out into channel overhead) = connect_slot out into channel overhead
slot_of (BroadcastOut out overhead) = broadcast_slot out overhead
slot_of (BroadcastIn into) = listen_slot into

-- the slot that the controller of device d gives it, or why it refuses
abbrev pub start_of : ℕ → Wanted → ControllerState → Result ℕ StartFault
start_of d (PlugToPlug out into channel overhead) c = start c
start_of d (BroadcastOut out overhead) c = start_own d out c
start_of d (BroadcastIn into) c = start_own d into c

-- the state after a new connection was asked for
abbrev pub with_connection : State → ℕ → Wanted → State
with_connection s d w = with_controller s d (given (start_of d w (s.controllers d)) (slot_of w) (s.controllers d))

-- ---- deaths

-- the controller of device d has just started
abbrev pub with_new_controller : State → ℕ → Bool → State
with_new_controller s d is_dead = record s { controllers = update s.controllers d new_controller; asked_at = update s.asked_at d 0; lost = update s.lost d None; dead = update s.dead d is_dead }

-- the state after the controller of a device died
abbrev pub after_death : State → ℕ → State
after_death s d = record (with_new_controller s d true) {
  account = entered s.account (died d);
  streams = while_talking (entered s.account (died d)) s.streams;
  election = with_candidate s.election d None;
}

-- the state after the controller of a device was started again
abbrev pub after_start : State → ℕ → State
after_start s d = record (with_new_controller s d false) { account = entered s.account (started d) }

-- ---- time

-- cycles go by, in which tapes move, and each plug that talks sends a data packet for each block that is due, whether it is written or not
abbrev pub after_cycles : State → ℕ → State
after_cycles s n = record s {
  clock = record s.clock { cycle = s.clock.cycle + n };
  decks = λ d. deck_passed n (s.decks d);
  streams = while_talking s.account (λ p. s.streams p + blocks_among (s.decks p.device).unit.tape n);
}

-- the second is over, and each controller hears of it
abbrev pub after_second : State → State
after_second s = record s {
  account = entered s.account second_over;
  controllers = λ d. controller_second (s.controllers d);
  streams = while_talking (entered s.account second_over) s.streams;
  dub = dub_after_second s.dub;
}

-- ---- tapes

-- this tape is in a deck, or none
abbrev pub with_cassette : State → ℕ → Option Cassette → State
with_cassette s d tape = record s { decks = update s.decks d (with_tape tape (s.decks d)) }

-- half steps more were given
abbrev pub counted : State → ℕ → State
counted s n = record s { half_steps = s.half_steps + n }

-- ---- half steps, and lost responses

-- the stage of an outstanding request
abbrev pub stage_of : Current → Option Stage
stage_of Nothing = None
stage_of (Asking j stage) = None
stage_of (Hearing j stage) = Some stage
stage_of (Overtaken slot outcome) = None

-- The state after a response was lost: the request has been carried out, and the controller keeps its stage. It counts as a bus reset.
abbrev pub after_loss : State → ℕ → State
after_loss s d = record (after_half s d) { lost = update s.lost d (stage_of (s.controllers d).current); resets = s.resets + 1 }
