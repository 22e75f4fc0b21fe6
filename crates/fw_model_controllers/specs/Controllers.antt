-- A controller in step with the account: what its slots and its current job say that it has, it has, and nothing else.
use Rattle.std.specs.Prelude.{ℕ, ◌≡◌, ◌≢◌, ◌<◌, Bool, true, false, Some, None, IsTrue, IsFalse, ⊤}
use Rattle.fw_terms.specs.declared.plug.PlugAt.{PlugAt}
use Rattle.fw_model_account.specs.Account.{Account, Request}
use Rattle.fw_model_account.specs.Packets.{asked}
use Rattle.fw_model_account.specs.Network.{is_output}
use Rattle.fw_cmp_jobs.specs.declared.connection.Connection.{Connection}
use Rattle.fw_cmp_jobs.specs.declared.connection.Flow.{Flow}
use Rattle.fw_cmp_jobs.specs.declared.connection.Slot.{Slot}
use Rattle.fw_cmp_jobs.specs.declared.connection.Slot.TheVariants.{Free, Making, Established, Restoring, Gone}
use Rattle.fw_cmp.specs.declared.current.Current.{Current}
use Rattle.fw_cmp.specs.declared.current.Current.TheVariants.{Nothing, Asking, Hearing, Overtaken}
use Rattle.fw_cmp_jobs.specs.declared.directory.Directory.{Directory}
use Rattle.fw_cmp_jobs.specs.declared.job.Job.{Job}
use Rattle.fw_cmp_jobs.specs.declared.stage.Stage.{Stage}
use Rattle.fw_cmp_jobs.specs.Nodes.{node_of}
use Rattle.fw_cmp.specs.Turns.{after_next}
use Rattle.fw_cmp_jobs.specs.Connections.{output_of, input_of, is_listen}
use Rattle.fw_cmp.specs.Controllers.{ControllerState, slot_at}
use Rattle.fw_cmp_jobs.specs.Slots.{job_for}
use Rattle.fw_cmp.specs.Holdings.{pending_at, addressed_by, is_current_slot, slot_outputs, slot_inputs, outputs_held, inputs_held}
use Rattle.fw_model_controllers.specs.Holding.{Holding, Holds}
use Rattle.fw_model_controllers.specs.Registers.{has_manager}
use Rattle.fw_model_controllers.specs.Requests.{IsDevice, IsManager, EachOnce, outstanding_of}
use Rattle.fw_model_controllers.specs.InStep.{Others, reservation, units_at, IsFlow, IsInStep}

-- ---- what a controller has

-- by its current job and by its slots
abbrev pub holding_of : ControllerState → Holding
holding_of c = record { reserved = reservation (addressed_by c.current) (pending_at c.current); outputs = outputs_held c; inputs = inputs_held c }

-- the connections of all slots but the current job's
abbrev pub others_of : ControllerState → Others
others_of c = record { outputs = slot_outputs c; inputs = slot_inputs c }

-- what a controller has that has no current job: the connections of its slots
abbrev pub slots_alone : ControllerState → Holding
slots_alone c = record { reserved = None; outputs = slot_outputs c; inputs = slot_inputs c }

-- ---- its slots

-- a connection that stands has the channel of its plugs, and the overhead_ID and the units of its output plug
pub record StandsAt (l : Account) (conn : Connection) (f : Flow) : Type 0 where
  pub output : (p : PlugAt) → output_of conn ≡ Some p → IsFlow (l.settings p) f
  pub input : (q : PlugAt) → input_of conn ≡ Some q → l.input_channel q ≡ f.channel
  pub manager : IsFalse (is_listen conn) → IsTrue (has_manager l.latest)

-- A connection that is to be restored takes the units of its output plug. While its own second runs, the reclaim second
-- runs, and the plug stands in the list of reclaimable flows with the connection's channel and units.
pub record IsToRestore (l : Account) (conn : Connection) (f : Flow) (over : Bool) : Type 0 where
  pub found : (p : PlugAt) → output_of conn ≡ Some p → IsTrue (is_output l.latest p)
  pub units : (p : PlugAt) → output_of conn ≡ Some p → f.units ≡ units_at (l.settings p).rate f.overhead
  pub listed : (p : PlugAt) → output_of conn ≡ Some p → IsFalse over → IsTrue l.reclaiming × (l.reclaimable f.channel ≡ Some (record { plug = p; units = f.units }))

-- what a slot says; a connection that is being broken is told by its job
abbrev pub SlotInStep : Account → Bool → Slot → Type 0
SlotInStep l current Free = ⊤
SlotInStep l current (Making conn asked overhead) = ⊤
SlotInStep l true (Established conn f) = ⊤
SlotInStep l false (Established conn f) = StandsAt l conn f
SlotInStep l current (Restoring conn f over) = IsToRestore l conn f over
SlotInStep l current (Gone conn) = ⊤

-- ---- its current job

-- the job is that of its slot, and is in step at its stage
pub record JobInStep (l : Account) (d : ℕ) (c : ControllerState) (j : Job) (s : Stage) (waits : Bool) : Type 0 where
  pub slot : job_for j.slot (slot_at c j.slot) ≡ Some j
  pub within : j.slot < 32
  pub step : IsInStep l d j s waits (others_of c)

-- what a controller has by what it is at: with no current job, the connections of its slots alone
abbrev pub CurrentInStep : Account → ℕ → ControllerState → Current → Type 0
CurrentInStep l d c Nothing = Holds l d (slots_alone c)
CurrentInStep l d c (Asking j s) = JobInStep l d c j s false
CurrentInStep l d c (Hearing j s) = JobInStep l d c j s true
CurrentInStep l d c (Overtaken i o) = Holds l d (slots_alone c)

-- controller d is in step
pub record ControllerInStep (l : Account) (d : ℕ) (c : ControllerState) : Type 0 where
  pub current : CurrentInStep l d c c.current
  pub slots : (i : ℕ) → SlotInStep l (is_current_slot c.current i) (slot_at c i)

-- ---- its turn

-- What a controller is told of the bus: its nodes are those of the latest bus reset, each device one at most, and its manager is
-- that of it; and while a reclaim second runs that is not over yet.
pub record IsDirectory (l : Account) (now : ℕ) (dir : Directory) : Type 0 where
  pub devices : (d n : ℕ) → node_of dir d ≡ Some n → IsDevice l.latest d n
  pub manager : (n : ℕ) → dir.manager ≡ Some n → IsManager l.latest n
  pub once : EachOnce l.latest
  pub second : IsTrue l.reclaiming → now < dir.over_at

-- A turn of controller d: a request goes out, for whose answer it then waits, or none does.
pub record TurnInStep (l : Account) (d now : ℕ) (dir : Directory) (c : ControllerState) : Type 0 where
  pub asks : (request : Request) → outstanding_of dir (after_next now dir c).current ≡ Some request → (l.latest ≢ None) × ControllerInStep (asked d request l) d (after_next now dir c)
  pub rests : outstanding_of dir (after_next now dir c).current ≡ None → ControllerInStep l d (after_next now dir c)
