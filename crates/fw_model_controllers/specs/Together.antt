-- All controllers of a bus in step with one account, and what may happen to them.
use Rattle.std.specs.Prelude.{ℕ, ◌≡◌, ◌≢◌, ◌<◌, ◌⊎◌, Bool, Some, None, Ok, [], IsTrue, IsFalse}
use Rattle.fw_terms.specs.declared.plug.PlugAt.{PlugAt}
use Rattle.fw_csr.specs.declared.reply.Reply.{Reply}
use Rattle.fw_log_entry.specs.declared.entry.ResetEntry.{ResetEntry}
use Rattle.fw_model_account.specs.Account.{Account, Request}
use Rattle.fw_model_account.specs.Events.{after_reset, after_second, after_death, after_withholding}
use Rattle.fw_log_entry.specs.Network.{IsNetwork}
use Rattle.fw_model_account.specs.Network.{is_output}
use Rattle.fw_model_account.specs.Packets.{asked, ended}
use Rattle.fw_model_account.specs.Sound.{IsSound}
use Rattle.fw_cmp_jobs.specs.declared.connection.Connection.{Connection}
use Rattle.fw_cmp_jobs.specs.declared.connection.Flow.{Flow}
use Rattle.fw_cmp_jobs.specs.declared.connection.Slot.{Slot}
use Rattle.fw_cmp.specs.declared.current.Current.TheVariants.{Nothing, Hearing}
use Rattle.fw_cmp_jobs.specs.declared.directory.Directory.{Directory}
use Rattle.fw_cmp_jobs.specs.declared.job.Job.{Job}
use Rattle.fw_cmp_jobs.specs.declared.request.Target.{Target}
use Rattle.fw_cmp_jobs.specs.declared.stage.Stage.{Stage}
use Rattle.fw_cmp_jobs.specs.Connections.{kind_of, output_of, input_of}
use Rattle.fw_cmp.specs.Controllers.{ControllerState, first_state, slot_at, IsHeard, Fits}
use Rattle.fw_cmp_jobs.specs.Slots.{is_restoring}
use Rattle.fw_cmp_jobs.specs.Fits.{SlotFits}
use Rattle.fw_cmp.specs.Starts.{start, started, break_fault, break_started}
use Rattle.fw_cmp_jobs.specs.Slots.{IsMaking}
use Rattle.fw_cmp_jobs.specs.Requests.{target_of}
use Rattle.fw_cmp.specs.Resets.{after_hear, state_reset as controller_reset, after_second as second_over}
use Rattle.fw_cmp.specs.Turns.{after_next}
use Rattle.fw_model_controllers.specs.Holding.{connections_of}
use Rattle.fw_model_controllers.specs.InStep.{IsFlow}
use Rattle.fw_model_controllers.specs.Registers.{IsAnswer}
use Rattle.fw_model_controllers.specs.Moves.{carried_out}
use Rattle.fw_cmp.specs.Holdings.{CanGoOn}
use Rattle.fw_model_controllers.specs.Requests.{outstanding_of}
use Rattle.fw_model_controllers.specs.Controllers.{ControllerInStep, IsDirectory}

-- Controllers are named by device; that of a device that has none, or whose controller died, is one that has just started.
-- The directory is the one that they were given since the latest bus reset.
pub record AreInStep (dir : Directory) (l : Account) (controllers : ℕ → ControllerState) : Type 0 where
  pub sound : IsSound l
  pub fits : (d : ℕ) → Fits (controllers d)
  pub each : (d : ℕ) → ControllerInStep l d (controllers d)
  -- the devices that their requests go to are on the bus
  pub goes_on : (d : ℕ) → CanGoOn dir (controllers d)
  -- the outstanding requests of the account are those for whose answer they wait
  pub requests : (d : ℕ) → l.outstanding d ≡ outstanding_of dir (controllers d).current

-- controller d becomes this one, and no other changes
pub record Becomes (before : ℕ → ControllerState) (d : ℕ) (c : ControllerState) (after : ℕ → ControllerState) : Type 0 where
  pub new : after d ≡ c
  pub others : (k : ℕ) → k ≢ d → after k ≡ before k

-- no output plug leaves the bus
abbrev pub KeepsPlugs : Account → ResetEntry → Type 0
KeepsPlugs l r = (p : PlugAt) → IsTrue (is_output l.latest p) → IsTrue (is_output (Some r) p)

-- A controller is given a job: a new connection takes the lowest free slot and waits, or a break of a connection waits.
pub data IsGiven (before after : ControllerState) : Type 0 where
  connection : (i : ℕ) (s : Slot) → start before ≡ Ok i → IsMaking s → SlotFits s → after ≡ started (Ok i) s before → IsGiven before after
  break : (i : ℕ) → break_fault before i ≡ None → after ≡ break_started before i → IsGiven before after

-- ---- a half step of one controller

-- a turn whose request goes out
pub record SendsRequest (d now : ℕ) (dir : Directory) (l : Account) (before : ℕ → ControllerState) (m : Account) : Type 0 where
  pub request : Request
  pub outstanding : outstanding_of dir (after_next now dir (before d)).current ≡ Some request
  pub account : m ≡ asked d request l

-- a turn in which a job ends, or nothing is done
pub record SendsNothing (d now : ℕ) (dir : Directory) (l : Account) (before : ℕ → ControllerState) (m : Account) : Type 0 where
  pub outstanding : outstanding_of dir (after_next now dir (before d)).current ≡ None
  pub account : m ≡ l

-- a controller with no request outstanding takes its turn at this cycle
pub record TakesTurn (d now : ℕ) (dir new : Directory) (l : Account) (before : ℕ → ControllerState) (m : Account) (after : ℕ → ControllerState) : Type 0 where
  pub told : IsDirectory l now dir
  pub heard : IsHeard (before d).current
  pub says : SendsRequest d now dir l before m ⊎ SendsNothing d now dir l before m
  pub becomes : Becomes before d (after_next now dir (before d)) after
  pub directory : new ≡ dir

-- its request is carried out, and it hears the answer
pub record HearsAnswer (d : ℕ) (r : Reply) (dir new : Directory) (l : Account) (before : ℕ → ControllerState) (m : Account) (after : ℕ → ControllerState) : Type 0 where
  pub device : d < 63
  pub job : Job
  pub stage : Stage
  pub current : (before d).current ≡ Hearing job stage
  pub target : Target
  pub asked : target_of job stage ≡ Some target
  pub answer : IsAnswer l target r
  pub account : m ≡ ended d (carried_out d job stage r l)
  pub becomes : Becomes before d (after_hear (before d) r) after
  pub directory : new ≡ dir

-- a half step of a controller: its turn, or the answer to its request
pub data TakesHalfStep (d now : ℕ) (dir new : Directory) (l : Account) (before : ℕ → ControllerState) (m : Account) (after : ℕ → ControllerState) : Type 0 where
  turns : TakesTurn d now dir new l before m after → TakesHalfStep d now dir new l before m after
  hears : (r : Reply) → HearsAnswer d r dir new l before m after → TakesHalfStep d now dir new l before m after

-- ---- what happens

-- a controller becomes another, by the job that it is given
pub record TakesJob (d : ℕ) (c : ControllerState) (dir new : Directory) (l : Account) (before : ℕ → ControllerState) (m : Account) (after : ℕ → ControllerState) : Type 0 where
  pub given : IsGiven (before d) c
  pub account : m ≡ l
  pub becomes : Becomes before d c after
  pub directory : new ≡ dir

-- A bus reset, with a new directory. A controller that lost a response stands here as one that heard it, and the bus reset says of
-- which that is so: their jobs count as ones whose answer was not heard.
pub record BusResets (r : ResetEntry) (epoch : ℕ) (lost : ℕ → Bool) (l : Account) (before : ℕ → ControllerState) (m : Account) (after : ℕ → ControllerState) : Type 0 where
  pub network : IsNetwork r
  pub grows : KeepsPlugs l r
  pub account : m ≡ after_reset r l
  pub each : (d : ℕ) → after d ≡ controller_reset epoch (lost d) (before d)

-- the reclaim second is over
pub record EndsSecond (dir new : Directory) (l : Account) (before : ℕ → ControllerState) (m : Account) (after : ℕ → ControllerState) : Type 0 where
  pub account : m ≡ after_second l
  pub each : (d : ℕ) → after d ≡ second_over (before d)
  pub directory : new ≡ dir

-- a controller dies, and its device has one that has just started
pub record Dies (d : ℕ) (dir new : Directory) (l : Account) (before : ℕ → ControllerState) (m : Account) (after : ℕ → ControllerState) : Type 0 where
  pub account : m ≡ after_death d l
  pub becomes : Becomes before d first_state after
  pub directory : new ≡ dir

-- channel 31 is withheld, before the first bus reset
pub record Withholds (dir new : Directory) (l : Account) (before : ℕ → ControllerState) (m : Account) (after : ℕ → ControllerState) : Type 0 where
  pub first : l.latest ≡ None
  pub account : m ≡ after_withholding l
  pub each : (d : ℕ) → after d ≡ before d
  pub directory : new ≡ dir

-- what happens to the account and all controllers; a new directory comes with a bus reset alone
pub data Happens (dir new : Directory) (l : Account) (before : ℕ → ControllerState) (m : Account) (after : ℕ → ControllerState) : Type 0 where
  half_step : (d now : ℕ) → TakesHalfStep d now dir new l before m after → Happens dir new l before m after
  given : (d : ℕ) (c : ControllerState) → TakesJob d c dir new l before m after → Happens dir new l before m after
  resets : (r : ResetEntry) (epoch : ℕ) (lost : ℕ → Bool) → BusResets r epoch lost l before m after → Happens dir new l before m after
  second : EndsSecond dir new l before m after → Happens dir new l before m after
  dies : (d : ℕ) → Dies d dir new l before m after → Happens dir new l before m after
  withholds : Withholds dir new l before m after → Happens dir new l before m after

-- ---- settled

-- no reclaim second runs, and no controller has a current job, a waiting job or a connection to restore
pub record AreSettled (l : Account) (controllers : ℕ → ControllerState) : Type 0 where
  pub second : IsFalse l.reclaiming
  pub idle : (d : ℕ) → (controllers d).current ≡ Nothing
  pub waiting : (d : ℕ) → (controllers d).waiting ≡ []
  pub restored : (d i : ℕ) → IsFalse (is_restoring (slot_at (controllers d) i))

-- a connection is whole: it is there at each of its plugs, on its channel and with its units
pub record IsWhole (l : Account) (d : ℕ) (conn : Connection) (f : Flow) : Type 0 where
  pub output : (p : PlugAt) → output_of conn ≡ Some p → (0 < connections_of d (kind_of conn) (l.outputs p)) × IsFlow (l.settings p) f
  pub input : (q : PlugAt) → input_of conn ≡ Some q → (0 < connections_of d (kind_of conn) (l.inputs q)) × (l.input_channel q ≡ f.channel)
