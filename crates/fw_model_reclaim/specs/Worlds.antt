-- The account and all controllers, and what happens to them.
use Rattle.std.specs.Prelude.{ℕ, ◌≡◌, ◌<◌, ◌≤◌, ◌⊎◌, Bool, Option, Some, None, List, [], ◌∷◌, Ok, true, IsSome}
use Rattle.fw_terms.specs.declared.plug.PlugAt.{PlugAt}
use Rattle.fw_csr.specs.declared.reply.Reply.{Reply}
use Rattle.fw_log_entry.specs.declared.entry.ResetEntry.{ResetEntry}
use Rattle.fw_model_account.specs.Account.{Account}
use Rattle.fw_model_account.specs.Events.{after_reset as account_reset, after_second as account_second, after_death, after_withholding}
use Rattle.fw_log_entry.specs.Network.{IsNetwork}
use Rattle.fw_model_account.specs.Network.{is_output, is_input}
use Rattle.fw_cmp_jobs.specs.declared.connection.Slot.{Slot}
use Rattle.fw_cmp_jobs.specs.declared.connection.Slot.TheVariants.{Free}
use Rattle.fw_cmp.specs.declared.current.Current.{Current}
use Rattle.fw_cmp.specs.declared.current.Current.TheVariants.{Nothing, Asking, Hearing}
use Rattle.fw_cmp_jobs.specs.declared.directory.Directory.{Directory}
use Rattle.fw_cmp_jobs.specs.declared.job.Job.{Job}
use Rattle.fw_cmp_jobs.specs.declared.stage.Stage.{Stage}
use Rattle.fw_cmp.specs.Controllers.{ControllerState, first_state, slot_at}
use Rattle.fw_cmp_jobs.specs.Fits.{SlotFits}
use Rattle.fw_cmp_jobs.specs.Nodes.{node_of}
use Rattle.fw_cmp.specs.Resets.{state_reset, after_second}
use Rattle.fw_cmp.specs.Starts.{start, started, break_fault, break_started}
use Rattle.fw_cmp_jobs.specs.Slots.{IsMaking}
use Rattle.fw_model_controllers.specs.Registers.{has_manager}
use Rattle.fw_model_controllers.specs.Together.{AreInStep, Becomes}
use Rattle.fw_model_controllers.specs.Together
use Rattle.fw_model_reclaim.specs.Due.{Controllers, due_in}
use Rattle.fw_model_reclaim.specs.Makings.{CurrentMakes}
use Rattle.fw_model_reclaim.specs.Restores.{Restores}
use Rattle.fw_model_reclaim.specs.Seats.{Fits}

-- Controllers are named by device; that of a device that has none, or whose controller died, is one that has just started.
-- The directory is the one that they were given since the latest bus reset.
pub record World : Type 0 where
  pub account : Account
  pub controllers : Controllers
  pub directory : Directory

-- the job is current, with its request standing or not
abbrev pub IsAtWork : Current → Job → Stage → Type 0
IsAtWork cur j s = (cur ≡ Asking j s) ⊎ (cur ≡ Hearing j s)

-- ---- what reclaiming rests on

-- a controller with no connection and no job
pub record IsUnused (c : ControllerState) : Type 0 where
  pub free : (i : ℕ) → slot_at c i ≡ Free
  pub idle : c.current ≡ Nothing

-- All that reclaiming rests on, of the account and all controllers.
pub record CanReclaim (w : World) : Type 0 where
  pub step : AreInStep w.directory w.account w.controllers
  pub each : (c : ℕ) → Restores w.account (w.controllers c)
  pub fits : Fits w.account (due_in w.controllers)
  pub makes : (c : ℕ) → CurrentMakes (w.controllers c).current
  -- devices have numbers below 63
  pub beyond : (c : ℕ) → 63 ≤ c → IsUnused (w.controllers c)

-- ---- what happens

-- a turn whose request goes out
abbrev pub SendsRequest : World → ℕ → ℕ → Account → Type 0
SendsRequest w c now m = Together.SendsRequest c now w.directory w.account w.controllers m

-- a turn in which a job ends, or nothing is done
abbrev pub SendsNothing : World → ℕ → ℕ → Account → Type 0
SendsNothing w c now m = Together.SendsNothing c now w.directory w.account w.controllers m

-- the directory has the devices of the plugs on the bus, and the manager if there is one
pub record ShowsBus (latest : Option ResetEntry) (d : Directory) : Type 0 where
  pub outputs : (p : PlugAt) → is_output latest p ≡ true → IsSome (node_of d p.device)
  pub inputs : (q : PlugAt) → is_input latest q ≡ true → IsSome (node_of d q.device)
  pub manager : has_manager latest ≡ true → IsSome d.manager

-- the controller of a device takes its turn, with a directory that shows the bus
pub record TakesTurn (w : World) (c now : ℕ) (v : World) : Type 0 where
  pub device : c < 63
  pub shows : ShowsBus w.account.latest w.directory
  pub turn : Together.TakesTurn c now w.directory v.directory w.account w.controllers v.account v.controllers

-- its request is carried out, and it hears the answer
abbrev pub HearsAnswer : World → ℕ → Reply → World → Type 0
HearsAnswer w c r v = Together.HearsAnswer c r w.directory v.directory w.account w.controllers v.account v.controllers

-- the bus only grows
pub record Grows (l : Account) (r : ResetEntry) : Type 0 where
  pub outputs : (p : PlugAt) → is_output l.latest p ≡ true → is_output (Some r) p ≡ true
  pub inputs : (q : PlugAt) → is_input l.latest q ≡ true → is_input (Some r) q ≡ true
  pub manager : has_manager l.latest ≡ true → has_manager (Some r) ≡ true

-- A bus reset, with a new directory. A controller that lost a response stands in a world as one that heard it; the bus reset is told
-- of which that is so, since their jobs count as ones whose answer was not heard.
pub record IsReset (w : World) (entry : ResetEntry) (epoch : ℕ) (lost : ℕ → Bool) (v : World) : Type 0 where
  pub network : IsNetwork entry
  pub grows : Grows w.account entry
  pub account : v.account ≡ account_reset entry w.account
  pub each : (c : ℕ) → v.controllers c ≡ state_reset epoch (lost c) (w.controllers c)

-- the reclaim second is over
pub record EndsSecond (w : World) (v : World) : Type 0 where
  pub account : v.account ≡ account_second w.account
  pub each : (c : ℕ) → v.controllers c ≡ after_second (w.controllers c)
  pub directory : v.directory ≡ w.directory

-- the controller of a device dies
pub record Dies (w : World) (c : ℕ) (v : World) : Type 0 where
  pub device : c < 63
  pub account : v.account ≡ after_death c w.account
  pub becomes : Becomes w.controllers c first_state v.controllers
  pub directory : v.directory ≡ w.directory

-- channel 31 is withheld, before the first bus reset: no controller has done anything yet
pub record Withholds (w : World) (v : World) : Type 0 where
  pub first : w.account.latest ≡ None
  pub unused : (c : ℕ) → w.controllers c ≡ first_state
  pub account : v.account ≡ after_withholding w.account
  pub each : (c : ℕ) → v.controllers c ≡ w.controllers c
  pub directory : v.directory ≡ w.directory

-- a new connection is asked for: it takes the lowest free slot
pub record AsksNew (w : World) (c i : ℕ) (slot : Slot) (v : World) : Type 0 where
  pub device : c < 63
  pub starts : start (w.controllers c) ≡ Ok i
  pub making : IsMaking slot
  pub fits : SlotFits slot
  pub account : v.account ≡ w.account
  pub becomes : Becomes w.controllers c (started (Ok i) slot (w.controllers c)) v.controllers
  pub directory : v.directory ≡ w.directory

-- a break is asked for, and accepted
pub record AsksBreak (w : World) (c i : ℕ) (v : World) : Type 0 where
  pub device : c < 63
  pub accepted : break_fault (w.controllers c) i ≡ None
  pub account : v.account ≡ w.account
  pub becomes : Becomes w.controllers c (break_started (w.controllers c) i) v.controllers
  pub directory : v.directory ≡ w.directory

-- what may happen to the account and the controllers
pub data Change : Type 0 where
  Turn : (c now : ℕ) → Change
  Answer : (c : ℕ) → (r : Reply) → Change
  BusReset : (entry : ResetEntry) → (epoch : ℕ) → (lost : ℕ → Bool) → Change
  SecondOver : Change
  Death : (c : ℕ) → Change
  NewConnection : (c i : ℕ) → (slot : Slot) → Change
  BreakOf : (c i : ℕ) → Change
  Withholding : Change
  Elsewhere : Change  -- nothing of this changes

-- the change leads from one world to another
abbrev pub Happens : World → Change → World → Type 0
Happens w (Turn c now) v = TakesTurn w c now v
Happens w (Answer c r) v = HearsAnswer w c r v
Happens w (BusReset entry epoch lost) v = IsReset w entry epoch lost v
Happens w SecondOver v = EndsSecond w v
Happens w (Death c) v = Dies w c v
Happens w (NewConnection c i slot) v = AsksNew w c i slot v
Happens w (BreakOf c i) v = AsksBreak w c i v
Happens w Withholding v = Withholds w v
Happens w Elsewhere v = v ≡ w

-- changes one after another
abbrev pub Path : World → List Change → World → Type 0
Path w [] v = v ≡ w
Path w (x ∷ changes) v = (u : World) × Happens w x u × Path u changes v
