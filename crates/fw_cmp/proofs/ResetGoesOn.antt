-- A controller can go on after the end of the reclaim second, after a bus reset, and at first.
use Rattle.fw_cmp.proofs.Common.{◌≡◌, ℕ, ◌<◌, ◌≤◌, Bool, true, false, List, sym, ◌∙◌, arith, ◌⊎◌, inl, inr, if◌then◌else◌, Connection, Flow, Slot, Free, Making, Established, Restoring, Gone, Current}
use Rattle.fw_cmp.proofs.Common.{Nothing}
use Rattle.fw_cmp.proofs.Common.{Asking, Hearing, Overtaken, WaitingJob, Directory, Job, Purpose, Make, Restore, Break, Stage, Begin, Made, Ended, ControllerState, slot_at, with_slot, CurrentReached}
use Rattle.fw_cmp.proofs.Common.{CanGoOn, current_reset, slot_reset, after_reset, slot_over, lost_reset}
use Rattle.std.proofs.lemmas.Bool.{cases_lt}
use Rattle.std.proofs.lemmas.List.{get_or_past, get_or-replicate, length-replicate}
use Rattle.fw_cmp_jobs.specs.declared.outcome.Outcome.TheVariants.{Reset}
use Rattle.fw_cmp.specs.Controllers.{first_state}
use Rattle.fw_cmp.specs.Starts.{free_slot}
use Rattle.fw_cmp.specs.Resets.{overtaken, after_second, after_lost_reset, state_reset}
use Rattle.fw_cmp.proofs.Ended.{after_stop}
use Rattle.fw_cmp.proofs.SlotsReset.{slot_at_reset, slot_at_over}

-- ---- the end of the reclaim second

over_standing : (s : Slot) (conn : Connection) (f : Flow) → slot_over s ≡ Established conn f → s ≡ Established conn f
over_standing Free conn f e = e
over_standing (Making x asked overhead) conn f e = e
over_standing (Established x y) conn f e = e
over_standing (Restoring x y over) conn f e = cc
over_standing (Gone x) conn f e = e

pub second_goes_on : (d : Directory) (c : ControllerState) → CanGoOn d c → CanGoOn d (after_second c)
second_goes_on d c h = record { standing = λ i conn f e. h.standing i conn f (over_standing (slot_at c i) conn f (sym (slot_at_over c.slots i) ∙ e)); current = h.current }

-- ---- a bus reset

reset_standing : (s : Slot) (conn : Connection) (f : Flow) → slot_reset s ≡ Established conn f → ⊥
reset_standing Free conn f e = cc
reset_standing (Making x asked overhead) conn f e = cc
reset_standing (Established x y) conn f e = cc
reset_standing (Restoring x y over) conn f e = cc
reset_standing (Gone x) conn f e = cc

decided_reached : (d : Directory) (c : ControllerState) (j : Job) (p : Purpose) → CurrentReached d c.current
    → CurrentReached d (elim p as (λ _. ControllerState) [ Make ↦ c | Restore ↦ c | Break ↦ with_slot c j.slot (Gone j.connection) ]).current
decided_reached d c j Make h = h
decided_reached d c j Restore h = h
decided_reached d c j Break h = h

interrupted_reached : (d : Directory) (epoch : ℕ) (c : ControllerState) (j : Job) (p : Purpose)
    → CurrentReached d (elim p as (λ _. ControllerState) [
      | Make ↦ after_stop c j Free (Overtaken j.slot (Reset epoch))
      | Restore ↦ record c { current = Asking j Begin }
      | Break ↦ after_stop c j Free
          (Overtaken j.slot (Reset epoch))
    ]).current
interrupted_reached d epoch c j Make = tt
interrupted_reached d epoch c j Restore = tt
interrupted_reached d epoch c j Break = tt

overtaken_reached : (d : Directory) (epoch : ℕ) (ss : List Slot) (ts : List WaitingJob) (j : Job) (s : Stage) (hears : Bool)
    → let c : ControllerState = record { slots = ss; waiting = ts; current = (if hears then Hearing j s else Asking j s) } in CurrentReached d (overtaken epoch c j s).current
overtaken_reached d epoch ss ts j (Made f) b = tt
overtaken_reached d epoch ss ts j (Ended e) true = decided_reached d (record { slots = ss; waiting = ts; current = Hearing j (Ended e) }) j j.purpose tt
overtaken_reached d epoch ss ts j (Ended e) false = decided_reached d (record { slots = ss; waiting = ts; current = Asking j (Ended e) }) j j.purpose tt
overtaken_reached d epoch ss ts j s b = interrupted_reached d epoch (record { slots = ss; waiting = ts; current = (if b then Hearing j s else Asking j s) }) j j.purpose

current_reset_reached : (d : Directory) (epoch : ℕ) (ss : List Slot) (ts : List WaitingJob) (cur : Current)
    → CurrentReached d (current_reset epoch (record { slots = ss; waiting = ts; current = cur }) cur).current
current_reset_reached d epoch ss ts Nothing = tt
current_reset_reached d epoch ss ts (Asking j s) = overtaken_reached d epoch ss ts j s false
current_reset_reached d epoch ss ts (Hearing j s) = overtaken_reached d epoch ss ts j s true
current_reset_reached d epoch ss ts (Overtaken i o) = tt

-- after a bus reset a controller can go on at each bus
pub reset_goes_on : (d : Directory) (epoch : ℕ) (c : ControllerState) → CanGoOn d (after_reset epoch c)
reset_goes_on d epoch c =
    let r : ControllerState = current_reset epoch c c.current in
    record {
      standing = λ i conn f e. absurd (reset_standing (slot_at r i) conn f (sym (slot_at_reset r.slots i) ∙ e));
      current = current_reset_reached d epoch c.slots c.waiting c.current;
    }

lost_reset_reached : (d : Directory) (epoch : ℕ) (ss : List Slot) (ts : List WaitingJob) (cur : Current)
    → CurrentReached d (lost_reset epoch (record { slots = ss; waiting = ts; current = cur }) cur).current
lost_reset_reached d epoch ss ts Nothing = tt
lost_reset_reached d epoch ss ts (Asking j s) = interrupted_reached d epoch (record { slots = ss; waiting = ts; current = Asking j s }) j j.purpose
lost_reset_reached d epoch ss ts (Hearing j s) = interrupted_reached d epoch (record { slots = ss; waiting = ts; current = Hearing j s }) j j.purpose
lost_reset_reached d epoch ss ts (Overtaken i o) = tt

-- the same if the response to its request was lost
pub lost_reset_goes_on : (d : Directory) (epoch : ℕ) (c : ControllerState) → CanGoOn d (after_lost_reset epoch c)
lost_reset_goes_on d epoch c =
    let r : ControllerState = lost_reset epoch c c.current in
    record {
      standing = λ i conn f e. absurd (reset_standing (slot_at r i) conn f (sym (slot_at_reset r.slots i) ∙ e));
      current = lost_reset_reached d epoch c.slots c.waiting c.current;
    }

pub state_reset_goes_on : (d : Directory) (epoch : ℕ) (lost : Bool) (c : ControllerState) → CanGoOn d (state_reset epoch lost c)
state_reset_goes_on d epoch true c = lost_reset_goes_on d epoch c
state_reset_goes_on d epoch false c = reset_goes_on d epoch c

-- at first a controller can go on at each bus
pub first_goes_on : (d : Directory) → CanGoOn d first_state
first_goes_on d = record { standing = λ i conn f e. let free : slot_at first_state i ≡ Free = free_slot i (cases_lt i 32) in cc; current = tt }
  where
    free_slot : (i : ℕ) → (i < 32) ⊎ (32 ≤ i) → slot_at first_state i ≡ Free
    free_slot i (inl lt) = get_or-replicate 32 i Free Free lt
    free_slot i (inr le) = get_or_past first_state.slots i Free (omega (arith, length-replicate 32 Free))
