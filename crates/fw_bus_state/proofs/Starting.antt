-- A connection that a controller does not refuse, and what its slot holds for it.
use Rattle.fw_bus_state.proofs.Common.{◌≡◌, ◌==◌, ℕ, Bool, true, false, ControllerState}
use Rattle.std.specs.Prelude.{Result, Ok, Err, if◌then◌else◌}
use Rattle.fw_cmp.specs.declared.outcome.StartFault.{StartFault}
use Rattle.fw_cmp.specs.declared.outcome.StartFault.TheVariants.{NotOwnPlug}
use Rattle.fw_cmp.specs.Starts.{start}
use Rattle.fw_cmp_jobs.specs.Slots.{IsMaking}
use Rattle.fw_order.specs.declared.order.Wanted.{Wanted}
use Rattle.fw_order.specs.declared.order.Wanted.TheVariants.{BroadcastIn, BroadcastOut, PlugToPlug}
use Rattle.fw_model_run.specs.Afterwards.{slot_of, start_of}

own : (b : Bool) (r : Result ℕ StartFault) (i : ℕ) → (if b then r else Err NotOwnPlug) ≡ Ok i → r ≡ Ok i
own true r i e = e
own false r i e = cc

-- its slot is the lowest free one
pub slot_found : (d : ℕ) (w : Wanted) (c : ControllerState) (i : ℕ) → start_of d w c ≡ Ok i → start c ≡ Ok i
slot_found d (PlugToPlug out into channel overhead) c i e = e
slot_found d (BroadcastOut out overhead) c i e = own (out.device == d) (start c) i e
slot_found d (BroadcastIn into) c i e = own (into.device == d) (start c) i e

-- it is being made
pub slot_makes : (w : Wanted) → IsMaking (slot_of w)
slot_makes (PlugToPlug out into channel overhead) = tt
slot_makes (BroadcastOut out overhead) = tt
slot_makes (BroadcastIn into) = tt
