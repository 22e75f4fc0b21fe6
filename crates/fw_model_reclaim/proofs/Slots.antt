-- A controller's slots after a change.
use Rattle.fw_model_reclaim.proofs.Common.{◌≡◌, ◌≢◌, ℕ, ◌<◌, length, sym, ap, ◌∙◌, get_or, Slot, Free, ControllerState, slot_at, with_slot}
use Rattle.std.proofs.Common.{map}
use Rattle.std.proofs.Math.ListN.{get_or-map}
use Rattle.std.proofs.lemmas.List.{get_or-set_same, get_or-set_other}

pub slot_set_same : (c : ControllerState) (i : ℕ) (s : Slot) → i < length c.slots → slot_at (with_slot c i s) i ≡ s
slot_set_same c i s lt = get_or-set_same c.slots i s Free lt

pub slot_set_other : (c : ControllerState) (i k : ℕ) (s : Slot) → k ≢ i → slot_at (with_slot c i s) k ≡ slot_at c k
slot_set_other c i k s ne = get_or-set_other c.slots i k s Free ne

-- each slot changed by a function that keeps a free one
pub slot_mapped : (c : ControllerState) (f : Slot → Slot) (i : ℕ) → f Free ≡ Free → slot_at (record c { slots = map f c.slots }) i ≡ f (slot_at c i)
slot_mapped c f i free = ap (λ d. get_or (map f c.slots) i d) (sym free) ∙ get_or-map f c.slots i Free
