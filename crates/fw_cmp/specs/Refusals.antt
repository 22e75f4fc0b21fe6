-- When a new connection is refused, and which slot it takes.
use Rattle.std.specs.Prelude.{ℕ, ◌<◌, ◌≡◌, true, false, length}
use Rattle.fw_cmp.specs.Controllers.{ControllerState, slot_at}
use Rattle.fw_cmp_jobs.specs.Slots.{is_free}

-- all 32 slots are in use
abbrev pub IsFull : ControllerState → Type 0
IsFull c = (i : ℕ) → i < 32 → is_free (slot_at c i) ≡ false

-- a slot is free
abbrev pub HasFree : ControllerState → Type 0
HasFree c = (i : ℕ) × ((i < 32) × (is_free (slot_at c i) ≡ true))

-- the lowest free slot, while fewer than eight jobs wait
pub record TakesSlot (c : ControllerState) (i : ℕ) : Type 0 where
  pub within : i < 32
  pub free : is_free (slot_at c i) ≡ true
  pub lowest : (k : ℕ) → k < i → is_free (slot_at c k) ≡ false
  pub room : length c.waiting < 8
