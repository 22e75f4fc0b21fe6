-- What is known of a controller's slots without a look at them.
use Rattle.std.specs.Prelude.{ℕ, Bool, List, slice_index_or, IsTrue, IsFalse}
use Rattle.fw_cmp_jobs.specs.declared.connection.Slot.{Slot}
use Rattle.fw_cmp_jobs.specs.declared.connection.Slot.TheVariants.{Free}
use Rattle.fw_cmp_jobs.specs.Slots.{is_restoring}

-- no slot is to be restored, if that is known
abbrev pub NoneToRestore : Bool → List Slot → Type 0
NoneToRestore known slots = IsTrue known → (i : ℕ) → IsFalse (is_restoring (slice_index_or slots i Free))
