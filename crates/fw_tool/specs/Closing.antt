-- How a call ends after its last flush.
use Rattle.std.specs.Prelude.{◌≡◌, ◌⊎◌, ℕ, List, [], Ok, Err}
use Rattle.std.specs.declared.result.Result.{Result}
use Rattle.fw_outside.specs.Outside.{Rose}
use Rattle.fw_tool.specs.declared.ending.Ending.{Ending}
use Rattle.fw_outside.specs.declared.stop.Stop.TheVariants.{WriteFault}
use Rattle.fw_tool.specs.declared.ending.Ending.TheVariants.{Stopped}
use Rattle.fw_tool.specs.Faults.{FirstFault}

-- a write fault that only the last flush shows is told in the place of what the words came to
abbrev pub closed : {T E : Type 0} → Ending → Result T E → Ending
closed ending (Ok _) = ending
closed ending (Err _) = Stopped WriteFault

-- What the words came to, and what is told after the last flush: the same, if nothing is kept back any more; or a write fault,
-- if the flush failed, which that of a sink that passes each piece on at once never does.
pub record IsClosed (at_once : Type 0) (read read' written written' : ℕ) (kept : List ℕ) (ending told : Ending) : Type 0 where
  pub before : ℕ
  pub first : FirstFault read read' written before ending
  pub flushed : ((told ≡ ending) × (written' ≡ before) × (kept ≡ [])) ⊎ ((told ≡ Stopped WriteFault) × Rose before written' × (at_once → ⊥))
