-- What it comes to that a controller has nothing to do, or waits for the end of the reclaim second.
use Rattle.std.specs.Prelude.{ℕ, ◌≡◌, ◌<◌, length, None, false, []}
use Rattle.fw_cmp.specs.declared.current.Current.TheVariants.{Nothing}
use Rattle.fw_cmp_jobs.specs.declared.directory.Directory.{Directory}
use Rattle.fw_cmp.specs.Controllers.{ControllerState, slot_at}
use Rattle.fw_cmp_jobs.specs.Slots.{is_restoring}
use Rattle.fw_cmp.specs.Jobs.{waiting_break}

-- no job is current, and no connection is to be restored
pub record HasNoJob (c : ControllerState) : Type 0 where
  pub current : c.current ≡ Nothing
  pub restoring : (i : ℕ) → is_restoring (slot_at c i) ≡ false

-- and no job waits
pub record IsAtRest (c : ControllerState) : Type 0 where
  pub no_job : HasNoJob c
  pub waiting : c.waiting ≡ []

-- no job is current, no connection is to be restored, no break waits, a new connection waits, and a reclaim second runs
pub record IsHeldBack (now : ℕ) (d : Directory) (c : ControllerState) : Type 0 where
  pub no_job : HasNoJob c
  pub breaks : waiting_break c ≡ None
  pub some : 0 < length c.waiting
  pub early : now < d.over_at
