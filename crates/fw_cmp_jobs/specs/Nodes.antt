-- What a controller knows of the bus.
use Rattle.std.specs.Prelude.{ℕ, ◌<◌, Option, Some, None, slice_get, IfSome}
use Rattle.fw_cmp_jobs.specs.declared.directory.Directory.{Directory}

-- a number, if there is one inside and outside
abbrev pub joined : Option (Option ℕ) → Option ℕ
joined None = None
joined (Some n) = n

-- the node number of a device; none if it is not on the bus with its link
abbrev pub node_of : Directory → ℕ → Option ℕ
node_of d device = joined (slice_get d.node device)

-- each node number is one
pub record HasNodeNumbers (d : Directory) : Type 0 where
  pub devices : (device : ℕ) → IfSome (node_of d device) (λ n. n < 63)
  pub manager : IfSome d.manager (λ n. n < 63)
