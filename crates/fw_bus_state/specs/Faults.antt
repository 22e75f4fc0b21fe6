-- What a call does to the count of faults of its sink.
use Rattle.std.specs.Prelude.{◌≡◌, ℕ, OnOk}
use Rattle.std.specs.declared.result.Result.{Result}
use Rattle.fw_outside.specs.Outside.{HasCause}

-- the count rises if the call fails, and stays if it succeeds
pub record CountsFaults {T E : Type 0} (before now : ℕ) (result : Result T E) : Type 0 where
  pub cause : HasCause before now result
  pub same : OnOk result (now ≡ before)
