-- What a vendor makes of bytes, after bytes that are there.
use Rattle.std.specs.Prelude.{◌≡◌, ℕ, List, ◌++◌}
use Rattle.fw_tape.specs.Desks.{VendorRelation}
use Rattle.fw_avc.specs.Replies.{Makes}

-- the bytes that a vendor made of those that were asked are added
pub record AddsMade (V : VendorRelation) (asked before after : List ℕ) : Type 0 where
  pub made : List ℕ
  pub makes : Makes V asked made
  pub added : after ≡ before ++ made
