use Rattle.std.proofs.Common.{refl, arith}
use Rattle.fw_log_entry.proofs.WriteLaws.{twelve_after}
use Rattle.fw_log_entry.proofs.room.joined.Goals as goal

pub returns : goal.returns
returns c = twelve_after _ _ _ _ _ c.copy_from_slice.ensures.after c.copy_from_slice-2.ensures.after (omega arith) refl
