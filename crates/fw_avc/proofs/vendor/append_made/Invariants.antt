use Rattle.std.proofs.Common.{◌≡◌, ◌+◌, length, take}
use Rattle.fw_avc.specs.Vendor.{AddsMade}
use Rattle.fw_avc.proofs.vendor.append_made.Given as goal

abbrev pub invariant-loop-byte : goal.invariant-loop-byte
invariant-loop-byte g l = record {
  made : AddsMade (goal.H-post g l.desk.vendor) (take l.byte-index l.asked) l.initial.operands l.operands;
  room : length l.operands ≡ length l.initial.operands + l.byte-index;
}
