use Rattle.std.proofs.Common.{length}
use Rattle.fw_explore_levels.proofs.LinkLaws.{IsSought}
use Rattle.fw_explore_levels.proofs.level.Level.find.Given as goal

abbrev pub invariant-loop-head : goal.invariant-loop-head
invariant-loop-head l = IsSought l.self-inside.bytes.items (length l.self-inside.heads.items) l.self-inside.spots.items l.key l.head

abbrev pub decreases-loop-head : goal.decreases-loop-head
decreases-loop-head l = l.head
