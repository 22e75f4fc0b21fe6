use Rattle.fw_tree.proofs.Common.{◌≡◌, ◌<◌, None, Some, true, take, slice_index_or, is_seen, is_open}
use Rattle.std.specs.Prelude.{count_by, IfSome, IfNone}
use Rattle.fw_tree.proofs.rounds.only_open.Given as goal

abbrev pub invariant-loop-p : goal.invariant-loop-p
invariant-loop-p l =
    IfNone l.open (count_by (is_open (is_seen l.stays)) (take l.p l.ports) ≡ 0)
    × IfSome l.open (λ c. (count_by (is_open (is_seen l.stays)) (take l.p l.ports) ≡ 1) × (c.port < 27) × (slice_index_or l.ports c.port None ≡ Some c.end) × (is_seen l.stays c.end.device ≡ true))
