use Rattle.fw_tree.proofs.Common.{◌≡◌, ◌<◌, ℕ, IfSome, None, IsTrue, slice_index_or, true, false, is_seen, unseen}
use Rattle.fw_tree.specs.Cables.{MarksPeers}
use Rattle.fw_tree.proofs.walk.mark_peers.Given as goal

abbrev pub invariant-loop-port : goal.invariant-loop-port
invariant-loop-port l = record {
  marks : MarksPeers l.ports l.initial.seen l.seen;
  marked : (p : ℕ) → p < l.port-index → IfSome (slice_index_or l.ports p None) (λ e. IsTrue (is_seen l.seen e.device));
  same : l.changed ≡ false → l.seen ≡ l.initial.seen;
  fewer : l.changed ≡ true → unseen l.seen < unseen l.initial.seen;
}
