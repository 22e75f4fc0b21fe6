use Rattle.fw_tree.proofs.Common.{◌≡◌, ◌<◌, ℕ, IfSome, IsTrue, true, false, is_seen, unseen, peer}
use Rattle.fw_tree.specs.Cables.{Spreads}
use Rattle.fw_tree.proofs.walk.spread.Given as goal

abbrev pub invariant-loop-d : goal.invariant-loop-d
invariant-loop-d l = record {
  marks : Spreads l.g l.initial.seen l.seen;
  closed : l.changed ≡ false → (d p : ℕ) → d < l.d → IsTrue (is_seen l.seen d) → IfSome (peer l.g d p) (λ e. IsTrue (is_seen l.seen e.device));
  same : l.changed ≡ false → l.seen ≡ l.initial.seen;
  fewer : l.changed ≡ true → unseen l.seen < unseen l.initial.seen;
}
