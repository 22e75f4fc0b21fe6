use Rattle.fw_tree.proofs.Common.{◌≡◌, ◌<◌, ℕ, peer}
use Rattle.fw_tree.proofs.copies.same_cables.Given as goal

abbrev pub invariant-loop-device : goal.invariant-loop-device
invariant-loop-device l = (d p : ℕ) → d < l.device → peer l.cables d p ≡ peer l.others d p
