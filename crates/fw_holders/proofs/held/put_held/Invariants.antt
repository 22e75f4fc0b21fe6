use Rattle.fw_holders.proofs.Common.{◌≡◌, ◌≤◌, ◌++◌, ℕ, List, codes, Account, StandsFor}
use Rattle.std.proofs.Common.{◌-◌}
use Rattle.fw_holders.specs.Held.{listed, held_below}
use Rattle.fw_holders.proofs.held.put_held.Given as goal

abbrev pub invariant-loop-channel : goal.invariant-loop-channel
invariant-loop-channel l = record {
  within : l.channel ≤ 64;
  same : l.texts ≡ l.initial.texts;
  text : (before : List ℕ) (account : Account) → l.initial.text.items ≡ before ++ codes ": " → StandsFor l.tables account → l.text.items ≡ before ++ listed (held_below l.channel account);
}

abbrev pub decreases-loop-channel : goal.decreases-loop-channel
decreases-loop-channel l = 64 - l.channel
