use Rattle.fw_holders.proofs.Common.{◌≡◌, ◌≤◌, ◌+◌, ◌++◌, List, ℕ, codes, length, Account, StandsFor}
use Rattle.std.proofs.Common.{◌*◌}
use Rattle.fw_holders.specs.Held.{listed, held_below}
use Rattle.fw_holders.proofs.held_line.pass_held.Given as goal

abbrev pub invariant-loop-channel : goal.invariant-loop-channel
invariant-loop-channel l = record {
  room : length l.line ≤ 144 + 48 * l.channel;
  text : (before : List ℕ) (account : Account) → l.initial.line ≡ before ++ codes ": " → StandsFor l.tables account → l.line ≡ before ++ listed (held_below l.channel account);
}
