use Rattle.std.proofs.Common.{◌≡◌, ◌≤◌, ◌++◌, drop}
use Rattle.fw_explore_endings.specs.Texts.{moves_text}
use Rattle.fw_explore_endings.proofs.MovesLaws.{pending}
use Rattle.fw_explore_endings.proofs.text.put_moves.Given as goal

abbrev pub invariant-loop-at : goal.invariant-loop-at
invariant-loop-at l = record {
  few : l.count ≤ l.at;
  text : l.out.items ++ pending l.explored l.count (drop l.at l.moves) ≡ l.fn.out.items ++ moves_text l.explored l.moves;
}
