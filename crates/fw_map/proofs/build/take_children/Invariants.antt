use Rattle.fw_map.proofs.Common.{◌≡◌, ◌≤◌, ◌<◌, ℕ, true, number_at, is_there, Tree, Hangs, Agrees, Grown}
use Rattle.fw_map.specs.Growing.{Counts, KeepsRest}
use Rattle.fw_map.proofs.build.take_children.Given as goal

abbrev pub invariant-loop-port : goal.invariant-loop-port
invariant-loop-port l = record {
  low : l.below ≤ l.node;
  grown : Grown l.ids l.node l.port l.tree;
  counts : Counts l.ids l.node l.port l.tree;
  closed : (x : ℕ) → l.below ≤ x → x < l.node → is_there (number_at l.tree.parent x) ≡ true;
  taken : (c p : ℕ) → Hangs l.tree c l.node p → l.below ≤ c;
  agrees : (s : Tree) → (n : ℕ) → l.node < n → Grown l.ids n 27 s → Agrees s l.initial.tree l.node 27 → Agrees s l.tree l.node l.port;
  rest : KeepsRest l.initial.tree l.tree;
}
