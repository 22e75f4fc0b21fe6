use Rattle.fw_tree.proofs.Common.{◌≡◌, PhyFacts}
use Rattle.std.proofs.Common.{rules, Decides}
use Rattle.std.proofs.lemmas.Slice.Eq.{slice_eq-Decides}
use Rattle.fw_tree.specs.contracts.facts.PhyFactsPartialEq.TheImpl.{eq-value}
use Rattle.fw_tree.proofs.copies.same_facts.Goals as goal

eq_facts : (a b : PhyFacts) → Decides (eq-value.it a b) (a ≡ b)
eq_facts a b = search rules

pub returns : goal.returns
returns c = λ same. (slice_eq-Decides {E = eq-value.it} eq_facts c.args.facts.now c.args.others.now c.eq.result c.eq.ensures).0 same
