use Rattle.fw_tree.proofs.DueLaws.{Going}
use Rattle.fw_tree.proofs.rounds.leave.Given as goal

abbrev pub invariant-loop-d : goal.invariant-loop-d
invariant-loop-d l = Going l.g l.round l.before.stays l.now.stays l.now.due l.initial.parents l.parents l.changed l.d
