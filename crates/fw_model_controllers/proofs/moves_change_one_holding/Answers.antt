-- Each clause is a lemma.
use Rattle.fw_model_controllers.proofs.Holdings.{own_move, move_leaves, move_keeps}
use Rattle.fw_model_controllers.proofs.Elsewhere.{move_elsewhere}
use Rattle.fw_model_controllers.proofs.moves_change_one_holding.Goals as goal

pub returns-clause-own : goal.returns-clause-own
returns-clause-own c = own_move

pub returns-clause-others : goal.returns-clause-others
returns-clause-others c = move_leaves

pub returns-clause-plugs : goal.returns-clause-plugs
returns-clause-plugs c = move_keeps

pub returns-clause-registers : goal.returns-clause-registers
returns-clause-registers c = move_elsewhere
