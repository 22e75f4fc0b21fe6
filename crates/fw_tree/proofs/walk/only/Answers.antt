use Rattle.fw_tree.proofs.SeenLaws.{only_from}
use Rattle.fw_tree.proofs.walk.only.Goals as goal

pub returns-clause-others : goal.returns-clause-others
returns-clause-others c = λ d h. only_from 63 c.args.a d h
