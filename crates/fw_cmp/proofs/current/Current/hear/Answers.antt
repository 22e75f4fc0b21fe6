use Rattle.fw_cmp.proofs.Works.{asking_is}
use Rattle.fw_cmp.proofs.current.Current.hear.Goals as goal

pub returns-in_default : goal.returns-in_default
returns-in_default c = absurd (asking_is c.args.self.now c.in_default.not-Asking c.requires.asking)
