use Rattle.fw_watch_known.proofs.UsualLaws.{usual_after}
use Rattle.fw_watch_known.proofs.state.State.hear_usual.Goals as goal

pub returns : goal.returns
returns c = usual_after c.args.self.now c.args.p.now c.counted-self.result c.requires c.counted-self.ensures
