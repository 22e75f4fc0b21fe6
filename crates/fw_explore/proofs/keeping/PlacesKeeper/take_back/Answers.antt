use Rattle.fw_explore.proofs.Common.{sym, subst}
use Rattle.fw_explore.specs.Keeping.{IsKeptIn}
use Rattle.fw_explore.proofs.keeping.PlacesKeeper.take_back.Goals as goal

pub uncount-requires : goal.uncount-requires
uncount-requires c = (c.requires.0, c.requires.1.reached, c.requires.2)

pub returns : goal.returns
returns c = subst (IsKeptIn c.args.self.now c.args._now.now) (sym (c.uncount.ensures.machine c.requires.0 c.requires.2)) c.requires.1
