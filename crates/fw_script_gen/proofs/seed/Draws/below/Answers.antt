use Rattle.std.proofs.Common.{refl}
use Rattle.fw_script_gen.proofs.GenLaws.{state_next}
use Rattle.fw_script_gen.proofs.seed.Draws.below.Goals as goal

pub returns-clause-next : goal.returns-clause-next
returns-clause-next c seed n at = state_next seed n c.args.self.now.state _ _ at refl refl
