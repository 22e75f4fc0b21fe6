use Rattle.fw_holders_laws.proofs.Quiet.{holders_stay}
use Rattle.fw_holders_laws.proofs.laws.holders_stay_between_lines.Goals as goal

pub returns : goal.returns
returns c = holders_stay
