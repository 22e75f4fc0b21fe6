use Rattle.fw_check_causes_laws.proofs.Broken.{broken}
use Rattle.fw_check_causes_laws.proofs.Names.{decided}
use Rattle.fw_check_causes_laws.proofs.laws.broken_rules_have_a_cause.Goals as goal

pub returns : goal.returns
returns c = record { broken = broken; decided = decided }
