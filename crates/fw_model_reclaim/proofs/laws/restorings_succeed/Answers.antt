-- The turn finds what the lemma asks.
use Rattle.fw_model_reclaim.proofs.Living.{turn_meets, facts_in}
use Rattle.fw_model_reclaim.proofs.Outcomes.{ends_restored}
use Rattle.fw_model_reclaim.proofs.laws.restorings_succeed.Goals as goal

pub returns : goal.returns
returns g = λ w v c now h runs t. ends_restored w.account now w.directory (w.controllers c) (record { runs = runs; meets = turn_meets w v c now h t; stage = (facts_in w c h).stage })
