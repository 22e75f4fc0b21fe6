-- Each clause is a lemma.
use Rattle.fw_model_run.proofs.Common.{refl}
use Rattle.fw_model_run.proofs.Truth.{deaf_turns, quiet_turns, loses_as, resets_as, starts_as, breaks_as, breaking_as, dies_as}
use Rattle.fw_model_run.proofs.losses.lost_responses_are_not_heard.Goals as goal

pub returns-clause-first : goal.returns-clause-first
returns-clause-first c d = refl

pub returns-clause-deaf : goal.returns-clause-deaf
returns-clause-deaf c = deaf_turns

pub returns-clause-turn : goal.returns-clause-turn
returns-clause-turn c = quiet_turns

pub returns-clause-loses : goal.returns-clause-loses
returns-clause-loses c = loses_as

pub returns-clause-reset : goal.returns-clause-reset
returns-clause-reset c s e d g = resets_as s e d

pub returns-clause-second : goal.returns-clause-second
returns-clause-second c s d = refl

pub returns-clause-connection : goal.returns-clause-connection
returns-clause-connection c = starts_as

pub returns-clause-breaks : goal.returns-clause-breaks
returns-clause-breaks c = breaks_as

pub returns-clause-breaking : goal.returns-clause-breaking
returns-clause-breaking c = breaking_as

pub returns-clause-death : goal.returns-clause-death
returns-clause-death c = dies_as
