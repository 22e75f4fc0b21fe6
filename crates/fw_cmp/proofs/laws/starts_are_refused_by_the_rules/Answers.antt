use Rattle.fw_cmp.proofs.Starting.{full_means, full_refused, crowded_means, crowded_refused, taken_slot, no_connection_means, no_connection_refused, crowded_break_means, crowded_break_refused}
use Rattle.fw_cmp.proofs.laws.starts_are_refused_by_the_rules.Goals as goal

pub returns-clause-full : goal.returns-clause-full
returns-clause-full c s = (full_means s, full_refused s)

pub returns-clause-crowded : goal.returns-clause-crowded
returns-clause-crowded c s = (crowded_means s, λ h. crowded_refused s h.0 h.1)

pub returns-clause-slot : goal.returns-clause-slot
returns-clause-slot c = taken_slot

pub returns-clause-no_connection : goal.returns-clause-no_connection
returns-clause-no_connection c s i = (no_connection_means s i, no_connection_refused s i)

pub returns-clause-crowded_break : goal.returns-clause-crowded_break
returns-clause-crowded_break c s i = (crowded_break_means s i, λ h. crowded_break_refused s i h.0 h.1)
