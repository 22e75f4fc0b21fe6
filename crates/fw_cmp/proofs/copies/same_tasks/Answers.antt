use Rattle.fw_cmp.proofs.Common.{◌≡◌, WaitingJob}
use Rattle.std.proofs.Common.{rules, Decides}
use Rattle.std.proofs.lemmas.Slice.Eq.{slice_eq-Decides}
use Rattle.fw_cmp.specs.contracts.current.WaitingJobPartialEq.TheImpl.{eq-value}
use Rattle.fw_cmp.proofs.copies.same_tasks.Goals as goal

eq_task : (a b : WaitingJob) → Decides (eq-value.it a b) (a ≡ b)
eq_task a b = search rules

pub returns : goal.returns
returns c = λ same. (slice_eq-Decides {E = eq-value.it} eq_task c.args.tasks.now c.args.others.now c.eq.result c.eq.ensures).0 same
