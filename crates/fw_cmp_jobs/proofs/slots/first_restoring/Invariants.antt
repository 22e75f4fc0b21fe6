use Rattle.fw_cmp_jobs.proofs.Common.{◌≡◌, None, get_or, find_to, is_restoring, Free}
use Rattle.fw_cmp_jobs.proofs.slots.first_restoring.Given as goal

abbrev pub invariant-loop-i : goal.invariant-loop-i
invariant-loop-i l = find_to l.i (λ i. is_restoring (get_or l.slots i Free)) ≡ None
