use Rattle.fw_cmp_jobs.proofs.Common.{◌≡◌, None, get_or, find_to, is_free, Free}
use Rattle.fw_cmp_jobs.proofs.slots.first_free.Given as goal

abbrev pub invariant-loop-i : goal.invariant-loop-i
invariant-loop-i l = find_to l.i (λ i. is_free (get_or l.slots i Free)) ≡ None
