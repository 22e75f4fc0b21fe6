use Rattle.fw_cmp_jobs.proofs.Common.{◌≡◌, None, find_to}
use Rattle.fw_cmp_jobs.specs.Plugs.{is_bit}
use Rattle.fw_cmp_jobs.proofs.words.first_free.Given as goal

abbrev pub invariant-loop-i : goal.invariant-loop-i
invariant-loop-i l = find_to l.i (is_bit l.word) ≡ None
