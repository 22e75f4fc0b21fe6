use Rattle.fw_account_tables.proofs.Common.{◌≡◌, ◌==◌, not, None, find_to, field}
use Rattle.fw_account_tables.proofs.channel.changed_bit.Given as goal

abbrev pub invariant-loop-i : goal.invariant-loop-i
invariant-loop-i l = find_to l.i (λ j. not (field l.argument j j == field l.new j j)) ≡ None
