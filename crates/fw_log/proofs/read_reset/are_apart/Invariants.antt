use Rattle.fw_log_entry.specs.Log.{devices}
use Rattle.fw_log.proofs.ApartLaws.{Holds}
use Rattle.fw_log.proofs.read_reset.are_apart.Given as goal

abbrev pub invariant-loop-i : goal.invariant-loop-i
invariant-loop-i l = Holds (devices l.rows) l.i l.met
