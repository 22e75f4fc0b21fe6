use Rattle.std.proofs.Common.{arith, ap}
use Rattle.fw_cip.proofs.StreamLaws.{packet_fits}
use Rattle.fw_cip.proofs.talker.Talker.cycle.Goals as goal
use Rattle.fw_cip.proofs.talker.Talker.cycle.Goals.{in-Some, in-None}

pub returns-clause-fits : goal.returns-clause-fits
returns-clause-fits c channel sid =
    rw c.fdf_of.ensures (packet_fits _ _ c.args.sid c.args.fifty c.match-next.block (omega (arith, ap (λ s. s.channel) c.self.view_is)) c.self.invariant sid (elim c.match-next.branch [
      | in-Some w ↦ rw w.block-is w.new.ensures.fits
      | in-None w ↦ rw w.block-is tt
    ]))
