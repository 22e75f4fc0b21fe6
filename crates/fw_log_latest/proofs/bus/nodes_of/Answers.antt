use Rattle.std.proofs.Common.{[], ◌∷◌, length, length-append, arith, ap}
use Rattle.fw_log.proofs.ResetLaws.{nodes_more, fits_more}
use Rattle.fw_log_latest.proofs.bus.nodes_of.Goals as goal

pub loop-i-preserved : goal.loop-i-preserved
loop-i-preserved c = record {
  count = omega (arith, ap length c.push.ensures, length-append c.loop-i.nodes (c.node_of.result ∷ []));
  fits = fits_more c.loop-i.nodes c.push.new.self c.node_of.result c.loop-i.invariant.fits c.push.ensures c.node_of.ensures.fits;
  same = nodes_more c.loop-i.nodes c.push.new.self c.node_of.result c.quadlet_at.result.0 c.loop-i.i c.args.bytes.now c.loop-i.invariant.same c.push.ensures c.node_of.ensures.same
      c.quadlet_at.ensures.back;
}
