use Rattle.std.proofs.Common.{sym}
use Rattle.fw_log_reports.proofs.mapping.MappingReading.close.Goals as goal

pub draw-requires : goal.draw-requires
draw-requires g c = record { entry = c.in-Some.reset; fits = c.in-Some.ensures.fits; packets = c.in-Ok.ensures.tree }

pub returns-in_ok-draw-in-Ok : goal.returns-in_ok-draw-in-Ok
returns-in_ok-draw-in-Ok g c entries k =
    record {
      has = record { reset = c.in-Some.reset; last = sym (c.in-Some.ensures.last entries k); tree = c.in-Ok.tree; packets = c.in-Ok.ensures.tree };
      spelled = c.in_ok-draw-in-Ok.ensures;
    }
