use Rattle.std.proofs.Common.{arith, List, sym, subst}
use Rattle.fw_log_text.specs.declared.report.Channel.{Channel}
use Rattle.fw_log_text.specs.Tallies.{Reports}
use Rattle.fw_log_text.proofs.TallyLaws.{reports_iso, channel_below}
use Rattle.fw_log_text.proofs.report.StreamReport.take_packet.Goals as goal

pub returns : goal.returns
returns c entries entry is few h =
    let P : List Channel → Type 0 = Reports entries in
    reports_iso entries entry c.args.packet.now c.self.inside.channels c.from-number.result _ c.take.result is c.from-number.ensures
    (omega (arith, c.from-number.ensures, channel_below c.args.packet.now c.requires)) few c.take.ensures (subst P (sym c.self.view_is) h)
