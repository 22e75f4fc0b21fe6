use Rattle.std.proofs.Common.{subst}
use Rattle.fw_log_entry.specs.Log.{Fits}
use Rattle.fw_log_entry.specs.declared.entry.Entry.{Entry}
use Rattle.fw_log_text.proofs.TallyLaws.{reports_other}
use Rattle.fw_log_text.proofs.report.StreamReport.take.Goals as goal

pub take_packet-requires : goal.take_packet-requires
take_packet-requires c = let P : Entry → Type 0 = Fits in subst P c.in-Iso.is c.requires

pub returns-in-Iso : goal.returns-in-Iso
returns-in-Iso c entries few h = c.take_packet.ensures entries c.args.entry.now c.in-Iso.is few h

pub returns-in_default : goal.returns-in_default
returns-in_default c entries few h = reports_other entries c.args.entry.now c.args.self.now c.in_default.not-Iso h
