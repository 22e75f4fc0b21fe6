use Rattle.std.proofs.Common.{ap, sym, ◌∙◌}
use Rattle.fw_cip.specs.Iso.{iso_fault}
use Rattle.fw_cip.proofs.SpelledLaws.{spelled_none}
use Rattle.fw_cip.proofs.SameLaws.{same_packet}
use Rattle.fw_cip.proofs.read.whole_iso.Goals as goal

pub packet_of-requires : goal.packet_of-requires
packet_of-requires c = ap iso_fault (sym c.requires.same) ∙ spelled_none c.requires.packet c.requires.fits

pub returns-clause-same : goal.returns-clause-same
returns-clause-same c p fits same = same_packet c.packet_of.result p c.packet_of.ensures.fits fits (c.packet_of.ensures.same ∙ sym same)
