use Rattle.fw_async.proofs.Common.{sym, ◌∙◌}
use Rattle.fw_async.proofs.ExactLaws.{whole_from_spells, clear_from_spells}
use Rattle.fw_async.proofs.SameLaws.{same_packet}
use Rattle.fw_async.proofs.reader.whole_packet.Goals as goal

pub packet_at-requires : goal.packet_at-requires
packet_at-requires c =
    let p = c.requires.packet in
    record { clear = clear_from_spells p c.args.bytes.now c.requires.spells; complete = whole_from_spells p c.args.bytes.now c.requires.spells }

pub returns-clause-same : goal.returns-clause-same
returns-clause-same c = λ p s. same_packet c.packet_at.result p c.packet_at.ensures.fits s.fits (c.packet_at.ensures.same ∙ sym s.same)
