use Rattle.fw_trace.proofs.Common.{subst, PutsEntry}
use Rattle.fw_cip.specs.declared.packet.IsoPacket.{IsoPacket}
use Rattle.fw_log_entry.specs.declared.entry.Entry.TheVariants.{Iso}
use Rattle.fw_trace.proofs.PieceLaws.{puts_entry}
use Rattle.fw_trace.proofs.bodies.put_iso.Goals as goal

pub returns : goal.returns
returns c p f e =
    let P : IsoPacket → Type 0 = λ q. PutsEntry (record { cycle = c.args.cycle; what = Iso q }) c.args.tracer.now c.put_iso.new.self c.put_iso.result in
    subst P (c.whole_iso.ensures.same p f e) (puts_entry c.put_iso.result _ c.args.tracer.now c.put_iso.new.self c.put_iso.ensures.text c.put_iso.ensures.kept)
