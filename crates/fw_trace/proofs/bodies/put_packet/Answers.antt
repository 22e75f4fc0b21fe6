use Rattle.fw_log_entry.specs.declared.entry.Entry.TheVariants.{Async}
use Rattle.fw_trace.proofs.PieceLaws.{puts_entry}
use Rattle.fw_trace.proofs.bodies.put_packet.Goals as goal

pub returns : goal.returns
returns c p s =
    puts_entry c.put_bytes.result (record { cycle = c.args.cycle; what = Async p }) c.args.tracer.now c.put_bytes.new.self (c.put_bytes.ensures.text p s) (c.put_bytes.ensures.kept p s)
