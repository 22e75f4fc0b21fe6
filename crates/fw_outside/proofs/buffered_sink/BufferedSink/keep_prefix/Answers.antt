use Rattle.std.proofs.Common.{◌++◌, ◌∙◌, List, ℕ, take, arith, ap}
use Rattle.fw_outside.proofs.Rows.{prefix_kept}
use Rattle.fw_outside.proofs.buffered_sink.BufferedSink.keep_prefix.Goals as goal

pub returns-clause-kept : goal.returns-clause-kept
returns-clause-kept g c =
    let sink = c.args.self.now in
    prefix_kept sink.length c.args.count 48 _ sink.bytes c.put_row.new.room (omega (arith, c.requires.room)) c.put_row.ensures.size c.requires.count
    ∙ ap (λ (x : List ℕ). take sink.length sink.bytes ++ take c.args.count x) c.put_row.ensures.bytes
