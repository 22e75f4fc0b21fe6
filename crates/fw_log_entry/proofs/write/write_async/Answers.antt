use Rattle.std.proofs.Common.{◌+◌, ◌/◌, ◌++◌, List, ℕ, length, take, ap, sym, ◌∙◌}
use Rattle.fw_log_entry.specs.declared.entry.Entry.TheVariants.{Async}
use Rattle.fw_log_entry.specs.Log.{entry_head, entry_bytes}
use Rattle.fw_log_entry.specs.declared.version.Version.TheVariants.{Two}
use Rattle.fw_log_entry.proofs.WriteLaws.{writes_same}
use Rattle.fw_log_entry.proofs.write.write_async.Goals as goal

pub returns-then-count-le-SHORT-clause-bytes : goal.returns-then-count-le-SHORT-clause-bytes
returns-then-count-le-SHORT-clause-bytes g c = λ p s.
    let packet = c.args.packet.now in
    let head = c.long_head-head.ensures ∙ ap (λ (b : List ℕ). entry_head Two c.args.epoch 2 (length b / 4) c.args.cycle) c.as_slice-count.ensures in
    let row = c.row_following.result.now in
    writes_same (g.K.Sink.held c.args.sink.now) (g.K.Sink.held c.write_prefix.new.self) c.write_prefix.result (take (16 + length c.as_slice-count.result.now) row)
    (entry_bytes Two c.args.epoch (record { cycle = c.args.cycle; what = Async p }))
    (ap (λ (b : List ℕ). take (16 + length b) row) c.as_slice-count.ensures
    ∙ (c.row_following.ensures ∙ (ap (λ (h : List ℕ). h ++ packet) head ∙ ap (λ b. entry_head Two c.args.epoch 2 (length b / 4) c.args.cycle ++ b) (sym s.same))))
    c.write_prefix.ensures.bytes

pub returns-clause-bytes : goal.returns-clause-bytes
returns-clause-bytes g c = λ p s.
    let packet = c.args.packet.now in
    let head = c.long_head-head.ensures ∙ ap (λ (b : List ℕ). entry_head Two c.args.epoch 2 (length b / 4) c.args.cycle) c.as_slice-count.ensures in
    writes_same (g.K.Sink.held c.args.sink.now) (g.K.Sink.held c.write.new.self) c.write.result c.following_bytes.result.now
    (entry_bytes Two c.args.epoch (record { cycle = c.args.cycle; what = Async p }))
    (c.following_bytes.ensures ∙ (ap (λ (h : List ℕ). h ++ packet) head ∙ ap (λ b. entry_head Two c.args.epoch 2 (length b / 4) c.args.cycle ++ b) (sym s.same)))
    c.write.ensures.bytes
