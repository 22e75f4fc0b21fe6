use Rattle.std.proofs.Common.{List, ℕ, take, ap, ◌∙◌}
use Rattle.std.proofs.lemmas.List.{take-take}
use Rattle.fw_log_entry.proofs.WriteLaws.{writes_same}
use Rattle.fw_log_entry.proofs.entry_room.EntryBytes.write_to.Goals as goal

pub returns-then-self-le-ROW-clause-bytes : goal.returns-then-self-le-ROW-clause-bytes
returns-then-self-le-ROW-clause-bytes g c =
    let n = c.self.inside.length in
    let bytes = c.self.inside.bytes in
    writes_same (g.K.Sink.held c.args.sink.now) (g.K.Sink.held c.write_prefix.new.self) c.write_prefix.result (take n c.row_of.result.now) c.args.self.now
    (ap (λ (row : List ℕ). take n row) c.row_of.ensures ∙ (take-take n 48 bytes c.if-self-le-ROW.true ∙ c.self.view_is))
    c.write_prefix.ensures.bytes
