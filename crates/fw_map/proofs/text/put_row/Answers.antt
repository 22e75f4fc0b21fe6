use Rattle.fw_map.proofs.Common.{◌++◌, [], string_bytes, sym}
use Rattle.std.proofs.Common.{decimal}
use Rattle.std.proofs.lemmas.List.{append-nil}
use Rattle.fw_map.specs.Texts.{no_speed}
use Rattle.fw_map.proofs.TextLaws.{row_more, goes_on}
use Rattle.fw_map.proofs.text.put_row.Goals as goal

pub loop-b-init : goal.loop-b-init
loop-b-init c = ([], no_speed, sym (append-nil (string_bytes c.args.text.now)))

pub loop-b-preserved : goal.loop-b-preserved
loop-b-preserved c =
    let i = c.loop-b.invariant in
    let s = c.least_speed-speed.result in (
      i.0 ++ decimal s,
      row_more c.args.tree.now c.args.a c.loop-b.b s i.0 i.1 (record { walk = c.least_speed-speed.ensures.walk; least = c.least_speed-speed.ensures.least }),
      goes_on (string_bytes c.args.text.now) (string_bytes c.loop-b.text) (decimal s) i.0 (string_bytes c.write.new.self) c.in_ok-write.ensures.bytes i.2,
    )
