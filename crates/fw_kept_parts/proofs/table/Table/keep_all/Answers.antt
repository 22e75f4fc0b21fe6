use Rattle.std.proofs.Common.{◌≡◌, ◌<◌, ◌+◌, List, ℕ, length, take, sym, subst, arith}
use Rattle.std.proofs.lemmas.List.{get_or_read}
use Rattle.fw_kept_parts.specs.Tables.{KeepsAll}
use Rattle.fw_kept_parts.proofs.KeepLaws.{keeps_none, keeps_more}
use Rattle.fw_kept_parts.proofs.table.Table.keep_all.Goals as goal

pub loop-k-init : goal.loop-k-init
loop-k-init g c = keeps_none g.T.Part.IsOf c.args.self.now c.args.out.now.items

pub loop-k-preserved : goal.loop-k-preserved
loop-k-preserved g c =
    let k = c.loop-k.k in
    let wholes = c.args.wholes.now in
    let now = c.loop-k.out.items in
    let Q : List ℕ → Type 0 = λ o. KeepsAll g.T.Part.IsOf c.args.self.now c.keep.new.self (take (k + 1) wholes) c.args.out.now.items o in
    subst Q (sym c.in_ok-push.ensures.items)
    (keeps_more g.T.Part.IsOf c.args.self.now c.loop-k.self c.keep.new.self wholes c.args.out.now.items now k c.in_ok-keep.field-0 c.index-wholes-k.result c.loop-k-test.true
    (λ d. sym (get_or_read wholes k c.index-wholes-k.result c.loop-k-test.true c.index-wholes-k.is d)) c.loop-k.invariant c.in_ok-keep.ensures.ok)
