use Rattle.std.proofs.Common.{◌≡◌, ◌<◌, ◌+◌, List, ℕ, length, take, sym, subst, arith}
use Rattle.std.proofs.lemmas.List.{get_or_read}
use Rattle.fw_kept_parts.specs.Tables.{KeepsAll}
use Rattle.fw_kept_parts.proofs.KeepLaws.{keeps_none, keeps_more}
use Rattle.fw_bus_places.proofs.guesses.keep_all_guessed.Goals as goal

pub loop-k-init : goal.loop-k-init
loop-k-init g c = keeps_none g.T.Part.IsOf c.args.kept.now c.args.out.now.items

pub loop-k-preserved : goal.loop-k-preserved
loop-k-preserved g c =
    let k = c.loop-k.k in
    let wholes = c.args.wholes.now in
    let now = c.loop-k.out.items in
    let Q : List ℕ → Type 0 = λ o. KeepsAll g.T.Part.IsOf c.args.kept.now c.keep_guessed.new.kept (take (k + 1) wholes) c.args.out.now.items o in
    subst Q (sym c.in_ok-push.ensures.items)
    (keeps_more g.T.Part.IsOf c.args.kept.now c.loop-k.kept c.keep_guessed.new.kept wholes c.args.out.now.items now k c.in_ok-keep_guessed.field-0 c.index-wholes-k.result c.loop-k-test.true
    (λ d. sym (get_or_read wholes k c.index-wholes-k.result c.loop-k-test.true c.index-wholes-k.is d)) c.loop-k.invariant c.in_ok-keep_guessed.ensures)
