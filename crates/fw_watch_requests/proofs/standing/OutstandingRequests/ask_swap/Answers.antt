use Rattle.std.proofs.Common.{◌∙◌, Option, ap, arith, sym}
use Rattle.fw_words.specs.declared.swap.Swap.{Swap as SwapWords}
use Rattle.fw_async_glance.proofs.GlanceLaws.{swap_back}
use Rattle.fw_watch_requests.specs.Standing.{asked, lock_by, with_request, without_same}
use Rattle.fw_watch_requests.proofs.standing.OutstandingRequests.ask_swap.Goals as goal

pub returns : goal.returns
returns c =
    let head = c.args.head.now in
    c.ask.ensures
    ∙ ap (λ (o : Option SwapWords). with_request (asked head c.args.offset (lock_by o)) (without_same head c.args.self.now)) (sym (swap_back c.args.swap (omega arith) (omega arith)))
