use Rattle.std.proofs.Common.{◌≤◌, ◌∙◌, ap, sym, drop, length, arith}
use Rattle.fw_request_queue.proofs.QueueLaws.{one_less, none_left}
use Rattle.fw_request_queue.proofs.queue.Queue.take_first.Goals as goal

pub returns-then-self-len : goal.returns-then-self-len
returns-then-self-len g c = one_less c.self.inside.rows.items c.self.inside.start ∙ ap (drop 1) c.self.view_is

pub returns-else-self-len : goal.returns-else-self-len
returns-else-self-len g c =
    let end : length c.self.inside.rows.items ≤ c.self.inside.start = omega (arith, c.len.ensures, c.if-self-len.false) in
    sym c.self.view_is ∙ none_left c.self.inside.rows.items c.self.inside.start end ∙ ap (drop 1) c.self.view_is
