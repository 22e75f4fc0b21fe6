use Rattle.std.proofs.Common.{◌<◌, ◌∙◌, List, length, subst}
use Rattle.fw_log_requests.specs.declared.asked.Asked.{Asked}
use Rattle.fw_log_requests.proofs.ApartLaws.{first_taken}
use Rattle.fw_log_requests.proofs.requests.take_answered.Goals as goal

pub returns-then-is_first_answered : goal.returns-then-is_first_answered
returns-then-is_first_answered c =
    let same = c.as_slice.ensures in
    let first = c.is_first_answered.ensures in
    let P : List Asked → Type 0 = λ l. 0 < length l in
    c.take_first.ensures
    ∙ first_taken c.args.answer c.args.head.now c.args.queue.now c.requires (subst P same (first.some c.if-is_first_answered.true))
    (λ q rest e. first.answered c.if-is_first_answered.true q rest (same ∙ e))
