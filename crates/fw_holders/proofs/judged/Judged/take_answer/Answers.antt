use Rattle.fw_holders.proofs.Common.{◌≡◌, sym}
use Rattle.fw_holders.proofs.judged.Judged.take_answer.Goals as goal

pub returns-then-answer-eq0 : goal.returns-then-answer-eq0
returns-then-answer-eq0 c = λ q r n asked code shown more within.
    let zero : r.rcode ≡ 0 = cc in
    rw (zero, sym shown) (c.take_complete.ensures q n asked more within)
