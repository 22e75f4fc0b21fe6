use Rattle.std.proofs.Common.{sym}
use Rattle.std.proofs.lemmas.Result.{on_ok_weaker}
use Rattle.fw_log_explain.proofs.LoopLaws.{stepped}
use Rattle.fw_log_explain.proofs.LatestLaws.{whole_text}
use Rattle.fw_log_explain.proofs.reset.put_reset.Goals as goal

pub returns : goal.returns
returns c =
    on_ok_weaker c.put_later.result (λ piece. stepped _ _ _ _ _ _ c.in_ok-put_epoch.ensures piece (sym (whole_text c.args.r.now))) c.put_later.ensures
