use Rattle.fw_log_json.proofs.Common.{on_ok_weaker, then, counted, coded}
use Rattle.fw_log_json.proofs.entry.put_inserted.Goals as goal

pub returns : goal.returns
returns c =
    on_ok_weaker c.put_code.result (λ piece. then _ _ _ _ _ (counted _ _ _ _ _ c.from.ensures c.in_ok-put_count.ensures)
    (coded _ _ _ _ _ _ _ _ c.from-2.ensures c.system_name-system.ensures piece)) c.put_code.ensures
