use Rattle.fw_log_json.proofs.Common.{on_ok_weaker, prefix_fields, then, coded}
use Rattle.fw_log_json.proofs.prefix.put_prefix.Goals as goal

pub returns : goal.returns
unfolding prefix_fields
returns c =
    on_ok_weaker c.put_code.result
    (λ piece. then _ _ _ _ _ c.in_ok-put_cycle.ensures (coded _ _ _ _ _ _ _ _ c.from.ensures c.kind_name.ensures piece)) c.put_code.ensures
