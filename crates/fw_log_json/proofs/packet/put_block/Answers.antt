use Rattle.fw_log_json.proofs.Common.{on_ok_weaker, then}
use Rattle.fw_log_json.proofs.packet.put_block.Goals as goal

pub returns : goal.returns
returns c =
    on_ok_weaker c.put_data.result (λ piece. then _ _ _ _ _ c.in_ok-put_count.ensures piece) c.put_data.ensures
