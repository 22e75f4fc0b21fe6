use Rattle.fw_log_json.proofs.Common.{on_ok_weaker}
use Rattle.fw_log_json_packets.proofs.IsoTexts.{iso_code}
use Rattle.fw_log_json.proofs.iso.put_iso_code.Goals as goal

pub returns : goal.returns
returns c = on_ok_weaker c.put_word.result (λ e. iso_code _ _ e) c.put_word.ensures
