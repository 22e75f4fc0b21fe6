use Rattle.fw_log_json_packets.proofs.IsoTexts.{usual_pieces}
use Rattle.fw_log_json_packets.proofs.usual_iso.sizes.Goals as goal

pub returns : goal.returns
returns c = usual_pieces
