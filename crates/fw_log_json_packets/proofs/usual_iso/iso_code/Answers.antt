use Rattle.std.proofs.Common.{[], refl}
use Rattle.fw_log_json_packets.proofs.IsoTexts as Texts
use Rattle.fw_log_json_packets.proofs.usual_iso.iso_code.Goals as goal

pub returns : goal.returns
returns c = Texts.iso_code [] _ refl
