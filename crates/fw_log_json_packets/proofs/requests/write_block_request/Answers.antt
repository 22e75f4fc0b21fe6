use Rattle.std.proofs.Common.{◌≡◌, List, ℕ, take, refl}
use Rattle.fw_async.specs.declared.packet.Packet.{Packet}
use Rattle.fw_async.specs.declared.packet.Packet.TheVariants.{WriteBlock}
use Rattle.fw_log_json_packets.specs.Standing.{head_standing}
use Rattle.fw_log_json_packets.proofs.StandingKinds.{write_block_is}
use Rattle.fw_log_json_packets.proofs.UsualTexts.{fields_written}
use Rattle.fw_log_json_packets.proofs.requests.write_block_request.Goals as goal

pub returns-clause-text : goal.returns-clause-text
returns-clause-text c p s =
    let bytes : List ℕ = c.args.bytes.now in
    let q : Packet = WriteBlock (head_standing bytes) c.offset_in.result c.args.block.now in
    let same : q ≡ p = write_block_is p bytes (head_standing bytes) c.offset_in.result c.args.block.now s c.requires.code refl c.offset_in.ensures c.requires.block in
    let first = c.write_opening-at.ensures.text in
    let rest = c.write_place_block.ensures.text in
    fields_written p q (take c.args.at c.args.out.now) _ _ _ _ same c.write_block.ensures first rest
