use Rattle.std.proofs.Common.{◌≡◌, List, ℕ, take, refl, drop}
use Rattle.fw_async.specs.declared.packet.Packet.{Packet}
use Rattle.fw_async.specs.declared.packet.Packet.TheVariants.{Lock}
use Rattle.fw_log_json_packets.specs.Standing.{head_standing}
use Rattle.fw_log_json_packets.proofs.StandingKinds.{swap_is}
use Rattle.fw_log_json_packets.proofs.UsualTexts.{fields_written}
use Rattle.fw_log_json_packets.proofs.requests.write_swap_request.Goals as goal

pub returns-clause-text : goal.returns-clause-text
returns-clause-text c p s =
    let bytes : List ℕ = c.args.bytes.now in
    let q : Packet = Lock (head_standing bytes) c.offset_in.result 2 (take 8 (drop 16 bytes)) in
    let same : q ≡ p = swap_is p bytes (head_standing bytes) c.offset_in.result (take 8 (drop 16 bytes)) s c.requires.code c.requires.swap refl c.offset_in.ensures refl in
    let first = c.write_opening-at.ensures.text in
    let rest = c.write_place_swap.ensures.text in
    fields_written p q (take c.args.at c.args.out.now) _ _ _ _ same c.lock.ensures first rest
