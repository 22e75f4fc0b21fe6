use Rattle.std.proofs.Common.{◌≡◌, List, ℕ, take, refl, drop}
use Rattle.fw_async.specs.declared.packet.Packet.{Packet}
use Rattle.fw_async.specs.declared.packet.Packet.TheVariants.{LockReply}
use Rattle.fw_log_json_packets.specs.Standing.{head_standing}
use Rattle.fw_log_json_packets.proofs.StandingKinds.{swapped_is}
use Rattle.fw_log_json_packets.proofs.UsualTexts.{fields_written}
use Rattle.fw_log_json_packets.proofs.responses.write_swap_reply.Goals as goal

pub returns-clause-text : goal.returns-clause-text
returns-clause-text c p s =
    let bytes : List ℕ = c.args.bytes.now in
    let q : Packet = LockReply (head_standing bytes) c.args.rcode 2 (take 4 (drop 16 bytes)) in
    let same : q ≡ p = swapped_is p bytes (head_standing bytes) c.args.rcode (take 4 (drop 16 bytes)) s c.requires.code c.requires.swap refl c.requires.rcode refl in
    let first = c.write_opening-at.ensures.text in
    let rest = c.write_rcode_old.ensures.text in
    fields_written p q (take c.args.at c.args.out.now) _ _ _ _ same c.lock_reply.ensures first rest
