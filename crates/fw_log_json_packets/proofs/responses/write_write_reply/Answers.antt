use Rattle.std.proofs.Common.{◌≡◌, ◌++◌, ◌∙◌, List, ℕ, take, ap, sym, refl}
use Rattle.fw_async.specs.declared.packet.Packet.{Packet}
use Rattle.fw_async.specs.declared.packet.Packet.TheVariants.{WriteReply}
use Rattle.std.proofs.lemmas.List.{append-nil}
use Rattle.fw_log_json_packets.specs.Packets.{rcode_fields}
use Rattle.fw_log_json_packets.specs.Standing.{head_standing}
use Rattle.fw_log_json_packets.proofs.StandingKinds.{write_reply_is}
use Rattle.fw_log_json_packets.proofs.UsualTexts.{fields_written}
use Rattle.fw_log_json_packets.proofs.responses.write_write_reply.Goals as goal

pub returns-clause-text : goal.returns-clause-text
returns-clause-text c p s =
    let bytes : List ℕ = c.args.bytes.now in
    let q : Packet = WriteReply (head_standing bytes) c.args.rcode in
    let same : q ≡ p = write_reply_is p bytes (head_standing bytes) c.args.rcode s c.requires.code refl c.requires.rcode in
    let first = c.write_opening-at.ensures.text in
    let code : List ℕ = rcode_fields c.args.rcode in
    let rest = c.write_rcode.ensures.text ∙ ap (λ (t : List ℕ). take c.write_opening-at.result c.write_opening-at.new.out ++ t) (sym (append-nil code)) in
    fields_written p q (take c.args.at c.args.out.now) _ _ _ _ same c.write_reply.ensures first rest
