use Rattle.std.proofs.Common.{◌≡◌, ◌++◌, ◌∙◌, List, ℕ, take, ap, sym, refl}
use Rattle.fw_async.specs.declared.packet.Packet.{Packet}
use Rattle.fw_async.specs.declared.packet.Packet.TheVariants.{ReadQuadlet}
use Rattle.std.proofs.lemmas.List.{append-nil}
use Rattle.fw_log_json_packets.specs.Packets.{place_fields}
use Rattle.fw_log_json_packets.specs.Standing.{head_standing}
use Rattle.fw_log_json_packets.proofs.StandingKinds.{read_quadlet_is}
use Rattle.fw_log_json_packets.proofs.UsualTexts.{fields_written}
use Rattle.fw_log_json_packets.proofs.requests.write_read.Goals as goal

pub returns-clause-text : goal.returns-clause-text
returns-clause-text c p s =
    let bytes : List ℕ = c.args.bytes.now in
    let q : Packet = ReadQuadlet (head_standing bytes) c.offset_in.result in
    let same : q ≡ p = read_quadlet_is p bytes (head_standing bytes) c.offset_in.result s c.requires.code refl c.offset_in.ensures in
    let first = c.write_opening-at.ensures.text in
    let place : List ℕ = place_fields c.offset_in.result in
    let rest = c.write_row.ensures.text ∙ ap (λ (t : List ℕ). take c.write_opening-at.result c.write_opening-at.new.out ++ t) (c.place.ensures ∙ sym (append-nil place)) in
    fields_written p q (take c.args.at c.args.out.now) _ _ _ _ same c.read_quadlet.ensures first rest
