use Rattle.std.proofs.Common.{◌≡◌, ◌*◌, ◌<◌, ◌∙◌, ◌++◌, ◌∷◌, [], List, ℕ, length, take, get_or, arith, ap, sym}
use Rattle.std.proofs.lemmas.List.{take_all, take_more, take_rest, length-take}
use Rattle.std.proofs.lemmas.List.Elements.{All-get_or}
use Rattle.fw_phy.specs.Phy.{Fits}
use Rattle.fw_phy.specs.declared.packet.PhyPacket.{PhyPacket}
use Rattle.fw_log.specs.Bodies.{AreIds}
use Rattle.fw_log_text.proofs.BodyLaws.{length-spellings}
use Rattle.fw_log_reports.proofs.WholeLaws.{spelled_at}
use Rattle.fw_log_reports.proofs.whole_reset.read_ids.Goals as goal
use Rattle.fw_phy.specs.declared.packet.PhyPacket.TheVariants.{LinkOn}

-- eight bytes a packet
count : (all : List PhyPacket) (bytes : List ℕ) → AreIds all bytes → length bytes ≡ 8 * length all
count all bytes h = ap length (sym h.same) ∙ length-spellings all

pub packet_of-requires : goal.packet_of-requires
packet_of-requires c =
    let all = c.requires.0 in
    let i : ℕ = c.loop-i.i in
    let d : PhyPacket = LinkOn 0 in
    let within : i < length all = omega (arith, count all c.args.bytes.now c.requires.1, c.loop-i-test.true) in
    (get_or all i d, All-get_or Fits all i d within c.requires.1.fits, spelled_at all c.args.bytes.now _ i d c.requires.1 within (take_rest c.args.bytes.now (8 * i)))

pub push-requires : goal.push-requires
push-requires c =
    let all = c.requires.0 in
    let few = ap length (c.loop-i.invariant all c.requires.1) ∙ length-take c.loop-i.i all in
    omega (arith, few, c.requires.2, count all c.args.bytes.now c.requires.1, c.loop-i-test.true)

pub loop-i-preserved : goal.loop-i-preserved
loop-i-preserved c all h =
    let i : ℕ = c.loop-i.i in
    let d : PhyPacket = LinkOn 0 in
    let within : i < length all = omega (arith, count all c.args.bytes.now h, c.loop-i-test.true) in
    let one : c.packet_of.result ≡ get_or all i d = c.packet_of.ensures (get_or all i d) (All-get_or Fits all i d within h.fits)
    (spelled_at all c.args.bytes.now _ i d h within (take_rest c.args.bytes.now (8 * i))) in
    c.push.ensures ∙ ap (λ (xs : List PhyPacket). xs ++ c.packet_of.result ∷ []) (c.loop-i.invariant all h) ∙ ap (λ (p : PhyPacket). take i all ++ p ∷ []) one ∙ sym (take_more all i d within)

pub returns : goal.returns
returns c all h =
    c.loop-i.invariant all h ∙ take_all c.loop-i.i all (omega (arith, count all c.args.bytes.now h, c.loop-i-test.false))
