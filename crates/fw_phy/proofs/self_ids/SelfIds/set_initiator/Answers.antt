use Rattle.std.proofs.Common.{◌≡◌, ◌<◌, ◌+◌, ◌++◌, ℕ, List, length, get_or, map, take, drop, slice_set, arith, ap, ◌∙◌}
use Rattle.std.proofs.lemmas.List.{get_or_default}
use Rattle.std.proofs.lemmas.List.Edits.{map_over_more}
use Rattle.fw_phy.specs.declared.packet.PhyPacket.{PhyPacket}
use Rattle.fw_phy.specs.Phy.{begun_by}
use Rattle.fw_phy.proofs.self_ids.SelfIds.set_initiator.Goals as goal

-- one packet more is written
one_more : (f : PhyPacket → PhyPacket) (xs ys : List PhyPacket) (i : ℕ) (d y : PhyPacket) → i < length xs → length ys ≡ length xs → ys ≡ map f (take i xs) ++ drop i xs → y ≡ f (get_or ys i d)
    → slice_set ys i y ≡ map f (take (i + 1) xs) ++ drop (i + 1) xs
one_more f xs ys i d y low size h e = ap (slice_set ys i) e ∙ map_over_more f xs ys i (get_or ys i d) low h (get_or_default ys i d (get_or ys i d) (omega arith))

pub loop-packet-preserved : goal.loop-packet-preserved
loop-packet-preserved c = one_more
    (begun_by c.args.phy) c.as_mut_slice-packets.result.now c.loop-packet.packets c.loop-packet.packet-index _ c.note_initiator.new.packet c.loop-packet-test.true c.loop-packet.auto.packets
    c.loop-packet.invariant c.note_initiator.ensures
