-- The destination that stands in the bytes of a packet.
use Rattle.fw_async.proofs.Common.{◌≡◌, ℕ, ◌<◌, List, ◌++◌, drop, arith, ap, sym, ◌∙◌, to_be_bytes, w32, field, quadlet_at, packed, HeadFits, Fits, spelling, head_fields, Spells, Head, Packet}
use Rattle.fw_async.proofs.Common.{WriteQuadlet, WriteBlock, WriteReply, ReadQuadlet, ReadQuadletReply, CycleStart, Lock, LockReply}
use Rattle.fw_async.specs.Heads.{head_of}
use Rattle.fw_async.specs.declared.packet.Packet.TheVariants.{ReadBlock, ReadBlockReply}
use Rattle.fw_async.proofs.SpelledLaws.{back, first_fits}

first : (t : ℕ) (h : Head) → t < 16 → HeadFits h → field (packed (head_fields t h) 0) 0 15 ≡ h.destination
first t h small f = omega (arith, f)

of_head : (t : ℕ) (h : Head) (rest : List ℕ) → t < 16 → HeadFits h → field (quadlet_at (to_be_bytes w32 (packed (head_fields t h) 0) ++ rest) 0) 0 15 ≡ h.destination
of_head t h rest small f = ap (λ q. field q 0 15) (back (packed (head_fields t h) 0) rest (first_fits t h small f)) ∙ first t h small f

of_packet : (p : Packet) → Fits p → field (quadlet_at (spelling p) 0) 0 15 ≡ (head_of p).destination
of_packet (WriteQuadlet h offset value) f = of_head 0 h (drop 4 (spelling (WriteQuadlet h offset value))) (omega arith) f.0
of_packet (WriteBlock h offset bytes) f = of_head 1 h (drop 4 (spelling (WriteBlock h offset bytes))) (omega arith) f.0
of_packet (WriteReply h rcode) f = of_head 2 h (drop 4 (spelling (WriteReply h rcode))) (omega arith) f.0
of_packet (ReadQuadlet h offset) f = of_head 4 h (drop 4 (spelling (ReadQuadlet h offset))) (omega arith) f.0
of_packet (ReadBlock h offset len) f = of_head 5 h (drop 4 (spelling (ReadBlock h offset len))) (omega arith) f.0
of_packet (ReadQuadletReply h rcode value) f = of_head 6 h (drop 4 (spelling (ReadQuadletReply h rcode value))) (omega arith) f.0
of_packet (ReadBlockReply h rcode bytes) f = of_head 7 h (drop 4 (spelling (ReadBlockReply h rcode bytes))) (omega arith) f.0
of_packet (CycleStart h offset time) f = of_head 8 h (drop 4 (spelling (CycleStart h offset time))) (omega arith) f.0
of_packet (Lock h offset function bytes) f = of_head 9 h (drop 4 (spelling (Lock h offset function bytes))) (omega arith) f.0
of_packet (LockReply h rcode function bytes) f = of_head 11 h (drop 4 (spelling (LockReply h rcode function bytes))) (omega arith) f.0

pub destination_of : (p : Packet) (bytes : List ℕ) → Spells p bytes → field (quadlet_at bytes 0) 0 15 ≡ (head_of p).destination
destination_of p bytes s = ap (λ b. field (quadlet_at b 0) 0 15) (sym s.same) ∙ of_packet p s.fits
