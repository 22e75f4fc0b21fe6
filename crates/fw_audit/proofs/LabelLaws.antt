-- The label that stands in the bytes of a packet.
use Rattle.std.proofs.Common.{◌≡◌, ℕ, ◌<◌, ◌==◌, false, List, ◌++◌, drop, arith, refl, ap, sym, ◌∙◌}
use Rattle.std.specs.Int.{to_be_bytes, w32}
use Rattle.fw_words.specs.Quadlet.{field, quadlet_at}
use Rattle.fw_words.specs.Layout.{packed}
use Rattle.fw_terms.specs.declared.label.Label.TheVariants.{Procedure}
use Rattle.fw_terms.specs.Labels.{label_code}
use Rattle.fw_async.specs.Async.{HeadFits, Fits, spelling, head_fields}
use Rattle.fw_async.specs.Heads.{head_of}
use Rattle.fw_async.specs.Reader.{Spells}
use Rattle.fw_async.specs.declared.packet.Head.{Head}
use Rattle.fw_async.specs.declared.packet.Packet.{Packet}
use Rattle.fw_async.specs.declared.packet.Packet.TheVariants.{WriteQuadlet, WriteBlock, WriteReply, ReadQuadlet, ReadBlock, ReadQuadletReply, ReadBlockReply, CycleStart, Lock, LockReply}
use Rattle.fw_async.proofs.SpelledLaws.{back, first_fits}
use Rattle.fw_log_entry.specs.declared.entry.Entry.TheVariants.{Async}
use Rattle.fw_audit.specs.Found.{IsPassedOver}
use Rattle.fw_audit.proofs.Audits.{other_clear, other_passed}

first : (t : ℕ) (h : Head) → t < 16 → HeadFits h → field (packed (head_fields t h) 0) 16 21 ≡ h.tl
first t h small f = omega (arith, f)

of_head : (t : ℕ) (h : Head) (rest : List ℕ) → t < 16 → HeadFits h → field (quadlet_at (to_be_bytes w32 (packed (head_fields t h) 0) ++ rest) 0) 16 21 ≡ h.tl
of_head t h rest small f = ap (λ q. field q 16 21) (back (packed (head_fields t h) 0) rest (first_fits t h small f)) ∙ first t h small f

of_packet : (p : Packet) → Fits p → field (quadlet_at (spelling p) 0) 16 21 ≡ (head_of p).tl
of_packet (WriteQuadlet h offset value) f = of_head 0 h (drop 4 (spelling (WriteQuadlet h offset value))) (omega arith) f.0
of_packet (WriteBlock h offset bytes) f = of_head 1 h (drop 4 (spelling (WriteBlock h offset bytes))) (omega arith) f.0
of_packet (WriteReply h rcode) f = of_head 2 h (drop 4 (spelling (WriteReply h rcode))) (omega arith) f.0
of_packet (ReadQuadlet h offset) f = of_head 4 h (drop 4 (spelling (ReadQuadlet h offset))) (omega arith) f.0
of_packet (ReadBlock h offset len) f = of_head 5 h (drop 4 (spelling (ReadBlock h offset len))) (omega arith) f.0
of_packet (ReadQuadletReply h rcode value) f = of_head 6 h (drop 4 (spelling (ReadQuadletReply h rcode value))) (omega arith) f.0
of_packet (ReadBlockReply h rcode bytes) f = of_head 7 h (drop 4 (spelling (ReadBlockReply h rcode bytes))) (omega arith) f.0
of_packet (CycleStart h offset time) f = of_head 8 h (drop 4 (spelling (CycleStart h offset time))) (omega arith) f.0
of_packet (Lock h offset function bytes) f = of_head 9 h (drop 4 (spelling (Lock h offset function bytes))) (omega arith) f.0
of_packet (LockReply h rcode function bytes) f = of_head 11 h (drop 4 (spelling (LockReply h rcode function bytes))) (omega arith) f.0

-- a packet with another label than that of procedures is passed over
unlabelled : (p : Packet) → ((head_of p).tl == label_code Procedure) ≡ false → IsPassedOver (Async p)
unlabelled (WriteQuadlet h offset value) e = λ l. (refl, other_clear l)
unlabelled (WriteBlock h offset bytes) e = λ l. (refl, other_clear l)
unlabelled (WriteReply h rcode) e = λ l. (refl, other_clear l)
unlabelled (ReadQuadlet h offset) e = λ l. other_passed l h _ _ e
unlabelled (ReadBlock h offset len) e = λ l. (refl, other_clear l)
unlabelled (ReadQuadletReply h rcode value) e = λ l. other_passed l h _ _ e
unlabelled (ReadBlockReply h rcode bytes) e = λ l. (refl, other_clear l)
unlabelled (CycleStart h offset time) e = λ l. (refl, other_clear l)
unlabelled (Lock h offset function bytes) e = λ l. other_passed l h _ _ e
unlabelled (LockReply h rcode function bytes) e = λ l. other_passed l h _ _ e

pub other_label : (p : Packet) (bytes : List ℕ) → Spells p bytes → (field (quadlet_at bytes 0) 16 21 == label_code Procedure) ≡ false → IsPassedOver (Async p)
other_label p bytes s other =
    let is : field (quadlet_at bytes 0) 16 21 ≡ (head_of p).tl = ap (λ b. field (quadlet_at b 0) 16 21) (sym s.same) ∙ of_packet p s.fits in
    unlabelled p (ap (λ (n : ℕ). n == label_code Procedure) (sym is) ∙ other)
