-- The bytes of a packet: how many they are, the transaction code that stands in them, and the line that they make.
use Rattle.std.proofs.Common.{◌≡◌, ℕ, ◌≤◌, List, [], ◌∷◌, ◌++◌, drop, length, codes, decimal, arith, ap, sym, ◌∙◌}
use Rattle.fw_async.specs.Async.{Fits, spelling}
use Rattle.fw_async.specs.Reader.{Spells}
use Rattle.fw_async_fields.specs.Reading.{tcode_of}
use Rattle.fw_async.specs.declared.packet.Packet.{Packet}
use Rattle.fw_async.specs.declared.packet.Packet.TheVariants.{WriteQuadlet, WriteBlock, WriteReply, ReadQuadlet, ReadBlock, ReadQuadletReply, ReadBlockReply, CycleStart, Lock, LockReply}
use Rattle.fw_async_fields.proofs.NeedLaws.{need_most}
use Rattle.fw_async.proofs.SpelledSizeLaws.{spelled_need}
use Rattle.fw_async.proofs.SpelledLaws.{spelled_none, spelled_tcode}
use Rattle.fw_log_entry.specs.declared.entry.Entry.TheVariants.{Async}
use Rattle.fw_log_names.specs.Names.{tcode}
use Rattle.fw_log_text.specs.Names.{packet_name}
use Rattle.fw_log_text.specs.Line.{quadlets_text, entry_line}

pub at_most : (p : Packet) (bytes : List ℕ) → Spells p bytes → length bytes ≤ 528
at_most p bytes s = omega (arith, ap length s.same, spelled_need p s.fits, need_most (spelling p) (spelled_none p s.fits))

code_of : (p : Packet) → Fits p → tcode_of (spelling p) ≡ tcode p
code_of (WriteQuadlet h offset value) f = spelled_tcode 0 h (drop 4 (spelling (WriteQuadlet h offset value))) (omega arith) f.0
code_of (WriteBlock h offset bytes) f = spelled_tcode 1 h (drop 4 (spelling (WriteBlock h offset bytes))) (omega arith) f.0
code_of (WriteReply h rcode) f = spelled_tcode 2 h (drop 4 (spelling (WriteReply h rcode))) (omega arith) f.0
code_of (ReadQuadlet h offset) f = spelled_tcode 4 h (drop 4 (spelling (ReadQuadlet h offset))) (omega arith) f.0
code_of (ReadBlock h offset len) f = spelled_tcode 5 h (drop 4 (spelling (ReadBlock h offset len))) (omega arith) f.0
code_of (ReadQuadletReply h rcode value) f = spelled_tcode 6 h (drop 4 (spelling (ReadQuadletReply h rcode value))) (omega arith) f.0
code_of (ReadBlockReply h rcode bytes) f = spelled_tcode 7 h (drop 4 (spelling (ReadBlockReply h rcode bytes))) (omega arith) f.0
code_of (CycleStart h offset time) f = spelled_tcode 8 h (drop 4 (spelling (CycleStart h offset time))) (omega arith) f.0
code_of (Lock h offset function bytes) f = spelled_tcode 9 h (drop 4 (spelling (Lock h offset function bytes))) (omega arith) f.0
code_of (LockReply h rcode function bytes) f = spelled_tcode 11 h (drop 4 (spelling (LockReply h rcode function bytes))) (omega arith) f.0

pub code_in : (p : Packet) (bytes : List ℕ) → Spells p bytes → tcode_of bytes ≡ tcode p
code_in p bytes s = ap tcode_of (sym s.same) ∙ code_of p s.fits

-- a cycle, a name and the quadlets are the line of the packet's entry
pub line_is : (cycle : ℕ) (p : Packet) (bytes prefix word : List ℕ) → Spells p bytes → prefix ≡ decimal cycle ++ codes " " → word ≡ codes "async " ++ packet_name p
    → prefix ++ (word ++ quadlets_text bytes) ++ 10 ∷ [] ≡ entry_line (record { cycle = cycle; what = Async p })
line_is cycle p bytes prefix word s f w =
    let quads : List ℕ = quadlets_text bytes in
    ap (λ (x : List ℕ). x ++ (word ++ quads) ++ 10 ∷ []) f ∙ ap (λ (x : List ℕ). decimal cycle ++ codes " " ++ (x ++ quads) ++ 10 ∷ []) w
    ∙ ap (λ (b : List ℕ). decimal cycle ++ codes " " ++ (codes "async " ++ packet_name p ++ quadlets_text b) ++ 10 ∷ []) (sym s.same)
