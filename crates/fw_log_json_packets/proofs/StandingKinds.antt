-- The packets of the usual kinds, by the fields that stand in their bytes.
use Rattle.std.proofs.Common.{◌≡◌, ℕ, List, take, drop, arith, ap, sym, ◌∙◌}
use Rattle.fw_words.specs.Quadlet.{field, quadlet_at}
use Rattle.fw_async_fields.specs.Reading.{tcode_of}
use Rattle.fw_async.specs.Reader.{Spells}
use Rattle.fw_async.specs.declared.packet.Head.{Head}
use Rattle.fw_async.specs.declared.packet.Packet.{Packet}
use Rattle.fw_async.specs.declared.packet.Packet.TheVariants.{WriteQuadlet, WriteBlock, WriteReply, ReadQuadlet, ReadQuadletReply, Lock, LockReply}
use Rattle.fw_log_json_packets.specs.Standing.{head_standing, offset_standing}
use Rattle.fw_async.proofs.SameLaws.{head_with, head_at, offset_at, rcode_at, length_at, function_at, data_at, packet_by, packet_is}

-- by its transaction code
by_code : (p : Packet) (bytes : List ℕ) (t : ℕ) → Spells p bytes → tcode_of bytes ≡ t
    → packet_by t (head_at (quadlet_at bytes 0) (quadlet_at bytes 4)) (offset_at (quadlet_at bytes 4) (quadlet_at bytes 8)) (rcode_at bytes) (quadlet_at bytes 12) (length_at bytes) (function_at bytes)
    (data_at bytes) ≡ p
by_code p bytes t s e =
    ap (λ (k : ℕ). packet_by k (head_at (quadlet_at bytes 0) (quadlet_at bytes 4)) (offset_at (quadlet_at bytes 4) (quadlet_at bytes 8)) (rcode_at bytes) (quadlet_at bytes 12) (length_at bytes)
    (function_at bytes) (data_at bytes))
    (sym e) ∙ packet_is p bytes s

head_is : (bytes : List ℕ) (h : Head) → h ≡ head_standing bytes → h ≡ head_at (quadlet_at bytes 0) (quadlet_at bytes 4)
unfolding head_with
head_is bytes h e = e

pub write_quadlet_is : (p : Packet) (bytes : List ℕ) (h : Head) (o v : ℕ) → Spells p bytes → tcode_of bytes ≡ 0 → h ≡ head_standing bytes → o ≡ offset_standing bytes → v ≡ quadlet_at bytes 12
    → WriteQuadlet h o v ≡ p
unfolding packet_by
write_quadlet_is p bytes h o v s t e f g =
    ap (λ (x : Head). WriteQuadlet x o v) (head_is bytes h e)
    ∙ ap (λ (x : ℕ). WriteQuadlet (head_at (quadlet_at bytes 0) (quadlet_at bytes 4)) x v) f
    ∙ ap (λ (x : ℕ). WriteQuadlet (head_at (quadlet_at bytes 0) (quadlet_at bytes 4)) (offset_at (quadlet_at bytes 4) (quadlet_at bytes 8)) x) g
    ∙ by_code p bytes 0 s t

pub write_reply_is : (p : Packet) (bytes : List ℕ) (h : Head) (r : ℕ) → Spells p bytes → tcode_of bytes ≡ 2 → h ≡ head_standing bytes → r ≡ field (quadlet_at bytes 4) 16 19 → WriteReply h r ≡ p
unfolding packet_by
write_reply_is p bytes h r s t e f =
    ap (λ (x : Head). WriteReply x r) (head_is bytes h e)
    ∙ ap (λ (x : ℕ). WriteReply (head_at (quadlet_at bytes 0) (quadlet_at bytes 4)) x) f
    ∙ by_code p bytes 2 s t

pub read_quadlet_is : (p : Packet) (bytes : List ℕ) (h : Head) (o : ℕ) → Spells p bytes → tcode_of bytes ≡ 4 → h ≡ head_standing bytes → o ≡ offset_standing bytes → ReadQuadlet h o ≡ p
unfolding packet_by
read_quadlet_is p bytes h o s t e f =
    ap (λ (x : Head). ReadQuadlet x o) (head_is bytes h e)
    ∙ ap (λ (x : ℕ). ReadQuadlet (head_at (quadlet_at bytes 0) (quadlet_at bytes 4)) x) f
    ∙ by_code p bytes 4 s t

pub read_reply_is : (p : Packet) (bytes : List ℕ) (h : Head) (r v : ℕ) → Spells p bytes → tcode_of bytes ≡ 6 → h ≡ head_standing bytes → r ≡ field (quadlet_at bytes 4) 16 19 → v ≡ quadlet_at bytes 12
    → ReadQuadletReply h r v ≡ p
unfolding packet_by
read_reply_is p bytes h r v s t e f g =
    ap (λ (x : Head). ReadQuadletReply x r v) (head_is bytes h e)
    ∙ ap (λ (x : ℕ). ReadQuadletReply (head_at (quadlet_at bytes 0) (quadlet_at bytes 4)) x v) f
    ∙ ap (λ (x : ℕ). ReadQuadletReply (head_at (quadlet_at bytes 0) (quadlet_at bytes 4)) (rcode_at bytes) x) g
    ∙ by_code p bytes 6 s t

pub write_block_is : (p : Packet) (bytes : List ℕ) (h : Head) (o : ℕ) (b : List ℕ) → Spells p bytes → tcode_of bytes ≡ 1 → h ≡ head_standing bytes → o ≡ offset_standing bytes
    → b ≡ data_at bytes → WriteBlock h o b ≡ p
unfolding packet_by
write_block_is p bytes h o b s t e f g =
    ap (λ (x : Head). WriteBlock x o b) (head_is bytes h e)
    ∙ ap (λ (x : ℕ). WriteBlock (head_at (quadlet_at bytes 0) (quadlet_at bytes 4)) x b) f
    ∙ ap (λ (x : List ℕ). WriteBlock (head_at (quadlet_at bytes 0) (quadlet_at bytes 4)) (offset_at (quadlet_at bytes 4) (quadlet_at bytes 8)) x) g ∙ by_code p bytes 1 s t

-- the data of a lock whose quadlet 3 is this
data_is : (bytes : List ℕ) (q n : ℕ) → quadlet_at bytes 12 ≡ q → field q 0 15 ≡ n → take n (drop 16 bytes) ≡ data_at bytes
data_is bytes q n e f = ap (λ (k : ℕ). take k (drop 16 bytes)) (sym f ∙ ap (λ (x : ℕ). field x 0 15) (sym e))

function_is : (bytes : List ℕ) (q n : ℕ) → quadlet_at bytes 12 ≡ q → field q 16 31 ≡ n → n ≡ function_at bytes
function_is bytes q n e f = sym f ∙ ap (λ (x : ℕ). field x 16 31) (sym e)

pub swap_is : (p : Packet) (bytes : List ℕ) (h : Head) (o : ℕ) (b : List ℕ) → Spells p bytes → tcode_of bytes ≡ 9 → quadlet_at bytes 12 ≡ 524290 → h ≡ head_standing bytes
    → o ≡ offset_standing bytes → b ≡ take 8 (drop 16 bytes) → Lock h o 2 b ≡ p
unfolding packet_by
swap_is p bytes h o b s t q e f g =
    ap (λ (x : Head). Lock x o 2 b) (head_is bytes h e)
    ∙ ap (λ (x : ℕ). Lock (head_at (quadlet_at bytes 0) (quadlet_at bytes 4)) x 2 b) f
    ∙ ap (λ (x : ℕ). Lock (head_at (quadlet_at bytes 0) (quadlet_at bytes 4)) (offset_at (quadlet_at bytes 4) (quadlet_at bytes 8)) x b) (function_is bytes 524290 2 q (omega arith))
    ∙ ap (λ (x : List ℕ). Lock (head_at (quadlet_at bytes 0) (quadlet_at bytes 4)) (offset_at (quadlet_at bytes 4) (quadlet_at bytes 8)) (function_at bytes) x)
    (g ∙ data_is bytes 524290 8 q (omega arith)) ∙ by_code p bytes 9 s t

pub swapped_is : (p : Packet) (bytes : List ℕ) (h : Head) (r : ℕ) (b : List ℕ) → Spells p bytes → tcode_of bytes ≡ 11 → quadlet_at bytes 12 ≡ 262146 → h ≡ head_standing bytes
    → r ≡ field (quadlet_at bytes 4) 16 19 → b ≡ take 4 (drop 16 bytes) → LockReply h r 2 b ≡ p
unfolding packet_by
swapped_is p bytes h r b s t q e f g =
    ap (λ (x : Head). LockReply x r 2 b) (head_is bytes h e)
    ∙ ap (λ (x : ℕ). LockReply (head_at (quadlet_at bytes 0) (quadlet_at bytes 4)) x 2 b) f
    ∙ ap (λ (x : ℕ). LockReply (head_at (quadlet_at bytes 0) (quadlet_at bytes 4)) (rcode_at bytes) x b) (function_is bytes 262146 2 q (omega arith))
    ∙ ap (λ (x : List ℕ). LockReply (head_at (quadlet_at bytes 0) (quadlet_at bytes 4)) (rcode_at bytes) (function_at bytes) x) (g ∙ data_is bytes 262146 4 q (omega arith)) ∙ by_code p bytes 11 s t
