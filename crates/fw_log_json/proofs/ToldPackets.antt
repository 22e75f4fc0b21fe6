-- The fields of an asynchronous packet tell the packet.
use Rattle.fw_log_json.proofs.Common.{◌≡◌, ℕ, ◌^◌, ◌<◌, ◌≤◌, List, length, codes, Some, arith, Packet, tcode_name, rcode_name, function_name, retry_name, code}
use Rattle.fw_async.specs.Async.{HeadFits, Fits}
use Rattle.fw_async_fields.specs.Data.{AreBytes}
use Rattle.fw_async.specs.Heads.{head_of}
use Rattle.fw_async.specs.declared.packet.Head.{Head}
use Rattle.fw_async.specs.declared.packet.Packet.TheVariants.{WriteQuadlet, WriteBlock, WriteReply, ReadQuadlet, ReadBlock, ReadQuadletReply, ReadBlockReply, CycleStart, Lock, LockReply}
use Rattle.fw_async.proofs.KindLaws.{lock_most, reply_most}
use Rattle.fw_log_names.specs.Names.{tcode}
use Rattle.fw_log_json_packets.specs.Packets.{head_fields, place_fields, rcode_fields, target_fields, quadlet_field, block_fields, lock_fields, data_fields, packet_fields}
use Rattle.fw_log_json.proofs.Told.{Value, Told, next, knowing, means, comma, comma_first, coded, known, Differ, left, right, differ, codes_differ, number, nothing}
use Rattle.fw_log_json.proofs.ToldValues.{four, eight, twelve, in_bytes}

heads : (h k : Head) → HeadFits h → HeadFits k → Told (head_fields h) (head_fields k) (h ≡ k)
heads h k a b =
    means
    (next (next (next (next (comma (codes "\"dst_id\":") (four h.destination k.destination (omega (arith, a)) (omega (arith, b))))
    (comma (codes "\"tlabel\":") (number h.tl k.tl (omega (arith, a)) (omega (arith, b)))))
    (coded (codes "\"retry\":") (codes "\"retry_name\":") retry_name h.rt k.rt (omega (arith, a)) (omega (arith, b))))
    (comma (codes "\"priority\":") (number h.pri k.pri (omega (arith, a)) (omega (arith, b)))))
    (comma (codes "\"src_id\":") (four h.source k.source (omega (arith, a)) (omega (arith, b)))))
    (λ p. λ i. record { destination = p.0.0.0.0 i; tl = p.0.0.0.1 i; rt = p.0.0.1 i; pri = p.0.1 i; source = p.1 i })

places : (m n : ℕ) → m < 2 ^ 48 → n < 2 ^ 48 → Told (place_fields m) (place_fields n) (m ≡ n)
places m n a b = comma (codes "\"offset\":") (twelve m n a b)

rcodes : (m n : ℕ) → m < 2 ^ 4 → n < 2 ^ 4 → Told (rcode_fields m) (rcode_fields n) (m ≡ n)
rcodes m n a b = coded (codes "\"rcode\":") (codes "\"rcode_name\":") rcode_name m n (omega (arith, a)) (omega (arith, b))

quadlets : (m n : ℕ) → m < 2 ^ 32 → n < 2 ^ 32 → Told (quadlet_field m) (quadlet_field n) (m ≡ n)
quadlets m n a b = comma (codes "\"data\":") (eight m n a b)

blocks : (xs ys : List ℕ) → length xs ≤ 512 → length ys ≤ 512 → AreBytes xs → AreBytes ys → Told (block_fields xs) (block_fields ys) (xs ≡ ys)
blocks xs ys l m a b =
    means (knowing (comma (codes "\"data_length\":") (number (length xs) (length ys) (omega (arith, l)) (omega (arith, m)))) (comma_first _ _) (comma_first _ _)
    (λ e. (comma (codes "\"data\":") (in_bytes xs ys a b e)).value)) (λ p. p.1)

-- the function and the data of a lock
locks : (f g : ℕ) (xs ys : List ℕ) → f < 8 → g < 8 → length xs ≤ 512 → length ys ≤ 512 → AreBytes xs → AreBytes ys
    → Told (lock_fields f xs) (lock_fields g ys) ((f ≡ g) × (xs ≡ ys))
locks f g xs ys c d l m a b =
    means (knowing (next (comma (codes "\"data_length\":") (number (length xs) (length ys) (omega (arith, l)) (omega (arith, m))))
    (coded (codes "\"extended_tcode\":") (codes "\"extended_tcode_name\":") function_name f g (omega (arith, c)) (omega (arith, d))))
    (comma_first _ _) (comma_first _ _) (λ e. (comma (codes "\"data\":") (in_bytes xs ys a b e.0)).value)) (λ p. (p.0.1, p.1))

pub small : (p : Packet) → tcode p < 2 ^ 64
small (WriteQuadlet h offset value) = omega arith
small (WriteBlock h offset bytes) = omega arith
small (WriteReply h rcode) = omega arith
small (ReadQuadlet h offset) = omega arith
small (ReadBlock h offset len) = omega arith
small (ReadQuadletReply h rcode value) = omega arith
small (ReadBlockReply h rcode bytes) = omega arith
small (CycleStart h offset time) = omega arith
small (Lock h offset function bytes) = omega arith
small (LockReply h rcode function bytes) = omega arith

-- what the fields of a packet begin with
abbrev kind_text : Packet → List ℕ
kind_text p = code (codes ",\"tcode\":") (tcode p) (codes ",\"tcode_name\":") (Some (tcode_name p))

-- packets of two kinds differ in their tcode
other : (p q : Packet) → (tcode p ≡ tcode q → ⊥) → Differ (packet_fields p) (packet_fields q)
other p q apart =
    let d : Differ (kind_text p) (kind_text q) =
    codes_differ (codes "\"tcode\":") (codes "\"tcode_name\":") (tcode p) (tcode q) (Some (tcode_name p)) (Some (tcode_name q)) (small p) (small q) apart in
    left (data_fields p) (left (target_fields p) (left (head_fields (head_of p)) (right (data_fields q) (right (target_fields q) (right (head_fields (head_of q)) d)))))

-- the tcode of packets of one kind tells nothing
kind : (p : Packet) → Told (kind_text p) (kind_text p) (Unit {0})
kind p = known (codes "\"tcode\":") (tcode p) (codes ",\"tcode_name\":") (Some (tcode_name p))

pub packets : (p q : Packet) → Fits p → Fits q → Value (packet_fields p) (packet_fields q) (p ≡ q)
packets (WriteQuadlet h o v) (WriteQuadlet k u w) a b =
    (means (next (next (next (kind (WriteQuadlet h o v)) (heads h k a.0 b.0)) (places o u a.1 b.1))
    (quadlets v w a.2 b.2))
    (λ p. λ i. WriteQuadlet (p.0.0.1 i) (p.0.1 i) (p.1 i))).value
packets (WriteBlock h o xs) (WriteBlock k u ys) a b =
    (means (next (next (next (kind (WriteBlock h o xs)) (heads h k a.0 b.0)) (places o u a.1 b.1))
    (blocks xs ys a.2 b.2 a.3 b.3))
    (λ p. λ i. WriteBlock (p.0.0.1 i) (p.0.1 i) (p.1 i))).value
packets (WriteReply h c) (WriteReply k d) a b =
    (means (next (next (next (kind (WriteReply h c)) (heads h k a.0 b.0)) (rcodes c d a.1 b.1))
    nothing)
    (λ p. λ i. WriteReply (p.0.0.1 i) (p.0.1 i))).value
packets (ReadQuadlet h o) (ReadQuadlet k u) a b =
    (means (next (next (next (kind (ReadQuadlet h o)) (heads h k a.0 b.0)) (places o u a.1 b.1))
    nothing)
    (λ p. λ i. ReadQuadlet (p.0.0.1 i) (p.0.1 i))).value
packets (ReadBlock h o l) (ReadBlock k u m) a b =
    (means (next (next (next (kind (ReadBlock h o l)) (heads h k a.0 b.0)) (places o u a.1 b.1))
    (comma (codes "\"data_length\":") (number l m (omega (arith, a.2)) (omega (arith, b.2)))))
    (λ p. λ i. ReadBlock (p.0.0.1 i) (p.0.1 i) (p.1 i))).value
packets (ReadQuadletReply h c v) (ReadQuadletReply k d w) a b =
    (means (next (next (next (kind (ReadQuadletReply h c v)) (heads h k a.0 b.0)) (rcodes c d a.1 b.1))
    (quadlets v w a.2 b.2))
    (λ p. λ i. ReadQuadletReply (p.0.0.1 i) (p.0.1 i) (p.1 i))).value
packets (ReadBlockReply h c xs) (ReadBlockReply k d ys) a b =
    (means (next (next (next (kind (ReadBlockReply h c xs)) (heads h k a.0 b.0)) (rcodes c d a.1 b.1))
    (blocks xs ys a.2 b.2 a.3 b.3))
    (λ p. λ i. ReadBlockReply (p.0.0.1 i) (p.0.1 i) (p.1 i))).value
packets (CycleStart h o v) (CycleStart k u w) a b =
    (means (next (next (next (kind (CycleStart h o v)) (heads h k a.0 b.0)) (places o u a.1 b.1))
    (quadlets v w a.2 b.2))
    (λ p. λ i. CycleStart (p.0.0.1 i) (p.0.1 i) (p.1 i))).value
packets (Lock h o f xs) (Lock k u g ys) a b =
    (means (next (next (next (kind (Lock h o f xs)) (heads h k a.0 b.0)) (places o u a.1 b.1))
    (locks f g xs ys a.3 b.3 (omega (arith, lock_most f (length xs) a.4)) (omega (arith, lock_most g (length ys) b.4)) a.5 b.5))
    (λ p. λ i. Lock (p.0.0.1 i) (p.0.1 i) (p.1.0 i) (p.1.1 i))).value
packets (LockReply h c f xs) (LockReply k d g ys) a b =
    (means (next (next (next (kind (LockReply h c f xs)) (heads h k a.0 b.0)) (rcodes c d a.1 b.1))
    (locks f g xs ys a.3 b.3 (omega (arith, reply_most (length xs) a.4)) (omega (arith, reply_most (length ys) b.4)) a.5 b.5))
    (λ p. λ i. LockReply (p.0.0.1 i) (p.0.1 i) (p.1.0 i) (p.1.1 i))).value
packets p q a b = differ (other p q (λ e. omega (arith, e)))
