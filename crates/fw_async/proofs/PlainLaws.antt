-- Bytes that are a packet at the first look.
use Rattle.fw_async.proofs.Common.{◌≡◌, ℕ, ◌+◌, ◌-◌, ◌%◌, ◌^◌, ◌≤◌, ◌<◌, List, [], ◌∷◌, ◌++◌, ◌==◌, ◌||◌, length, drop, replicate, Bool, true, false, arith, refl, ap, sym, ◌∙◌, to_be_bytes, w32}
use Rattle.fw_async.proofs.Common.{field, quadlet_at, packed, AreBytes, HeadFits, head_fields, size, padding, padded, tcode_of, Spells, Head, Packet, WriteQuadlet, WriteBlock, WriteReply, ReadQuadlet}
use Rattle.fw_async.proofs.Common.{ReadQuadletReply, CycleStart, Lock, LockReply}
use Rattle.std.proofs.Common.{◌*◌, ◌&&◌, nat_le, flat_map}
use Rattle.std.proofs.Common.{length-drop}
use Rattle.std.proofs.lemmas.List.{append-nil, drop_all, get_or-drop}
use Rattle.fw_async.specs.Async.{request, response}
use Rattle.fw_async.specs.Reader.{IsPacket}
use Rattle.fw_async.proofs.KindLaws.{request_at, response_at}
use Rattle.fw_async.proofs.WholeLaws.{peel}
use Rattle.fw_async_fields.proofs.SoundLaws.{below}
use Rattle.fw_async.specs.Plain.{has_zeros, is_whole_block, is_plain_packet}
use Rattle.fw_async.proofs.TestLaws.{equal, at_most, both, either}

abbrev quads : List ℕ → List ℕ
quads qs = flat_map (to_be_bytes w32) qs

bytes_drop : (bytes : List ℕ) (k : ℕ) → AreBytes bytes → AreBytes (drop k bytes)
bytes_drop bytes k fit i = rw (get_or-drop k bytes i 0) (fit (k + i))

-- the fields of quadlets 0 to 2
abbrev head_at : List ℕ → Head
head_at bytes = record {
  destination = field (quadlet_at bytes 0) 0 15;
  tl = field (quadlet_at bytes 0) 16 21;
  rt = field (quadlet_at bytes 0) 22 23;
  pri = field (quadlet_at bytes 0) 28 31;
  source = field (quadlet_at bytes 4) 0 15;
}

abbrev offset_at : List ℕ → ℕ
offset_at bytes = field (quadlet_at bytes 4) 16 31 * 2 ^ 32 + quadlet_at bytes 8

abbrev rcode_at : List ℕ → ℕ
rcode_at bytes = field (quadlet_at bytes 4) 16 19

-- quadlets 0 to 2, and others after them
abbrev from_2 : List ℕ → List ℕ → List ℕ
from_2 bytes more = quadlet_at bytes 0 ∷ quadlet_at bytes 4 ∷ quadlet_at bytes 8 ∷ more

abbrev four : List ℕ → List ℕ
four bytes = from_2 bytes (quadlet_at bytes 12 ∷ [])

head_fits : (bytes : List ℕ) → HeadFits (head_at bytes)
head_fits bytes = (omega arith, omega arith, omega arith, omega arith, omega arith)

offset_fits : (bytes : List ℕ) → AreBytes bytes → offset_at bytes < 2 ^ 48
offset_fits bytes fit = omega (arith, below bytes 8 fit)

first_of : (q t : ℕ) → q < 2 ^ 32 → field q 24 27 ≡ t
    → packed ((16, field q 0 15) ∷ (6, field q 16 21) ∷ (2, field q 22 23) ∷ (4, t) ∷ (4, field q 28 31) ∷ []) 0 ≡ q
first_of q t small e = omega arith

first_at : (bytes : List ℕ) → AreBytes bytes → packed (head_fields (tcode_of bytes) (head_at bytes)) 0 ≡ quadlet_at bytes 0
first_at bytes fit = first_of (quadlet_at bytes 0) (tcode_of bytes) (below bytes 0 fit) refl

request_quads : (t : ℕ) (bytes more : List ℕ) → AreBytes bytes → tcode_of bytes ≡ t
    → (request t (head_at bytes) (offset_at bytes) more []).quadlets ≡ from_2 bytes more
request_quads t bytes more fit kind =
    let small = below bytes 8 fit in
    request_at t bytes (head_at bytes) (offset_at bytes) more fit kind (first_at bytes fit) refl (omega (arith, small)) (omega (arith, small))

zeros_of : (bytes : List ℕ) → has_zeros bytes ≡ true → (quadlet_at bytes 4 % 4096 ≡ 0) × (quadlet_at bytes 8 ≡ 0)
zeros_of bytes h =
    let b = both (field (quadlet_at bytes 4) 20 31 == 0) (quadlet_at bytes 8 == 0) h in
    let low : field (quadlet_at bytes 4) 20 31 ≡ 0 = equal _ _ b.first in
    (omega arith, equal _ _ b.second)

response_quads : (t : ℕ) (bytes more : List ℕ) → AreBytes bytes → tcode_of bytes ≡ t → has_zeros bytes ≡ true
    → (response t (head_at bytes) (rcode_at bytes) more []).quadlets ≡ from_2 bytes more
response_quads t bytes more fit kind zeros =
    response_at t bytes (head_at bytes) (rcode_at bytes) more fit kind (first_at bytes fit) refl refl (zeros_of bytes zeros)

-- the bytes are their quadlets
prefix_3 : (bytes : List ℕ) → AreBytes bytes → 12 ≤ length bytes → quads (from_2 bytes []) ++ drop 12 bytes ≡ bytes
prefix_3 bytes fit enough =
    let a : List ℕ = to_be_bytes w32 (quadlet_at bytes 0) in
    let b : List ℕ = to_be_bytes w32 (quadlet_at bytes 4) in
    let second : drop 4 bytes ≡ b ++ (to_be_bytes w32 (quadlet_at bytes 8) ++ drop 12 bytes) =
    peel bytes 4 fit (omega arith) ∙ ap (λ t. b ++ t) (peel bytes 8 fit enough) in
    sym (peel bytes 0 fit (omega arith) ∙ ap (λ t. a ++ t) second)

prefix_4 : (bytes : List ℕ) → AreBytes bytes → 16 ≤ length bytes → quads (four bytes) ++ drop 16 bytes ≡ bytes
prefix_4 bytes fit enough =
    ap (λ t. quads (from_2 bytes []) ++ t) (sym (peel bytes 12 fit enough)) ∙ prefix_3 bytes fit (omega arith)

-- what has no data, in three quadlets and in four
spells_3 : (bytes : List ℕ) (qs : List ℕ) → AreBytes bytes → length bytes ≡ 12 → qs ≡ from_2 bytes [] → quads qs ++ padded [] ≡ bytes
spells_3 bytes qs fit count e =
    let rest : drop 12 bytes ≡ [] = drop_all 12 bytes (omega arith) in
    ap (λ x. quads x ++ []) e ∙ ap (λ t. quads (from_2 bytes []) ++ t) (sym rest) ∙ prefix_3 bytes fit (omega arith)

spells_4 : (bytes : List ℕ) (qs : List ℕ) → AreBytes bytes → length bytes ≡ 16 → qs ≡ four bytes → quads qs ++ padded [] ≡ bytes
spells_4 bytes qs fit count e =
    let rest : drop 16 bytes ≡ [] = drop_all 16 bytes (omega arith) in
    ap (λ x. quads x ++ []) e ∙ ap (λ t. quads (four bytes) ++ t) (sym rest) ∙ prefix_4 bytes fit (omega arith)

-- data of whole quadlets has no padding
spells_data : (bytes : List ℕ) (qs : List ℕ) → AreBytes bytes → 16 ≤ length bytes → padding (length (drop 16 bytes)) ≡ 0 → qs ≡ four bytes
    → quads qs ++ padded (drop 16 bytes) ≡ bytes
spells_data bytes qs fit enough none e =
    let unpadded : padded (drop 16 bytes) ≡ drop 16 bytes = ap (λ n. drop 16 bytes ++ replicate n 0) none ∙ append-nil (drop 16 bytes) in
    ap (λ x. quads x ++ padded (drop 16 bytes)) e ∙ ap (λ t. quads (four bytes) ++ t) unpadded ∙ prefix_4 bytes fit enough

-- quadlet 3
fourth : (bytes qs : List ℕ) (n : ℕ) → n ≡ quadlet_at bytes 12 → qs ≡ from_2 bytes (n ∷ []) → qs ≡ four bytes
fourth bytes qs n e h = h ∙ ap (λ m. from_2 bytes (m ∷ [])) e

packet : (bytes : List ℕ) (p : Packet) → Spells p bytes → IsPacket bytes
packet bytes p h = record { packet = p; spells = h }

read_quadlet : (bytes : List ℕ) → AreBytes bytes → tcode_of bytes ≡ 4 → length bytes ≡ 12 → IsPacket bytes
read_quadlet bytes fit kind count =
    packet bytes (ReadQuadlet (head_at bytes) (offset_at bytes)) (record {
      fits = (head_fits bytes, offset_fits bytes fit);
      same = spells_3 bytes _ fit count (request_quads 4 bytes [] fit kind);
    })

read_reply : (bytes : List ℕ) → AreBytes bytes → tcode_of bytes ≡ 6 → length bytes ≡ 16 → has_zeros bytes ≡ true → IsPacket bytes
read_reply bytes fit kind count zeros =
    packet bytes (ReadQuadletReply (head_at bytes) (rcode_at bytes) (quadlet_at bytes 12)) (record {
      fits = (head_fits bytes, omega arith, below bytes 12 fit);
      same = spells_4 bytes _ fit count (response_quads 6 bytes (quadlet_at bytes 12 ∷ []) fit kind zeros);
    })

write_quadlet : (bytes : List ℕ) → AreBytes bytes → tcode_of bytes ≡ 0 → length bytes ≡ 16 → IsPacket bytes
write_quadlet bytes fit kind count =
    packet bytes (WriteQuadlet (head_at bytes) (offset_at bytes) (quadlet_at bytes 12)) (record {
      fits = (head_fits bytes, offset_fits bytes fit, below bytes 12 fit);
      same = spells_4 bytes _ fit count (request_quads 0 bytes (quadlet_at bytes 12 ∷ []) fit kind);
    })

cycle_start : (bytes : List ℕ) → AreBytes bytes → tcode_of bytes ≡ 8 → length bytes ≡ 16 → IsPacket bytes
cycle_start bytes fit kind count =
    packet bytes (CycleStart (head_at bytes) (offset_at bytes) (quadlet_at bytes 12)) (record {
      fits = (head_fits bytes, offset_fits bytes fit, below bytes 12 fit);
      same = spells_4 bytes _ fit count (request_quads 8 bytes (quadlet_at bytes 12 ∷ []) fit kind);
    })

write_reply : (bytes : List ℕ) → AreBytes bytes → tcode_of bytes ≡ 2 → length bytes ≡ 12 → has_zeros bytes ≡ true → IsPacket bytes
write_reply bytes fit kind count zeros =
    packet bytes (WriteReply (head_at bytes) (rcode_at bytes)) (record {
      fits = (head_fits bytes, omega arith);
      same = spells_3 bytes _ fit count (response_quads 2 bytes [] fit kind zeros);
    })

compare_swap : (bytes : List ℕ) → AreBytes bytes → tcode_of bytes ≡ 9 → length bytes ≡ 24 → quadlet_at bytes 12 ≡ 524290 → IsPacket bytes
compare_swap bytes fit kind count is =
    let eight : length (drop 16 bytes) ≡ 8 = omega (arith, length-drop 16 bytes) in
    let sized : ℕ = size (length (drop 16 bytes)) 2 in
    packet bytes (Lock (head_at bytes) (offset_at bytes) 2 (drop 16 bytes)) (record {
      fits = (head_fits bytes, offset_fits bytes fit, omega arith, omega arith, rw eight refl, bytes_drop bytes 16 fit);
      same = spells_data bytes _ fit (omega arith) (rw eight refl)
          (fourth bytes _ sized (ap (λ n. size n 2) eight ∙ sym is) (request_quads 9 bytes (sized ∷ []) fit kind));
    })

swapped : (bytes : List ℕ) → AreBytes bytes → tcode_of bytes ≡ 11 → length bytes ≡ 20 → quadlet_at bytes 12 ≡ 262146 → has_zeros bytes ≡ true → IsPacket bytes
swapped bytes fit kind count is zeros =
    let four : length (drop 16 bytes) ≡ 4 = omega (arith, length-drop 16 bytes) in
    let sized : ℕ = size (length (drop 16 bytes)) 2 in
    packet bytes (LockReply (head_at bytes) (rcode_at bytes) 2 (drop 16 bytes)) (record {
      fits = (head_fits bytes, omega arith, omega arith, omega arith, rw four refl, bytes_drop bytes 16 fit);
      same = spells_data bytes _ fit (omega arith) (rw four refl)
          (fourth bytes _ sized (ap (λ n. size n 2) four ∙ sym is) (response_quads 11 bytes (sized ∷ []) fit kind zeros));
    })

no_padding : (n m : ℕ) → m ≡ 4 * n → padding (m - 16) ≡ 0
no_padding n m e = omega arith

write_block : (bytes : List ℕ) (n : ℕ) → AreBytes bytes → length bytes ≡ 4 * n → tcode_of bytes ≡ 1 → is_whole_block bytes ≡ true → IsPacket bytes
write_block bytes n fit whole kind h =
    let a = both (nat_le 16 (length bytes) && nat_le (length bytes) 528) (quadlet_at bytes 12 == 65536 * (length bytes - 16)) h in
    let b = both (nat_le 16 (length bytes)) (nat_le (length bytes) 528) a.first in
    let enough : 16 ≤ length bytes = at_most 16 (length bytes) b.first in
    let few : length bytes ≤ 528 = at_most (length bytes) 528 b.second in
    let is : quadlet_at bytes 12 ≡ 65536 * (length bytes - 16) = equal _ _ a.second in
    let rest : length (drop 16 bytes) ≡ length bytes - 16 = length-drop 16 bytes in
    let sized : ℕ = size (length (drop 16 bytes)) 0 in
    packet bytes (WriteBlock (head_at bytes) (offset_at bytes) (drop 16 bytes)) (record {
      fits = (head_fits bytes, offset_fits bytes fit, omega arith, bytes_drop bytes 16 fit);
      same = spells_data bytes _ fit enough (ap padding rest ∙ no_padding n (length bytes) whole)
          (fourth bytes _ sized (omega arith) (request_quads 1 bytes (sized ∷ []) fit kind));
    })

-- bytes that are plain are a packet
pub plain_packet : (bytes : List ℕ) (n : ℕ) → AreBytes bytes → length bytes ≡ 4 * n → is_plain_packet bytes ≡ true → IsPacket bytes
plain_packet bytes n fit whole h =
    let t = tcode_of bytes in
    let zeros = has_zeros bytes in
    let counts = λ (k : ℕ). length bytes == k in
    let has = λ (q : ℕ). quadlet_at bytes 12 == q in
    either (t == 4) _ _ h (λ e s. read_quadlet bytes fit (equal _ _ e) (equal _ _ s)) (λ o h.
    either (t == 6) _ _ h (λ e s. let b = both (counts 16) zeros s in read_reply bytes fit (equal _ _ e) (equal _ _ b.first) b.second) (λ o h.
    either (t == 9) _ _ h (λ e s.
    let b = both (counts 24) (has 524290) s in
    compare_swap bytes fit (equal _ _ e) (equal _ _ b.first) (equal _ _ b.second)) (λ o h.
    either (t == 11) _ _ h (λ e s.
    let b = both (counts 20 && has 262146) zeros s in
    let d = both (counts 20) (has 262146) b.first in
    swapped bytes fit (equal _ _ e) (equal _ _ d.first) (equal _ _ d.second) b.second) (λ o h.
    either ((t == 0) || (t == 8)) _ _ h (λ e s. four_quadlets (equal _ _ s) (t == 0) refl e) (λ o h.
    either (t == 1) _ _ h (λ e s. write_block bytes n fit whole (equal _ _ e) s) (λ o h.
    either (t == 2) _ _ h (λ e s. let b = both (counts 12) zeros s in write_reply bytes fit (equal _ _ e) (equal _ _ b.first) b.second) (λ o h. cc h)))))))
  where
    four_quadlets : length bytes ≡ 16 → (b : Bool) → (tcode_of bytes == 0) ≡ b → (b || (tcode_of bytes == 8)) ≡ true → IsPacket bytes
    four_quadlets s true e h = write_quadlet bytes fit (equal _ _ e) s
    four_quadlets s false e h = cycle_start bytes fit (equal _ _ h) s
