-- The fields that stand in the bytes of a packet; one list of bytes is the spelling of one packet.
use Rattle.fw_async.proofs.Common.{◌≡◌, ℕ, ◌+◌, ◌/◌, ◌%◌, ◌^◌, ◌<◌, List, [], ◌∷◌, ◌++◌, length, take, drop, replicate, arith, refl, ap, sym, ◌∙◌, ◌==◌, if◌then◌else◌, to_be_bytes, w32, field}
use Rattle.fw_async.proofs.Common.{quadlet_at, packed, HeadFits, Fits, spelling, head_fields, size, padding, padded, tcode_of, Head, Packet, WriteQuadlet, WriteBlock, WriteReply, ReadQuadlet}
use Rattle.fw_async.proofs.Common.{ReadQuadletReply, CycleStart, Lock, LockReply}
use Rattle.std.proofs.Common.{◌*◌}
use Rattle.std.proofs.Math.Seq.{take-append_seam}
use Rattle.fw_async.specs.declared.packet.Packet.TheVariants.{ReadBlock, ReadBlockReply}
use Rattle.fw_async.specs.Reader.{Spells}
use Rattle.fw_async.proofs.SpelledLaws.{back, first_fits, spelled_tcode, size_in, lock_few, reply_few}

-- the head that stands in quadlets 0 and 1
unfoldable pub head_with : ℕ → ℕ → ℕ → ℕ → ℕ → Head
head_with a b c d e = record { destination = a; tl = b; rt = c; pri = d; source = e }

head_of : (h : Head) → h ≡ head_with h.destination h.tl h.rt h.pri h.source
unfolding head_with
head_of h = refl

abbrev pub head_at : ℕ → ℕ → Head
head_at a b = head_with (field a 0 15) (field a 16 21) (field a 22 23) (field a 28 31) (field b 0 15)

abbrev pub offset_at : ℕ → ℕ → ℕ
offset_at b c = field b 16 31 * 2 ^ 32 + c

abbrev pub rcode_at : List ℕ → ℕ
rcode_at bytes = field (quadlet_at bytes 4) 16 19

abbrev pub length_at : List ℕ → ℕ
length_at bytes = field (quadlet_at bytes 12) 0 15

abbrev pub function_at : List ℕ → ℕ
function_at bytes = field (quadlet_at bytes 12) 16 31

abbrev pub data_at : List ℕ → List ℕ
data_at bytes = take (length_at bytes) (drop 16 bytes)

-- the packet of a tcode with these fields
unfoldable pub packet_by : ℕ → Head → ℕ → ℕ → ℕ → ℕ → ℕ → List ℕ → Packet
packet_by t h o r v len low bytes =
    if t == 0 then WriteQuadlet h o v
    else if t == 1 then WriteBlock h o bytes
    else if t == 2 then WriteReply h r
    else if t == 4 then ReadQuadlet h o
    else if t == 5 then ReadBlock h o len
    else if t == 6 then ReadQuadletReply h r v
    else if t == 7 then ReadBlockReply h r bytes
    else if t == 8 then CycleStart h o v
    else if t == 9 then Lock h o low bytes
    else LockReply h r low bytes

-- the packet that the bytes are, if they are one
abbrev pub packet_at : List ℕ → Packet
packet_at bytes =
    packet_by (tcode_of bytes) (head_at (quadlet_at bytes 0) (quadlet_at bytes 4)) (offset_at (quadlet_at bytes 4) (quadlet_at bytes 8))
    (rcode_at bytes) (quadlet_at bytes 12) (length_at bytes) (function_at bytes) (data_at bytes)

head_back : (t : ℕ) (h : Head) (a b : ℕ) → t < 16 → HeadFits h → a ≡ packed (head_fields t h) 0 → field b 0 15 ≡ h.source → head_at a b ≡ h
head_back t h a b small f e s =
    let one : field a 0 15 ≡ h.destination = omega (arith, f) in
    let two : field a 16 21 ≡ h.tl = omega (arith, f) in
    let three : field a 22 23 ≡ h.rt = omega (arith, f) in
    let four : field a 28 31 ≡ h.pri = omega (arith, f) in
    cc (head_of h)

-- quadlet 1 of a request and of a response
request_fields : (source offset : ℕ) (rest : List ℕ) → source < 2 ^ 16 → offset < 2 ^ 48
    → let q = quadlet_at (to_be_bytes w32 (packed ((16, source) ∷ (16, offset / 2 ^ 32) ∷ []) 0) ++ rest) 0 in (field q 0 15 ≡ source) × (field q 16 31 ≡ offset / 2 ^ 32)
request_fields source offset rest s o =
    let e = back (packed ((16, source) ∷ (16, offset / 2 ^ 32) ∷ []) 0) rest (omega arith) in
    let one : field (packed ((16, source) ∷ (16, offset / 2 ^ 32) ∷ []) 0) 0 15 ≡ source = omega arith in
    let two : field (packed ((16, source) ∷ (16, offset / 2 ^ 32) ∷ []) 0) 16 31 ≡ offset / 2 ^ 32 = omega arith in
    (ap (λ q. field q 0 15) e ∙ one, ap (λ q. field q 16 31) e ∙ two)

response_fields : (source rcode : ℕ) (rest : List ℕ) → source < 2 ^ 16 → rcode < 2 ^ 4
    → let q = quadlet_at (to_be_bytes w32 (packed ((16, source) ∷ (4, rcode) ∷ (12, 0) ∷ []) 0) ++ rest) 0 in (field q 0 15 ≡ source) × (field q 16 19 ≡ rcode)
response_fields source rcode rest s r =
    let e = back (packed ((16, source) ∷ (4, rcode) ∷ (12, 0) ∷ []) 0) rest (omega arith) in
    let one : field (packed ((16, source) ∷ (4, rcode) ∷ (12, 0) ∷ []) 0) 0 15 ≡ source = omega arith in
    let two : field (packed ((16, source) ∷ (4, rcode) ∷ (12, 0) ∷ []) 0) 16 19 ≡ rcode = omega arith in
    (ap (λ q. field q 0 15) e ∙ one, ap (λ q. field q 16 19) e ∙ two)

offset_back : (offset high low : ℕ) → high ≡ offset / 2 ^ 32 → low ≡ offset % 2 ^ 32 → high * 2 ^ 32 + low ≡ offset
offset_back offset high low e f = omega arith

bytes_back : (n : ℕ) (bytes zeros : List ℕ) → n ≡ length bytes → take n (bytes ++ zeros) ≡ bytes
bytes_back n bytes zeros e = rw e (take-append_seam bytes zeros)

-- what the first three quadlets of a spelled request have
record HasRequest (t : ℕ) (h : Head) (offset : ℕ) (bytes : List ℕ) : Type 0 where
  pub kind : tcode_of bytes ≡ t
  pub head : head_at (quadlet_at bytes 0) (quadlet_at bytes 4) ≡ h
  pub place : offset_at (quadlet_at bytes 4) (quadlet_at bytes 8) ≡ offset

request_of : (t : ℕ) (h : Head) (offset : ℕ) (rest : List ℕ) → t < 16 → HeadFits h → offset < 2 ^ 48
    → HasRequest t h offset (to_be_bytes w32 (packed (head_fields t h) 0) ++ (to_be_bytes w32 (packed ((16, h.source) ∷ (16, offset / 2 ^ 32) ∷ []) 0) ++ (to_be_bytes w32 (offset % 2 ^ 32) ++ rest)))
request_of t h offset rest small f o =
    let third = to_be_bytes w32 (offset % 2 ^ 32) ++ rest in
    let second = to_be_bytes w32 (packed ((16, h.source) ∷ (16, offset / 2 ^ 32) ∷ []) 0) ++ third in
    let q = request_fields h.source offset third f.4 o in
    record {
      kind = spelled_tcode t h second small f;
      head = head_back t h (quadlet_at (to_be_bytes w32 (packed (head_fields t h) 0) ++ second) 0) (quadlet_at second 0) small f
          (back (packed (head_fields t h) 0) second (first_fits t h small f)) q.0;
      place = offset_back offset (field (quadlet_at second 0) 16 31) (quadlet_at third 0) q.1 (back (offset % 2 ^ 32) rest (omega arith));
    }

-- what those of a spelled response have
record HasResponse (t : ℕ) (h : Head) (rcode : ℕ) (bytes : List ℕ) : Type 0 where
  pub kind : tcode_of bytes ≡ t
  pub head : head_at (quadlet_at bytes 0) (quadlet_at bytes 4) ≡ h
  pub code : field (quadlet_at bytes 4) 16 19 ≡ rcode

response_of : (t : ℕ) (h : Head) (rcode : ℕ) (rest : List ℕ) → t < 16 → HeadFits h → rcode < 2 ^ 4
    → HasResponse t h rcode (to_be_bytes w32 (packed (head_fields t h) 0) ++ (to_be_bytes w32 (packed ((16, h.source) ∷ (4, rcode) ∷ (12, 0) ∷ []) 0) ++ rest))
response_of t h rcode rest small f r =
    let second = to_be_bytes w32 (packed ((16, h.source) ∷ (4, rcode) ∷ (12, 0) ∷ []) 0) ++ rest in
    let q = response_fields h.source rcode rest f.4 r in
    record {
      kind = spelled_tcode t h second small f;
      head = head_back t h (quadlet_at (to_be_bytes w32 (packed (head_fields t h) 0) ++ second) 0) (quadlet_at second 0) small f
          (back (packed (head_fields t h) 0) second (first_fits t h small f)) q.0;
      code = q.1;
    }

-- what quadlet 3 and the data after it have
record HasData (len low : ℕ) (bytes more : List ℕ) : Type 0 where
  pub count : field (quadlet_at more 0) 0 15 ≡ len
  pub function : field (quadlet_at more 0) 16 31 ≡ low
  pub same : len ≡ length bytes → take (field (quadlet_at more 0) 0 15) (drop 4 more) ≡ bytes

data_of : (len low : ℕ) (bytes zeros : List ℕ) → len < 2 ^ 16 → low < 2 ^ 16 → HasData len low bytes (to_be_bytes w32 (size len low) ++ (bytes ++ zeros))
data_of len low bytes zeros few small =
    let s = size_in len low (bytes ++ zeros) few small in
    record {
      count = s.count;
      function = s.function;
      same = λ e. bytes_back (field (quadlet_at (to_be_bytes w32 (size len low) ++ (bytes ++ zeros)) 0) 0 15) bytes zeros (s.count ∙ e);
    }

-- the packet of bytes whose fields are these
fields_of : (bytes : List ℕ) (t : ℕ) (h : Head) (o r v len low : ℕ) (d : List ℕ) → tcode_of bytes ≡ t → head_at (quadlet_at bytes 0) (quadlet_at bytes 4) ≡ h
    → offset_at (quadlet_at bytes 4) (quadlet_at bytes 8) ≡ o → rcode_at bytes ≡ r → quadlet_at bytes 12 ≡ v → length_at bytes ≡ len → function_at bytes ≡ low → data_at bytes ≡ d
    → packet_at bytes ≡ packet_by t h o r v len low d
fields_of bytes t h o r v len low d a b c e f g i j = same _ t _ h _ o _ r _ v _ len _ low _ d a b c e f g i j
  where
    same : (t t2 : ℕ) (h h2 : Head) (o o2 r r2 v v2 len len2 low low2 : ℕ) (d d2 : List ℕ) → t ≡ t2 → h ≡ h2 → o ≡ o2 → r ≡ r2 → v ≡ v2 → len ≡ len2 → low ≡ low2 → d ≡ d2
        → packet_by t h o r v len low d ≡ packet_by t2 h2 o2 r2 v2 len2 low2 d2
    same t t2 h h2 o o2 r r2 v v2 len len2 low low2 d d2 a b c e f g i j = cc

-- The bytes of a packet give it back.
spelled_back : (p : Packet) → Fits p → packet_at (spelling p) ≡ p
unfolding packet_by
spelled_back (WriteQuadlet h o v) fits =
    let all = spelling (WriteQuadlet h o v) in
    let s = request_of 0 h o (to_be_bytes w32 v ++ []) (omega arith) fits.0 fits.1 in
    fields_of all 0 h o (rcode_at all) v (length_at all) (function_at all) (data_at all) s.kind s.head s.place refl (back v [] fits.2) refl refl refl
spelled_back (WriteBlock h o bytes) fits =
    let all = spelling (WriteBlock h o bytes) in
    let s = request_of 1 h o (to_be_bytes w32 (size (length bytes) 0) ++ padded bytes) (omega arith) fits.0 fits.1 in
    let d = data_of (length bytes) 0 bytes (replicate (padding (length bytes)) 0) (omega (arith, fits.2)) (omega arith) in
    fields_of all 1 h o (rcode_at all) (quadlet_at all 12) (length bytes) 0 bytes s.kind s.head s.place refl refl d.count d.function (d.same refl)
spelled_back (WriteReply h r) fits =
    let all = spelling (WriteReply h r) in
    let s = response_of 2 h r (to_be_bytes w32 0 ++ []) (omega arith) fits.0 fits.1 in
    fields_of all 2 h (offset_at (quadlet_at all 4) (quadlet_at all 8)) r (quadlet_at all 12) (length_at all) (function_at all) (data_at all) s.kind s.head refl s.code refl refl refl refl
spelled_back (ReadQuadlet h o) fits =
    let all = spelling (ReadQuadlet h o) in
    let s = request_of 4 h o [] (omega arith) fits.0 fits.1 in
    fields_of all 4 h o (rcode_at all) (quadlet_at all 12) (length_at all) (function_at all) (data_at all) s.kind s.head s.place refl refl refl refl refl
spelled_back (ReadBlock h o len) fits =
    let all = spelling (ReadBlock h o len) in
    let s = request_of 5 h o (to_be_bytes w32 (size len 0) ++ []) (omega arith) fits.0 fits.1 in
    let d = data_of len 0 [] [] (omega (arith, fits.2)) (omega arith) in
    fields_of all 5 h o (rcode_at all) (quadlet_at all 12) len 0 (data_at all) s.kind s.head s.place refl refl d.count d.function refl
spelled_back (ReadQuadletReply h r v) fits =
    let all = spelling (ReadQuadletReply h r v) in
    let s = response_of 6 h r (to_be_bytes w32 0 ++ (to_be_bytes w32 v ++ [])) (omega arith) fits.0 fits.1 in
    fields_of all 6 h (offset_at (quadlet_at all 4) (quadlet_at all 8)) r v (length_at all) (function_at all) (data_at all) s.kind s.head refl s.code (back v [] fits.2) refl refl refl
spelled_back (ReadBlockReply h r bytes) fits =
    let all = spelling (ReadBlockReply h r bytes) in
    let s = response_of 7 h r (to_be_bytes w32 0 ++ (to_be_bytes w32 (size (length bytes) 0) ++ padded bytes)) (omega arith) fits.0 fits.1 in
    let d = data_of (length bytes) 0 bytes (replicate (padding (length bytes)) 0) (omega (arith, fits.2)) (omega arith) in
    fields_of all 7 h (offset_at (quadlet_at all 4) (quadlet_at all 8)) r (quadlet_at all 12) (length bytes) 0 bytes s.kind s.head refl s.code refl d.count d.function (d.same refl)
spelled_back (CycleStart h o v) fits =
    let all = spelling (CycleStart h o v) in
    let s = request_of 8 h o (to_be_bytes w32 v ++ []) (omega arith) fits.0 fits.1 in
    fields_of all 8 h o (rcode_at all) v (length_at all) (function_at all) (data_at all) s.kind s.head s.place refl (back v [] fits.2) refl refl refl
spelled_back (Lock h o f bytes) fits =
    let all = spelling (Lock h o f bytes) in
    let s = request_of 9 h o (to_be_bytes w32 (size (length bytes) f) ++ padded bytes) (omega arith) fits.0 fits.1 in
    let d = data_of (length bytes) f bytes (replicate (padding (length bytes)) 0) (lock_few f (length bytes) fits.4) (omega (arith, fits.3)) in
    fields_of all 9 h o (rcode_at all) (quadlet_at all 12) (length bytes) f bytes s.kind s.head s.place refl refl d.count d.function (d.same refl)
spelled_back (LockReply h r f bytes) fits =
    let all = spelling (LockReply h r f bytes) in
    let s = response_of 11 h r (to_be_bytes w32 0 ++ (to_be_bytes w32 (size (length bytes) f) ++ padded bytes)) (omega arith) fits.0 fits.1 in
    let d = data_of (length bytes) f bytes (replicate (padding (length bytes)) 0) (reply_few (length bytes) fits.4) (omega (arith, fits.3)) in
    fields_of all 11 h (offset_at (quadlet_at all 4) (quadlet_at all 8)) r (quadlet_at all 12) (length bytes) f bytes s.kind s.head refl s.code refl d.count d.function (d.same refl)

pub same_packet : (p q : Packet) → Fits p → Fits q → spelling p ≡ spelling q → p ≡ q
same_packet p q f g e = sym (spelled_back p f) ∙ ap packet_at e ∙ spelled_back q g

-- the packet that bytes are has the fields that stand in them
pub packet_is : (p : Packet) (bytes : List ℕ) → Spells p bytes → packet_at bytes ≡ p
packet_is p bytes s = ap packet_at (sym s.same) ∙ spelled_back p s.fits
