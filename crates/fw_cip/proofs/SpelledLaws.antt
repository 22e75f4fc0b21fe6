-- A spelling shows no fault.
use Rattle.std.proofs.Common.{◌≡◌, ℕ, ◌+◌, ◌^◌, ◌≤◌, ◌<◌, List, ◌++◌, true, false, nat_lt, Option, Some, None, length, IfSome, arith, refl}
use Rattle.std.proofs.lemmas.Bool.Decides.{nat_tests}
use Rattle.std.proofs.lemmas.Nat.{from_be_bytes-to_be_bytes_4}
use Rattle.fw_words.specs.Quadlet.{field, first_set, quadlet_at}
use Rattle.fw_words.specs.Layout.{packed, FitWidths}
use Rattle.fw_cip.specs.declared.packet.CipHeader.{CipHeader}
use Rattle.fw_cip.specs.declared.packet.IsoPacket.{IsoPacket}
use Rattle.fw_cip.proofs.ReadLaws.{reserved_none}
use Rattle.fw_cip.specs.Iso.{three, spelling, block_bytes, data_length, header_layout, first_layout, second_layout, Fits, IsBlock, is_cip, is_size, iso_fault}

-- the quadlets at the beginning of bytes
pub record Heads (bytes : List ℕ) (a b c : ℕ) : Type 0 where
  pub first : quadlet_at bytes 0 ≡ a
  pub second : quadlet_at bytes 4 ≡ b
  pub third : quadlet_at bytes 8 ≡ c

pub heads : (a b c : ℕ) (rest : List ℕ) → a < 2 ^ 32 → b < 2 ^ 32 → c < 2 ^ 32 → Heads (three a b c ++ rest) a b c
unfolding three
heads a b c rest x y z = record { first = from_be_bytes-to_be_bytes_4 a x; second = from_be_bytes-to_be_bytes_4 b y; third = from_be_bytes-to_be_bytes_4 c z }

pub size_of : (a b c : ℕ) (rest : List ℕ) → length (three a b c ++ rest) ≡ 12 + length rest
unfolding three
size_of a b c rest = omega arith

pub spelled_size : (p : IsoPacket) → length (spelling p) ≡ 12 + length (block_bytes p.block)
spelled_size p = size_of (packed (header_layout p) 0) (packed (first_layout p.cip) 0) (packed (second_layout p.cip) 0) (block_bytes p.block)

-- each quadlet fits, and has what stands in it
pub header_below : (p : IsoPacket) → FitWidths (header_layout p) → packed (header_layout p) 0 < 2 ^ 32
header_below p f = omega (arith, f)

pub first_below : (c : CipHeader) → FitWidths (first_layout c) → packed (first_layout c) 0 < 2 ^ 32
first_below c f = omega (arith, f)

pub second_below : (c : CipHeader) → FitWidths (second_layout c) → packed (second_layout c) 0 < 2 ^ 32
second_below c f = omega (arith, f)

record Header (header size : ℕ) : Type 0 where
  size_is : field header 0 15 ≡ size
  tag : field header 16 17 ≡ 1
  tcode : field header 24 27 ≡ 10

header_has : (p : IsoPacket) → FitWidths (header_layout p) → Header (packed (header_layout p) 0) (data_length p.block)
header_has p f = record { size_is = omega (arith, f); tag = omega (arith, f); tcode = omega (arith, f) }

first_zeros : (c : CipHeader) → FitWidths (first_layout c) → field (packed (first_layout c) 0) 0 1 ≡ 0
first_zeros c f = omega (arith, f)

first_clear : (c : CipHeader) → FitWidths (first_layout c) → first_set (packed (first_layout c) 0) 22 2 ≡ None
first_clear c f = reserved_none (packed (first_layout c) 0) (omega (arith, f)) (omega (arith, f))

second_begins : (c : CipHeader) → FitWidths (second_layout c) → field (packed (second_layout c) 0) 0 1 ≡ 2
second_begins c f = omega (arith, f)

known : (header first second size : ℕ) → Header header size → field first 0 1 ≡ 0 → field second 0 1 ≡ 2 → is_cip header first second ≡ true
known header first second size h f s = grind (arith, nat_tests, h.tag, h.tcode)

sized : (block : Option (List ℕ)) → IfSome block IsBlock → is_size (data_length block) (12 + length (block_bytes block)) ≡ true
sized None f = refl
sized (Some block) f = rw f.size refl

no_fault : (bytes : List ℕ) (header first second size : ℕ) → 12 ≤ length bytes → Heads bytes header first second → is_cip header first second ≡ true → first_set first 22 2 ≡ None
    → field header 0 15 ≡ size → is_size size (length bytes) ≡ true → iso_fault bytes ≡ None
no_fault bytes header first second size enough h cip clear s fits =
    let long : nat_lt (length bytes) 12 ≡ false = grind (arith, nat_tests) in
    rw (h.first, h.second, h.third, long, cip, clear, s, fits) refl

pub spelled_none : (p : IsoPacket) → Fits p → iso_fault (spelling p) ≡ None
spelled_none p f =
    let a = packed (header_layout p) 0 in
    let b = packed (first_layout p.cip) 0 in
    let c = packed (second_layout p.cip) 0 in
    let h = header_has p f.header in
    let n = size_of a b c (block_bytes p.block) in
    no_fault (spelling p) a b c (data_length p.block) (omega (arith, n)) (heads a b c (block_bytes p.block) (header_below p f.header) (first_below p.cip f.first) (second_below p.cip f.second))
    (known a b c (data_length p.block) h (first_zeros p.cip f.first) (second_begins p.cip f.second)) (first_clear p.cip f.first) h.size_is (rw n (sized p.block f.block))
