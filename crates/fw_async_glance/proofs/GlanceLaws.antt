-- The packet that its bytes are, by what was read from them.
use Rattle.std.proofs.Common.{◌≡◌, refl, ap, sym, subst, ◌∙◌, ℕ, ◌/◌, ◌%◌, ◌^◌, ◌<◌, ◌≤◌, List, [], ◌∷◌, length, take, drop, Some, arith, IsTrue}
use Rattle.std.proofs.lemmas.List.{length-take-le, length-drop}
use Rattle.std.proofs.lemmas.Nat.{from_be_bytes-to_be_bytes_4}
use Rattle.std.specs.Int.{to_be_bytes, w32}
use Rattle.fw_words.specs.Quadlet.{field, quadlet_at}
use Rattle.fw_words.specs.Layout.{packed}
use Rattle.fw_words.specs.Swaps.{quadlet_swap, swap_bytes}
use Rattle.fw_words.specs.declared.swap.Swap.{Swap as SwapWords}
use Rattle.fw_words.specs.declared.swap.TheConstants.{COMPARE_SWAP}
use Rattle.fw_async.specs.Async.{HeadFits, head_fields, size}
use Rattle.fw_async_fields.specs.Data.{AreBytes, is_reply_size}
use Rattle.fw_async.specs.Reader.{Spells}
use Rattle.fw_async_fields.specs.Reading.{tcode_of}
use Rattle.fw_async.specs.declared.packet.Head.{Head}
use Rattle.fw_async.specs.declared.packet.Packet.{Packet}
use Rattle.fw_async.specs.declared.packet.Packet.TheVariants.{WriteQuadlet, WriteBlock, WriteReply, ReadQuadlet, ReadQuadletReply, CycleStart, Lock as LockRequest, LockReply}
use Rattle.fw_async.proofs.KindLaws.{request_at, response_at, size_at, all_there}
use Rattle.fw_async.proofs.QuadletLaws.{complete_of, read_back, swap_end, swap_data, swap_fits}
use Rattle.fw_async_fields.proofs.ReadingLaws.{are_bytes_part}
use Rattle.fw_async_fields.proofs.SoundLaws.{below, need_fourth}
use Rattle.fw_async_fields.specs.Tcode.{has_quadlet_3, has_data}

-- what was read of the first two quadlets of a packet with this transaction code
pub record HasHead (t : ℕ) (bytes : List ℕ) (h : Head) : Type 0 where
  pub kind : tcode_of bytes ≡ t
  pub fits : HeadFits h
  pub first : packed (head_fields (tcode_of bytes) h) 0 ≡ quadlet_at bytes 0
  pub source : h.source ≡ field (quadlet_at bytes 4) 0 15

-- the offset that was read of a request
pub record HasOffset (bytes : List ℕ) (o : ℕ) : Type 0 where
  pub small : o < 2 ^ 48
  pub high : o / 2 ^ 32 ≡ field (quadlet_at bytes 4) 16 31
  pub low : o % 2 ^ 32 ≡ quadlet_at bytes 8

-- a packet of a kind that has a fourth quadlet has it (IEEE 1394-1995, clause 6.2)
pub value_end : (t : ℕ) (p : Packet) (bytes : List ℕ) → AreBytes bytes → Spells p bytes → tcode_of bytes ≡ t → IsTrue (has_quadlet_3 t) → 16 ≤ length bytes
value_end t p bytes fit s kind has = need_fourth (length bytes) _ (has_quadlet_3 t) (has_data t) (complete_of t p bytes fit s kind).all has

pub lock_end : (p : Packet) (bytes : List ℕ) → AreBytes bytes → Spells p bytes → tcode_of bytes ≡ 9 → quadlet_at bytes 12 ≡ 524290 → 24 ≤ length bytes
lock_end p bytes fit s kind e = swap_end bytes (complete_of 9 p bytes fit s kind) e

pub read_is : (p : Packet) (bytes : List ℕ) (h : Head) (o : ℕ) → AreBytes bytes → Spells p bytes → HasHead 4 bytes h → HasOffset bytes o → p ≡ ReadQuadlet h o
read_is p bytes h o fit s x y =
    read_back 4 p (ReadQuadlet h o) bytes fit s x.kind
    (record { fits = (x.fits, y.small); quadlets = request_at 4 bytes h o [] fit x.kind x.first x.source y.high y.low; rest = refl })

pub swap_is : (p : Packet) (bytes : List ℕ) (h : Head) (o : ℕ) (w : SwapWords) → AreBytes bytes → Spells p bytes → HasHead 9 bytes h → HasOffset bytes o → quadlet_at bytes 12 ≡ 524290
    → to_be_bytes w32 w.argument ≡ take 4 (drop 16 bytes) → to_be_bytes w32 w.new ≡ take 4 (drop 20 bytes) → p ≡ LockRequest h o 2 (swap_bytes w)
swap_is p bytes h o w fit s x y size_is first second =
    let complete = complete_of 9 p bytes fit s x.kind in
    let same : swap_bytes w ≡ take 8 (drop 16 bytes) = swap_data bytes (to_be_bytes w32 w.argument) (to_be_bytes w32 w.new) first second in
    let fits = swap_fits bytes (swap_bytes w) fit same (swap_end bytes complete size_is) in
    let eight : 8 ≡ field (quadlet_at bytes 12) 0 15 = omega (arith, size_is) in
    read_back 9 p (LockRequest h o 2 (swap_bytes w)) bytes fit s x.kind
    (record {
      fits = (x.fits, y.small, omega arith, omega arith, fits.lock, fits.bytes);
      quadlets = request_at 9 bytes h o (size (length (swap_bytes w)) 2 ∷ []) fit x.kind x.first x.source y.high y.low
          ∙ ap (λ (t : List ℕ). quadlet_at bytes 0 ∷ quadlet_at bytes 4 ∷ quadlet_at bytes 8 ∷ t)
          (size_at bytes (length (swap_bytes w)) 2 fit (omega (arith, fits.size, size_is)) (omega (arith, size_is)));
      rest = same ∙ ap (λ (n : ℕ). take n (drop 16 bytes)) eight;
    })

pub read_reply_is : (p : Packet) (bytes : List ℕ) (h : Head) (r v : ℕ) → AreBytes bytes → Spells p bytes → HasHead 6 bytes h → r ≡ field (quadlet_at bytes 4) 16 19 → v ≡ quadlet_at bytes 12
    → p ≡ ReadQuadletReply h r v
read_reply_is p bytes h r v fit s x code value =
    let complete = complete_of 6 p bytes fit s x.kind in
    read_back 6 p (ReadQuadletReply h r v) bytes fit s x.kind
    (record {
      fits = (x.fits, omega (arith, code), omega (arith, value, below bytes 12 fit));
      quadlets = response_at 6 bytes h r (v ∷ []) fit x.kind x.first x.source code (complete.sound.response refl)
          ∙ ap (λ (t : List ℕ). quadlet_at bytes 0 ∷ quadlet_at bytes 4 ∷ quadlet_at bytes 8 ∷ t) (ap (λ (q : ℕ). q ∷ []) value);
      rest = refl;
    })

-- a response with an old value has it after quadlet 3
pub old_end : (p : Packet) (bytes : List ℕ) → AreBytes bytes → Spells p bytes → tcode_of bytes ≡ 11 → quadlet_at bytes 12 ≡ 262146 → 20 ≤ length bytes
old_end p bytes fit s kind e =
    let complete = complete_of 11 p bytes fit s kind in
    omega (arith, (all_there (length bytes) (field (quadlet_at bytes 12) 0 15) complete.begun complete.all).1, e)

pub swap_reply_is : (p : Packet) (bytes : List ℕ) (h : Head) (r : ℕ) (d : List ℕ) → AreBytes bytes → Spells p bytes → HasHead 11 bytes h → r ≡ field (quadlet_at bytes 4) 16 19
    → quadlet_at bytes 12 ≡ 262146 → d ≡ take 4 (drop 16 bytes) → p ≡ LockReply h r 2 d
swap_reply_is p bytes h r d fit s x code size_is same =
    let complete = complete_of 11 p bytes fit s x.kind in
    let long = old_end p bytes fit s x.kind size_is in
    let four : length d ≡ 4 = ap length same ∙ length-take-le 4 (drop 16 bytes) (omega (arith, length-drop 16 bytes, long)) in
    let len : 4 ≡ field (quadlet_at bytes 12) 0 15 = omega (arith, size_is) in
    read_back 11 p (LockReply h r 2 d) bytes fit s x.kind
    (record {
      fits = (x.fits, omega (arith, code), omega arith, omega arith, subst (λ (n : ℕ). IsTrue (is_reply_size n)) (sym four) refl, subst AreBytes (sym same) (are_bytes_part bytes 4 16 fit));
      quadlets = response_at 11 bytes h r (size (length d) 2 ∷ []) fit x.kind x.first x.source code (complete.sound.response refl)
          ∙ ap (λ (t : List ℕ). quadlet_at bytes 0 ∷ quadlet_at bytes 4 ∷ quadlet_at bytes 8 ∷ t) (size_at bytes (length d) 2 fit (four ∙ len) (omega (arith, size_is)));
      rest = same ∙ ap (λ (n : ℕ). take n (drop 16 bytes)) len;
    })

pub write_is : (p : Packet) (bytes : List ℕ) (h : Head) (o v : ℕ) → AreBytes bytes → Spells p bytes → HasHead 0 bytes h → HasOffset bytes o → v ≡ quadlet_at bytes 12 → p ≡ WriteQuadlet h o v
write_is p bytes h o v fit s x y value =
    read_back 0 p (WriteQuadlet h o v) bytes fit s x.kind
    (record {
      fits = (x.fits, y.small, omega (arith, value, below bytes 12 fit));
      quadlets = request_at 0 bytes h o (v ∷ []) fit x.kind x.first x.source y.high y.low
          ∙ ap (λ (t : List ℕ). quadlet_at bytes 0 ∷ quadlet_at bytes 4 ∷ quadlet_at bytes 8 ∷ t) (ap (λ (q : ℕ). q ∷ []) value);
      rest = refl;
    })

pub cycle_start_is : (p : Packet) (bytes : List ℕ) (h : Head) (o v : ℕ) → AreBytes bytes → Spells p bytes → HasHead 8 bytes h → HasOffset bytes o → v ≡ quadlet_at bytes 12 → p ≡ CycleStart h o v
cycle_start_is p bytes h o v fit s x y value =
    read_back 8 p (CycleStart h o v) bytes fit s x.kind
    (record {
      fits = (x.fits, y.small, omega (arith, value, below bytes 12 fit));
      quadlets = request_at 8 bytes h o (v ∷ []) fit x.kind x.first x.source y.high y.low
          ∙ ap (λ (t : List ℕ). quadlet_at bytes 0 ∷ quadlet_at bytes 4 ∷ quadlet_at bytes 8 ∷ t) (ap (λ (q : ℕ). q ∷ []) value);
      rest = refl;
    })

-- a block of eight bytes has them after quadlet 3
pub pair_end : (p : Packet) (bytes : List ℕ) → AreBytes bytes → Spells p bytes → tcode_of bytes ≡ 1 → quadlet_at bytes 12 ≡ 524288 → 24 ≤ length bytes
pair_end p bytes fit s kind e =
    let complete = complete_of 1 p bytes fit s kind in
    omega (arith, (all_there (length bytes) (field (quadlet_at bytes 12) 0 15) complete.begun complete.all).1, e)

pub pair_is : (p : Packet) (bytes : List ℕ) (h : Head) (o : ℕ) (w : SwapWords) → AreBytes bytes → Spells p bytes → HasHead 1 bytes h → HasOffset bytes o → quadlet_at bytes 12 ≡ 524288
    → to_be_bytes w32 w.argument ≡ take 4 (drop 16 bytes) → to_be_bytes w32 w.new ≡ take 4 (drop 20 bytes) → p ≡ WriteBlock h o (swap_bytes w)
pair_is p bytes h o w fit s x y size_is first second =
    let same : swap_bytes w ≡ take 8 (drop 16 bytes) = swap_data bytes (to_be_bytes w32 w.argument) (to_be_bytes w32 w.new) first second in
    let fits = swap_fits bytes (swap_bytes w) fit same (pair_end p bytes fit s x.kind size_is) in
    let eight : 8 ≡ field (quadlet_at bytes 12) 0 15 = omega (arith, size_is) in
    read_back 1 p (WriteBlock h o (swap_bytes w)) bytes fit s x.kind
    (record {
      fits = (x.fits, y.small, omega (arith, fits.size), fits.bytes);
      quadlets = request_at 1 bytes h o (size (length (swap_bytes w)) 0 ∷ []) fit x.kind x.first x.source y.high y.low
          ∙ ap (λ (t : List ℕ). quadlet_at bytes 0 ∷ quadlet_at bytes 4 ∷ quadlet_at bytes 8 ∷ t)
          (size_at bytes (length (swap_bytes w)) 0 fit (omega (arith, fits.size, size_is)) (omega (arith, size_is)));
      rest = same ∙ ap (λ (n : ℕ). take n (drop 16 bytes)) eight;
    })

pub write_reply_is : (p : Packet) (bytes : List ℕ) (h : Head) (r : ℕ) → AreBytes bytes → Spells p bytes → HasHead 2 bytes h → r ≡ field (quadlet_at bytes 4) 16 19 → p ≡ WriteReply h r
write_reply_is p bytes h r fit s x code =
    let complete = complete_of 2 p bytes fit s x.kind in
    read_back 2 p (WriteReply h r) bytes fit s x.kind
    (record {
      fits = (x.fits, omega (arith, code));
      quadlets = response_at 2 bytes h r [] fit x.kind x.first x.source code (complete.sound.response refl);
      rest = refl;
    })

-- the two quadlets of a swap, back from their bytes
pub swap_back : (s : SwapWords) → s.argument < 2 ^ 32 → s.new < 2 ^ 32 → quadlet_swap COMPARE_SWAP (swap_bytes s) ≡ Some s
swap_back s low small =
    let first : quadlet_at (swap_bytes s) 0 ≡ s.argument = from_be_bytes-to_be_bytes_4 s.argument low in
    let second : quadlet_at (swap_bytes s) 4 ≡ s.new = from_be_bytes-to_be_bytes_4 s.new small in
    ap (λ (n : ℕ). Some (record { argument = n; new = quadlet_at (swap_bytes s) 4 })) first ∙ ap (λ (n : ℕ). Some (record { argument = s.argument; new = n })) second
