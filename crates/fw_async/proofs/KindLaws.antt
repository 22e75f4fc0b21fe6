-- The quadlets of a packet whose fields were read from them.
use Rattle.fw_async.proofs.Common.{◌≡◌, ℕ, ◌+◌, ◌/◌, ◌%◌, ◌^◌, ◌≤◌, ◌<◌, List, [], ◌∷◌, arith, ap, sym, ◌∙◌, nat_tests, field, quadlet_at, packed, head_fields, size, padding, is_lock_size}
use Rattle.fw_async.proofs.Common.{is_reply_size, AreBytes, tcode_of, Head}
use Rattle.std.specs.Prelude.{IsTrue, if◌then◌else◌, nat_lt}
use Rattle.fw_async_fields.proofs.SoundLaws.{below}

first_at : (t : ℕ) (bytes : List ℕ) (h : Head) → tcode_of bytes ≡ t → packed (head_fields (tcode_of bytes) h) 0 ≡ quadlet_at bytes 0 → packed (head_fields t h) 0 ≡ quadlet_at bytes 0
first_at t bytes h kind first = ap (λ k. packed (head_fields k h) 0) (sym kind) ∙ first

pub request_at : (t : ℕ) (bytes : List ℕ) (h : Head) (offset : ℕ) (more : List ℕ) → AreBytes bytes → tcode_of bytes ≡ t
    → packed (head_fields (tcode_of bytes) h) 0 ≡ quadlet_at bytes 0 → h.source ≡ field (quadlet_at bytes 4) 0 15
    → offset / 2 ^ 32 ≡ field (quadlet_at bytes 4) 16 31 → offset % 2 ^ 32 ≡ quadlet_at bytes 8
    → packed (head_fields t h) 0 ∷ packed ((16, h.source) ∷ (16, offset / 2 ^ 32) ∷ []) 0 ∷ offset % 2 ^ 32 ∷ more ≡ quadlet_at bytes 0 ∷ quadlet_at bytes 4 ∷ quadlet_at bytes 8 ∷ more
request_at t bytes h offset more fit kind first source high low =
    let second = second_of h.source (offset / 2 ^ 32) (quadlet_at bytes 4) (below bytes 4 fit) source high in
    cc (first_at t bytes h kind first, second, low)
  where
    second_of : (s o q : ℕ) → q < 2 ^ 32 → s ≡ field q 0 15 → o ≡ field q 16 31 → packed ((16, s) ∷ (16, o) ∷ []) 0 ≡ q
    second_of s o q small e f = omega arith

pub response_at : (t : ℕ) (bytes : List ℕ) (h : Head) (rcode : ℕ) (more : List ℕ) → AreBytes bytes → tcode_of bytes ≡ t
    → packed (head_fields (tcode_of bytes) h) 0 ≡ quadlet_at bytes 0 → h.source ≡ field (quadlet_at bytes 4) 0 15
    → rcode ≡ field (quadlet_at bytes 4) 16 19 → (quadlet_at bytes 4 % 4096 ≡ 0) × (quadlet_at bytes 8 ≡ 0)
    → packed (head_fields t h) 0 ∷ packed ((16, h.source) ∷ (4, rcode) ∷ (12, 0) ∷ []) 0 ∷ 0 ∷ more ≡ quadlet_at bytes 0 ∷ quadlet_at bytes 4 ∷ quadlet_at bytes 8 ∷ more
response_at t bytes h rcode more fit kind first source high zeros =
    let second = second_of h.source rcode (quadlet_at bytes 4) (below bytes 4 fit) source high zeros.0 in
    cc (first_at t bytes h kind first, second, zeros.1)
  where
    second_of : (s r q : ℕ) → q < 2 ^ 32 → s ≡ field q 0 15 → r ≡ field q 16 19 → q % 4096 ≡ 0 → packed ((16, s) ∷ (4, r) ∷ (12, 0) ∷ []) 0 ≡ q
    second_of s r q small e f zeros = omega arith

-- quadlet 3, alone
pub size_at : (bytes : List ℕ) (len low : ℕ) → AreBytes bytes → len ≡ field (quadlet_at bytes 12) 0 15 → low ≡ field (quadlet_at bytes 12) 16 31 → size len low ∷ [] ≡ quadlet_at bytes 12 ∷ []
size_at bytes len low fit e f = ap (λ q. q ∷ []) (of_fields len low (quadlet_at bytes 12) (below bytes 12 fit) e f)
  where
    of_fields : (l o q : ℕ) → q < 2 ^ 32 → l ≡ field q 0 15 → o ≡ field q 16 31 → size l o ≡ q
    of_fields l o q small e f = omega arith

-- of a complete packet with data quadlet 3 is there, and all data
pub all_there : (n len : ℕ) → 12 ≤ n → n ≡ (if nat_lt n 4 then 12 else if nat_lt n 16 then 16 else 16 + len + padding len) → (16 ≤ n) × (16 + len ≤ n)
all_there n len begun all = (grind (arith, nat_tests), grind (arith, nat_tests))

pub lock_most : (function len : ℕ) → IsTrue (is_lock_size function len) → len ≤ 16
lock_most function len h = grind (arith, nat_tests)

pub reply_most : (len : ℕ) → IsTrue (is_reply_size len) → len ≤ 8
reply_most len h = grind (arith, nat_tests)
