-- The parts of a packet, written one after the other.
use Rattle.fw_async.proofs.Common.{◌≡◌, ℕ, ◌+◌, List, [], ◌∷◌, ◌++◌, length, take, replicate, arith, ap, refl, sym, ◌∙◌, length-append, to_be_bytes, w32, padding, spelling, Packet}
use Rattle.std.proofs.Common.{append_assoc, append-nil}
use Rattle.std.specs.Prelude.{flat_map}
use Rattle.fw_async.specs.Async.{parts}

-- The three parts are the packet's.
pub record ArePartsOf (p : Packet) (prefix block zeros : List ℕ) : Type 0 where
  pub quadlets : prefix ≡ flat_map (to_be_bytes w32) (parts p).quadlets
  pub bytes : block ≡ (parts p).bytes
  pub padding : zeros ≡ replicate (padding (length block)) 0

pub together : (p : Packet) (prefix block zeros : List ℕ) → ArePartsOf p prefix block zeros → prefix ++ (block ++ zeros) ≡ spelling p
together p prefix block zeros h = cc

pub size_together : (p : Packet) (prefix block zeros : List ℕ) → ArePartsOf p prefix block zeros → length (spelling p) ≡ length prefix + length block + length zeros
size_together p prefix block zeros h = omega (arith, ap length (together p prefix block zeros h), length-append prefix (block ++ zeros), length-append block zeros)

-- Without data the beginning is all.
pub prefix_alone : (p : Packet) (prefix block : List ℕ) → prefix ≡ flat_map (to_be_bytes w32) (parts p).quadlets → block ≡ (parts p).bytes → length block ≡ 0 → prefix ≡ spelling p
prefix_alone p prefix [] e f none = sym (append-nil prefix) ∙ together p prefix [] [] (record { quadlets = e; bytes = f; padding = refl })
prefix_alone p prefix (x ∷ xs) e f none = absurd (omega arith)

pub one_after_another : (start one two three prefix block zeros all : List ℕ) (i j k : ℕ) → take i one ≡ start ++ prefix → take j two ≡ take i one ++ block → take k three ≡ take j two ++ zeros
    → prefix ++ (block ++ zeros) ≡ all → take k three ≡ start ++ all
one_after_another start one two three prefix block zeros all i j k first second third e =
    third ∙ ap (λ t. t ++ zeros) (second ∙ ap (λ t. t ++ block) first) ∙ (append_assoc (start ++ prefix) block zeros ∙ append_assoc start prefix (block ++ zeros)) ∙ ap (λ t. start ++ t) e
