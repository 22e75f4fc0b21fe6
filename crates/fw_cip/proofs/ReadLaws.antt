-- What bytes without a fault have.
use Rattle.std.proofs.Common.{◌≡◌, ◌≢◌, ℕ, ◌≤◌, ◌==◌, List, Some, None, IsTrue, length, arith, refl, sym, ◌∙◌, if◌then◌else◌}
use Rattle.std.proofs.lemmas.Bool.Decides.{nat_tests}
use Rattle.fw_words.specs.Quadlet.{field, first_set, quadlet_at}
use Rattle.fw_cip.specs.Iso.{is_size, iso_fault}

-- the two reserved bits of the CIP header
two_bits : (q : ℕ) → first_set q 22 2 ≡ (if field q 22 22 == 1 then Some 22 else if field q 23 23 == 1 then Some 23 else None)
unfolding first_set
two_bits q = refl

pub reserved_within : (q at : ℕ) → Some at ≡ first_set q 22 2 → at ≤ 23
reserved_within q at e = let f = e ∙ two_bits q in grind (arith, nat_tests)

clear : (q : ℕ) → first_set q 22 2 ≡ None → field q 22 23 ≡ 0
clear q none =
    let e = sym (two_bits q) ∙ none in
    let first : field q 22 22 ≡ 0 = grind (arith, nat_tests) in
    let second : field q 23 23 ≡ 0 = grind (arith, nat_tests) in
    omega arith

pub reserved_none : (q : ℕ) → field q 22 22 ≡ 0 → field q 23 23 ≡ 0 → first_set q 22 2 ≡ None
reserved_none q first second = two_bits q ∙ grind (arith, nat_tests)

pub reserved_clear : (bytes : List ℕ) → iso_fault bytes ≡ None → field (quadlet_at bytes 4) 22 23 ≡ 0
reserved_clear bytes none = clear (quadlet_at bytes 4) (grind (arith, nat_tests))

-- What stands after the headers is a block, if it is anything.
block_size : (size count : ℕ) → IsTrue (is_size size count) → count ≢ 12 → count ≡ 492
block_size size count h more = grind (arith, nat_tests)

pub block_there : (bytes : List ℕ) → IsTrue (is_size (field (quadlet_at bytes 0) 0 15) (length bytes)) → length bytes ≢ 12 → length bytes ≡ 492
block_there bytes h more = block_size (field (quadlet_at bytes 0) 0 15) (length bytes) h more
