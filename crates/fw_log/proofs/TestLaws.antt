-- What tests say that were passed.
use Rattle.fw_log.proofs.Common.{◌≡◌, ℕ, ◌<◌, ◌==◌, ◌&&◌, nat_lt, Bool, true, false, arith, refl, if◌then◌else◌, nat_tests}
pub use Rattle.fw_async.proofs.TestLaws.{equal, at_most, Both, both, either}

pub equals : (a b : ℕ) → a ≡ b → (a == b) ≡ true
equals a b e = grind (arith, nat_tests)

pub differs : (a b : ℕ) → (a ≡ b → ⊥) → (a == b) ≡ false
differs a b n = grind (arith, nat_tests, n)

pub positive : (n : ℕ) → (n == 0) ≡ false → 0 < n
positive n h = grind (arith, nat_tests)

pub less : (a b : ℕ) → nat_lt a b ≡ true → a < b
less a b h = grind (arith, nat_tests)

pub both_by : (a b : Bool) → a ≡ true → b ≡ true → (a && b) ≡ true
both_by a b e f = cc

-- a test that is passed, and the two sides of a choice
pub passed : (a x : Bool) → a ≡ true → (a && x) ≡ x
passed true x e = refl
passed false x e = cc e

pub chosen : (b x y : Bool) → b ≡ true → (if b then x else y) ≡ x
chosen true x y e = refl
chosen false x y e = cc e

pub other : (b x y : Bool) → b ≡ false → (if b then x else y) ≡ y
other true x y e = cc e
other false x y e = refl
