-- What tests say that were passed.
use Rattle.fw_async.proofs.Common.{◌≡◌, ℕ, ◌≤◌, ◌==◌, Bool, true, false, arith, refl, if◌then◌else◌, nat_tests}
use Rattle.std.proofs.Common.{◌&&◌, nat_le}

pub equal : (a b : ℕ) → (a == b) ≡ true → a ≡ b
equal a b h = grind (arith, nat_tests)

pub at_most : (a b : ℕ) → nat_le a b ≡ true → a ≤ b
at_most a b h = grind (arith, nat_tests)

pub record Both (a b : Bool) : Type 0 where
  pub first : a ≡ true
  pub second : b ≡ true

pub both : (a b : Bool) → (a && b) ≡ true → Both a b
both true b h = record { first = refl; second = h }
both false b h = cc h

-- a choice that is true
pub either : {A : Type 0} (b x y : Bool) → (if b then x else y) ≡ true → (b ≡ true → x ≡ true → A) → (b ≡ false → y ≡ true → A) → A
either true x y h f g = f refl h
either false x y h f g = g refl h
