-- What a reset entry says of devices and plugs.
use Rattle.fw_model_account.proofs.Common.{PlugAt, ResetEntry, NodeRow, ◌≡◌, ℕ, suc, ◌<◌, Bool, true, false, Option, Some, None, List, [], ◌∷◌, refl, arith, nat_tests, false≢true, is_output, is_input}
use Rattle.std.proofs.Common.{zero, slice_get}
use Rattle.std.specs.List.{list_any}
use Rattle.fw_plug.specs.Words.{FitsRegister}
use Rattle.fw_log_entry.specs.Network.{IsNetwork, HasRange}
use Rattle.fw_model_account.specs.Network.{is_output_of, declared}

pub not_both : {A : Type 0} (o : Option A) (v : A) → o ≡ None → o ≡ Some v → ⊥
not_both o v e f = cc

-- before the first reset entry no plug is there
pub no_outputs : (o : Option ResetEntry) (p : PlugAt) → o ≡ None → is_output o p ≡ true → ⊥
no_outputs None p e t = false≢true t
no_outputs (Some r) p e t = cc

pub no_inputs : (o : Option ResetEntry) (p : PlugAt) → o ≡ None → is_input o p ≡ true → ⊥
no_inputs None p e t = false≢true t
no_inputs (Some r) p e t = cc

-- what passes stands at some place, and what stands at a place is met
pub any_place : (test : NodeRow → Bool) (xs : List NodeRow) → list_any test xs ≡ true → (n : ℕ) × (x : NodeRow) × (slice_get xs n ≡ Some x) × (test x ≡ true)
any_place test [] e = absurd (false≢true e)
any_place test (x ∷ xs) e = go (test x) refl (any_place test xs)
  where
    go : (b : Bool) → test x ≡ b → (list_any test xs ≡ true → (n : ℕ) × (y : NodeRow) × (slice_get xs n ≡ Some y) × (test y ≡ true)) → (n : ℕ) × (y : NodeRow) × (slice_get (x ∷ xs) n ≡ Some y)
        × (test y ≡ true)
    go true t later = (0, x, refl, t)
    go false t later = let r = later (grind arith) in (suc r.0, r.1, r.2, r.3)

pub any_at : (test : NodeRow → Bool) (xs : List NodeRow) (n : ℕ) (x : NodeRow) → slice_get xs n ≡ Some x → test x ≡ true → list_any test xs ≡ true
any_at test [] n x e t = cc
any_at test (y ∷ ys) zero x e t = grind arith
any_at test (y ∷ ys) (suc n) x e t = grind (arith, any_at test ys n x e t)

-- the plugs of a reset entry have numbers in range, and what they keep at first fits
pub output_in_range : (o : Option ResetEntry) (p : PlugAt) → HasRange o → is_output o p ≡ true → (p.device < 63) × (p.plug < 31)
output_in_range None p w t = absurd (false≢true t)
output_in_range (Some r) p w t =
    let a = any_place (is_output_of p) r.nodes t in
    let d = w a.0 a.1 a.2 in
    grind (arith, nat_tests, a.3)

pub declared_fits : (r : ResetEntry) (p : PlugAt) → IsNetwork r → FitsRegister (declared r p)
declared_fits r p w = record { channel = omega arith; rate = w.speeds _; overhead = omega arith }
