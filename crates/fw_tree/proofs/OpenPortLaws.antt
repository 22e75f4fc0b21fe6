-- The one open port of a device.
use Rattle.fw_tree.proofs.Common.{◌≡◌, inl, inr, ℕ, zero, suc, ◌+◌, List, [], ◌∷◌, Option, Some, None, Bool, true, false, slice_index_or, arith, refl, sym, ap, ◌∙◌, End, Peers, peer, is_open}
use Rattle.fw_tree.proofs.Common.{open_count}
use Rattle.std.proofs.Common.{◌<◌, ◌≤◌, count_by, cond, length, take}
use Rattle.std.proofs.lemmas.List.Sums.{sum_by-cons, sum_by-take-le, count_by_more_yes}
use Rattle.fw_tree.proofs.ForestLaws.{truth}

-- the device at the other end
device_at : Option End → ℕ
device_at None = 0
device_at (Some e) = e.device

pub same_end : (o : Option End) (e f : End) → o ≡ Some e → o ≡ Some f → e.device ≡ f.device
unfolding device_at
same_end o e f h k = ap device_at (sym h ∙ k)

-- the one open port of a row of ports
pub record One (s : ℕ → Bool) (ports : List (Option End)) : Type 0 where
  pub port : ℕ
  pub open_there : is_open s (slice_index_or ports port None) ≡ true
  pub only : (q : ℕ) → is_open s (slice_index_or ports q None) ≡ true → q ≡ port

count_open : (s : ℕ → Bool) (o : Option End) (ports : List (Option End)) → is_open s o ≡ true → count_by (is_open s) (o ∷ ports) ≡ 1 + count_by (is_open s) ports
count_open s o ports h = sum_by-cons (λ x. cond (is_open s x) 1 0) o ports ∙ rw h refl

count_shut : (s : ℕ → Bool) (o : Option End) (ports : List (Option End)) → is_open s o ≡ false → count_by (is_open s) (o ∷ ports) ≡ count_by (is_open s) ports
count_shut s o ports h = sum_by-cons (λ x. cond (is_open s x) 1 0) o ports ∙ rw h (omega arith)

none_open : (s : ℕ → Bool) (ports : List (Option End)) → count_by (is_open s) ports ≡ 0 → (p : ℕ) → is_open s (slice_index_or ports p None) ≡ true → ⊥
none_open s [] h p t = cc
none_open s (o ∷ ports) h p t = elim (truth (is_open s o)) [
  | inl shown ↦ let e = count_open s o ports shown in omega arith
  | inr shut ↦ later s o ports shut (λ q. none_open s ports (sym (count_shut s o ports shut) ∙ h) q) p t
]
  where
    later : (s : ℕ → Bool) (o : Option End) (ports : List (Option End)) → is_open s o ≡ false → ((p : ℕ) → is_open s (slice_index_or ports p None) ≡ true → ⊥) → (p : ℕ)
        → is_open s (slice_index_or (o ∷ ports) p None) ≡ true → ⊥
    later s o ports shut f zero t = cc
    later s o ports shut f (suc p) t = f p t

none_count : (s : ℕ → Bool) (ports : List (Option End)) → ((p : ℕ) → is_open s (slice_index_or ports p None) ≡ true → ⊥) → count_by (is_open s) ports ≡ 0
none_count s [] f = refl
none_count s (o ∷ ports) f = elim (truth (is_open s o)) [
  | inl shown ↦ absurd (f 0 shown)
  | inr shut ↦ count_shut s o ports shut ∙ none_count s ports (λ p t. f (suc p) t)
]

pub one_of : (s : ℕ → Bool) (ports : List (Option End)) → count_by (is_open s) ports ≡ 1 → One s ports
one_of s [] h = absurd (let e : ⊥ = omega arith in e)
one_of s (o ∷ ports) h = elim (truth (is_open s o)) [
  | inl shown ↦ record { port = 0; open_there = shown; only = λ q t. first s o ports (let e = count_open s o ports shown in omega arith) q t }
  | inr shut ↦
      let w = one_of s ports (sym (count_shut s o ports shut) ∙ h) in
      record { port = suc w.port; open_there = w.open_there; only = λ q t. later s o ports shut w q t }
]
  where
    first : (s : ℕ → Bool) (o : Option End) (ports : List (Option End)) → count_by (is_open s) ports ≡ 0 → (q : ℕ) → is_open s (slice_index_or (o ∷ ports) q None) ≡ true → q ≡ 0
    first s o ports h zero t = refl
    first s o ports h (suc q) t = absurd (none_open s ports h q t)

    later : (s : ℕ → Bool) (o : Option End) (ports : List (Option End)) → is_open s o ≡ false → (w : One s ports) → (q : ℕ) → is_open s (slice_index_or (o ∷ ports) q None) ≡ true → q ≡ suc w.port
    later s o ports shut w zero t = cc
    later s o ports shut w (suc q) t = ap (λ n. suc n) (w.only q t)

pub is_one : (s : ℕ → Bool) (ports : List (Option End)) (p : ℕ) → is_open s (slice_index_or ports p None) ≡ true → ((q : ℕ) → is_open s (slice_index_or ports q None) ≡ true → q ≡ p)
    → count_by (is_open s) ports ≡ 1
is_one s [] p h f = absurd (let e : ⊥ = cc in e)
is_one s (o ∷ ports) zero h f = count_open s o ports h ∙ ap (λ n. 1 + n) (none_count s ports (λ q t. let e = f (suc q) t in omega arith))
is_one s (o ∷ ports) (suc p) h f = elim (truth (is_open s o)) [
  | inl shown ↦ let e = f 0 shown in absurd (let x : ⊥ = omega arith in x)
  | inr shut ↦ count_shut s o ports shut ∙ is_one s ports p h (λ q t. let e = f (suc q) t in omega arith)
]

-- two open ports of a device that has one are the same
pub same_port : (g : Peers) (s : ℕ → Bool) (d p q : ℕ) → open_count g s d ≡ 1 → is_open s (peer g d p) ≡ true → is_open s (peer g d q) ≡ true → p ≡ q
same_port g s d p q h i j = let w = one_of s (slice_index_or g d []) h in w.only p i ∙ sym (w.only q j)

-- a port is open, and one of those before it is: the device has more than one open port
pub more_than_one : (s : ℕ → Bool) (ports : List (Option End)) (p : ℕ) → p < length ports → is_open s (slice_index_or ports p None) ≡ true → count_by (is_open s) (take p ports) ≡ 1
    → count_by (is_open s) ports ≡ 1 → ⊥
more_than_one s ports p low shown one all =
    let more : count_by (is_open s) (take (p + 1) ports) ≡ count_by (is_open s) (take p ports) + 1 = count_by_more_yes (is_open s) ports p None low shown in
    let least : count_by (is_open s) (take (p + 1) ports) ≤ count_by (is_open s) ports = sum_by-take-le (λ x. cond (is_open s x) 1 0) ports (p + 1) in
    omega arith
