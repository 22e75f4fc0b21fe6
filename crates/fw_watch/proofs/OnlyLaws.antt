-- What a swap tells that changes one channel.
use Rattle.std.proofs.Common.{◌≡◌, refl, ap, sym, ◌∙◌, ℕ, zero, suc, ◌+◌, ◌<◌, ◌≤◌, nat_lt, Bool, true, false, List, [], ◌++◌, arith, inl, inr}
use Rattle.std.specs.Prelude.{if◌then◌else◌}
use Rattle.std.proofs.Math.Nat.{eq-or-lt_of_le}
use Rattle.std.proofs.lemmas.List.{append-nil}
use Rattle.fw_watch_remarks.specs.Knowing.{bit_of}
use Rattle.fw_watch_remarks.specs.Remarks.{Said}
use Rattle.fw_watch_known.specs.Changes.{DifferAt}
use Rattle.fw_watch_known.specs.declared.state.State.{State}
use Rattle.fw_watch_known.specs.declared.swap.Made.{Made}
use Rattle.fw_watch.specs.Swaps.{change_remarks, taken_remarks, changes_remarks, next_count, changes_to, several_remarks, channels_remarks}

none : (a b : Bool) (x y : List Said) → a ≡ b → (if a then (if b then [] else x) else (if b then y else [])) ≡ []
none true true x y e = refl
none false false x y e = refl
none true false x y e = cc
none false true x y e = cc

-- nothing is told of a channel whose bit is the same
no_change : (s : State) (m : Made) (first n : ℕ) → bit_of m.old n ≡ bit_of m.new n → change_remarks s m first n ≡ []
unfolding change_remarks
no_change s m first n e = none (bit_of m.old n) (bit_of m.new n) _ _ e

changes_before : (n at : ℕ) (s : State) (m : Made) (first : ℕ) → DifferAt m.old m.new at → n ≤ at → changes_remarks n s m first ≡ []
unfolding changes_remarks
changes_before zero at s m first d h = refl
changes_before (suc n) at s m first d h =
    ap (λ (t : List Said). t ++ change_remarks s m first n) (changes_before n at s m first d (omega (arith, h)))
    ∙ no_change s m first n (d.others n (omega (arith, h, d.within)) (λ q. omega (arith, q, h)))

changes_only : (n at : ℕ) (s : State) (m : Made) (first : ℕ) → DifferAt m.old m.new at → at < n → n ≤ 32 → changes_remarks n s m first ≡ change_remarks s m first at
unfolding changes_remarks
changes_only zero at s m first d h l = absurd (omega (arith, h))
changes_only (suc n) at s m first d h l =
    elim (eq-or-lt_of_le {n = at} {m = n} (omega (arith, h))) [
      | inl e ↦ ap (λ (t : List Said). t ++ change_remarks s m first n) (changes_before n at s m first d (omega (arith, e)))
          ∙ ap (change_remarks s m first) (sym e)
      | inr g ↦ ap (λ (t : List Said). changes_remarks n s m first ++ t) (no_change s m first n (d.others n (omega (arith, l)) (λ q. omega (arith, q, g))))
          ∙ append-nil (changes_remarks n s m first) ∙ changes_only n at s m first d g (omega (arith, l))
    ]

next_same : (k : ℕ) (a b : Bool) → a ≡ b → next_count k a b ≡ k
next_same k true true e = refl
next_same k false false e = refl
next_same k true false e = cc
next_same k false true e = cc

next_most : (k : ℕ) (a b : Bool) → next_count k a b ≤ k + 1
next_most k true true = omega arith
next_most k false false = omega arith
next_most k true false = omega arith
next_most k false true = omega arith

count_before : (n at old new : ℕ) → DifferAt old new at → n ≤ at → changes_to n old new ≡ 0
unfolding changes_to
count_before zero at old new d h = refl
count_before (suc n) at old new d h =
    next_same (changes_to n old new) (bit_of old n) (bit_of new n) (d.others n (omega (arith, h, d.within)) (λ q. omega (arith, q, h))) ∙ count_before n at old new d (omega (arith, h))

count_only : (n at old new : ℕ) → DifferAt old new at → at < n → n ≤ 32 → changes_to n old new ≤ 1
unfolding changes_to
count_only zero at old new d h l = absurd (omega (arith, h))
count_only (suc n) at old new d h l =
    elim (eq-or-lt_of_le {n = at} {m = n} (omega (arith, h))) [
      | inl e ↦ omega (arith, next_most (changes_to n old new) (bit_of old n) (bit_of new n), count_before n at old new d (omega (arith, e)))
      | inr g ↦ omega (arith, next_same (changes_to n old new) (bit_of old n) (bit_of new n) (d.others n (omega (arith, l)) (λ q. omega (arith, q, g))), count_only n at old new d g (omega (arith, l)))
    ]

not_several : (k : ℕ) (x : List Said) → k ≤ 1 → (if nat_lt 1 k then x else []) ≡ []
not_several zero x h = refl
not_several (suc zero) x h = refl
not_several (suc (suc k)) x h = absurd (omega (arith, h))

-- a swap that changes one channel tells what it does to that one
pub one_told : (at : ℕ) (s : State) (m : Made) (first : ℕ) → DifferAt m.old m.new at → channels_remarks s m first ≡ change_remarks s m first at
unfolding channels_remarks
one_told at s m first d =
    ap (λ (t : List Said). changes_remarks 32 s m first ++ t) (not_several (changes_to 32 m.old m.new) _ (count_only 32 at m.old m.new d d.within (omega arith)))
    ∙ append-nil (changes_remarks 32 s m first) ∙ changes_only 32 at s m first d d.within (omega arith)
