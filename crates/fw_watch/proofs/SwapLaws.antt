-- What loops over the channels of a half make, one more.
use Rattle.std.proofs.Common.{◌≡◌, refl, ℕ, zero, suc, ◌+◌, ◌≤◌, Bool, true, false, [], ◌++◌, add-one, arith}
use Rattle.fw_watch_remarks.specs.Knowing.{bit_of}
use Rattle.fw_watch_known.specs.declared.state.State.{State}
use Rattle.fw_watch_known.specs.declared.swap.Made.{Made}
use Rattle.fw_watch.specs.Swaps.{change_remarks, changes_remarks, next_count, changes_to}

pub no_changes : (s : State) (m : Made) (first : ℕ) → changes_remarks 0 s m first ≡ []
unfolding changes_remarks
no_changes s m first = refl

pub changes_more : (n : ℕ) (s : State) (m : Made) (first : ℕ) → changes_remarks (n + 1) s m first ≡ changes_remarks n s m first ++ change_remarks s m first n
unfolding changes_remarks
changes_more n s m first = rw (add-one n) refl

pub none_differ : (old new : ℕ) → changes_to 0 old new ≡ 0
unfolding changes_to
none_differ old new = refl

pub differ_more : (n old new : ℕ) → changes_to (n + 1) old new ≡ next_count (changes_to n old new) (bit_of old n) (bit_of new n)
unfolding changes_to
differ_more n old new = rw (add-one n) refl

at_most : (a b : Bool) (n m : ℕ) → n ≤ m → next_count n a b ≤ suc m
at_most true true n m h = omega (arith, h)
at_most true false n m h = omega (arith, h)
at_most false true n m h = omega (arith, h)
at_most false false n m h = omega (arith, h)

pub differ_at_most : (n old new : ℕ) → changes_to n old new ≤ n
unfolding changes_to
differ_at_most zero old new = omega arith
differ_at_most (suc n) old new = at_most (bit_of old n) (bit_of new n) (changes_to n old new) n (differ_at_most n old new)
