-- Parts that are kept once, in the order in which they came.
use Rattle.std.specs.Prelude.{ℕ, ◌≡◌, ◌<◌, ◌++◌, List, length, slice_index, slice_index_or}

-- The part of a whole has a number; those that were kept before have theirs still.
pub record Keeps {P W : Type 0} (IsOf : P → W → Type 0) (old new : List P) (whole : W) (n : ℕ) : Type 0 where
  pub more : List P
  pub is : new ≡ old ++ more
  pub within : n < length new
  pub at : (d : P) → IsOf (slice_index_or new n d) whole

-- The parts of wholes have numbers, which come in their order after those that were there; parts that were kept before have theirs still.
pub record KeepsAll {P W : Type 0} (IsOf : P → W → Type 0) (old new : List P) (wholes : List W) (before after : List ℕ) : Type 0 where
  pub more : List P
  pub is : new ≡ old ++ more
  pub numbers : List ℕ
  pub words : after ≡ before ++ numbers
  pub size : length numbers ≡ length wholes
  pub within : (k : ℕ) → k < length numbers → slice_index numbers k < length new
  pub at : (k : ℕ) (d : P) (w : W) → k < length numbers → IsOf (slice_index_or new (slice_index numbers k) d) (slice_index_or wholes k w)
