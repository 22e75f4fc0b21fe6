-- What stands on a wire, by node.
use Rattle.std.specs.Prelude.{ℕ, ◌≡◌, List, Option, None, slice_index_or}
use Rattle.fw_async.specs.Wire.{Pairs, bytes_from}

-- each node's bytes are those that stand, if some do
abbrev pub HasLetters : Pairs → List (Option (List ℕ)) → Type 0
HasLetters pairs letters = (node : ℕ) → bytes_from node pairs ≡ slice_index_or letters node None
