-- Words that are a certain text.
use Rattle.std.proofs.Common.{◌≡◌, ℕ, List, length, ap, sym}
use Rattle.std.proofs.lemmas.Slice.Eq.{text_from_reads, HasBytesAt}

-- what a function says of the text it says of a word with the same bytes
pub by_bytes : {A : Type 0} (f : List ℕ → A) (w text : List ℕ) → length w ≡ length text → HasBytesAt w 0 text → f text ≡ f w
by_bytes f w text long same = sym (ap f (text_from_reads w text long same))
