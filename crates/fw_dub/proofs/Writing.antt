-- Blocks that are written one after another.
use Rattle.std.proofs.Common.{ℕ, ◌+◌, ◌<◌, ◌≡◌, List, [], ◌++◌, length, drop, get_or, Option, Ok, Err, refl, subst, add-one, drop-cons, arith}
use Rattle.std.specs.Result.{IsErr}
use Rattle.std.specs.declared.result.Result.{Result}
use Rattle.fw_outside.specs.Outside.{Grows, Writes, AppendsPrefix, PartWritten}
use Rattle.fw_outside.proofs.Parts.{piece_written, prefix_written}
use Rattle.fw_dub.specs.Reels.{bytes_of}

next_block : (reel : List (List ℕ)) (k : ℕ) → k < length reel → bytes_of (drop k reel) ≡ get_or reel k [] ++ bytes_of (drop (k + 1) reel)
next_block reel k h = rw (add-one, drop-cons reel k []) refl

-- the next block was written
pub block_written : (old mid new : Option (List ℕ)) (whole : List ℕ) (reel : List (List ℕ)) (k : ℕ) → k < length reel → PartWritten old mid whole (bytes_of (drop k reel))
    → Grows mid new (get_or reel k []) → PartWritten old new whole (bytes_of (drop (k + 1) reel))
block_written old mid new whole reel k h part wrote = piece_written old mid new whole (get_or reel k []) (bytes_of (drop (k + 1) reel))
    (subst (PartWritten old mid whole) (next_block reel k h) part) wrote

-- it was not wholly written
pub block_cut : {T E : Type 0} → (r : Result T E) (old mid new : Option (List ℕ)) (whole : List ℕ) (reel : List (List ℕ)) (k : ℕ) → IsErr r → k < length reel
    → PartWritten old mid whole (bytes_of (drop k reel)) → AppendsPrefix mid new (get_or reel k []) → Writes old new r whole
block_cut (Ok x) old mid new whole reel k is h part wrote = absurd (grind (arith, is))
block_cut (Err e) old mid new whole reel k is h part wrote =
    prefix_written old mid new whole (get_or reel k []) (bytes_of (drop (k + 1) reel)) (subst (PartWritten old mid whole) (next_block reel k h) part) wrote
