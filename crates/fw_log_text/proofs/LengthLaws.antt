-- The lengths that an isochronous packet has.
use Rattle.std.proofs.Common.{◌≡◌, ◌++◌, List, ℕ, codes, decimal, Some, None, refl}
use Rattle.std.specs.Fmt.{digits}
use Rattle.fw_cip.specs.Iso.{data_length}

pub with_block : (block : List ℕ) → codes " 488 " ≡ codes " " ++ decimal (data_length (Some block)) ++ codes " "
unfolding digits
with_block block = refl

pub without_block : codes " 8 " ≡ codes " " ++ decimal (data_length None) ++ codes " "
unfolding digits
without_block = refl
