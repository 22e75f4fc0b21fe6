-- A piece that is a part of one entry, of which nothing was taken before.
use Rattle.fw_log.proofs.Common.{◌≡◌, ◌+◌, ◌≤◌, ℕ, List, [], ◌∷◌, ◌++◌, length, arith, subst, length-append, IsPending, Position}
use Rattle.fw_log.proofs.FeedLaws.{need_most}

pub part_of : (s t : Position) (old kept piece : List ℕ) → t ≡ s → kept ≡ old → length kept ≡ 0 → IsPending t piece → IsPending s (old ++ piece)
part_of s t old [] piece e g z h =
    let P : Position → Type 0 = λ x. IsPending x piece in
    let Q : List ℕ → Type 0 = λ x. IsPending s (x ++ piece) in
    subst Q g (subst P e h)
part_of s t old (x ∷ kept) piece e g z h = absurd (omega (arith, z))

-- there is room for it
pub part_room : (s : Position) (old piece : List ℕ) → IsPending s (old ++ piece) → length old + length piece ≤ 2308
part_room s old piece h = omega (arith, need_most s (old ++ piece) h, h.not_complete, length-append old piece)
