-- The bytes of a packet in its room, after sixteen others.
use Rattle.fw_async.proofs.Common.{◌≡◌, ℕ, ◌+◌, ◌≤◌, List, ◌++◌, length, take, drop, arith, ap, sym, ◌∙◌, length-take-le}
use Rattle.std.proofs.Math.Seq.{take-take, take-append-add, take-append_seam}
use Rattle.std.proofs.lemmas.List.{drop-take, drop-append-le, length-drop}

-- more bytes stand after those that were there
pub appended : (n : ℕ) (old now more : List ℕ) → 16 + n ≤ length old → take (16 + n + length more) now ≡ take (16 + n) old ++ more
    → take (n + length more) (drop 16 now) ≡ take n (drop 16 old) ++ more
appended n old now more within e =
    let all : 16 + (n + length more) ≡ 16 + n + length more = omega arith in
    let prefix : 16 ≤ length (take (16 + n) old) = omega (arith, length-take-le (16 + n) old within) in
    sym (drop-take 16 (n + length more) now)
    ∙ (ap (drop 16) (ap (λ k. take k now) all ∙ e)
    ∙ (drop-append-le 16 (take (16 + n) old) more prefix ∙ ap (λ t. t ++ more) (drop-take 16 n old)))

-- the first of those that are copied
pub copied : (n m : ℕ) (from to : List ℕ) → n ≤ m → take m to ≡ take m from → take n to ≡ take n from
copied n m from to few e = sym (take-take n m to few) ∙ (ap (take n) e ∙ take-take n m from few)

-- the beginning of what is put together is what was put there
pub prefix_whole : (n : ℕ) (xs ys : List ℕ) → length xs ≡ n → take n (xs ++ ys) ≡ xs
prefix_whole n xs ys size = ap (λ k. take k (xs ++ ys)) (sym size) ∙ take-append_seam xs ys

pub stood : (n : ℕ) (bytes : List ℕ) → 16 + n ≤ length bytes → length (take n (drop 16 bytes)) ≡ n
stood n bytes within = length-take-le n (drop 16 bytes) (omega (arith, length-drop 16 bytes))

-- the first bytes, which were put before a packet, and that packet
pub row_is : (n : ℕ) (put prefix following packet : List ℕ) → length put ≡ 16 → put ≡ prefix → take n following ≡ packet → take (16 + n) (put ++ following) ≡ prefix ++ packet
row_is n put prefix following packet size same is =
    ap (λ k. take (k + n) (put ++ following)) (sym size) ∙ (take-append-add put following n ∙ (ap (λ t. t ++ take n following) same ∙ ap (λ t. prefix ++ t) is))
