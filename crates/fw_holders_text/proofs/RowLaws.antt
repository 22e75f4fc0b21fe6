-- Rows that are written over.
use Rattle.std.proofs.Common.{◌≡◌, ◌≤◌, ◌+◌, ◌++◌, ◌∙◌, ℕ, List, length, take, ap, sym, arith}
use Rattle.std.proofs.lemmas.List.{length-take-le, take-append-le, take-take}
use Rattle.std.proofs.lemmas.Slice.{take-put_mid}
use Rattle.std.proofs.Math.Seq.{take-append-add, take-length}
use borrow.Rule.Slice.PartMut.{put_mid}

-- a list that is written over whole
pub refilled : {A : Type 0} (n : ℕ) (xs ys : List A) → length xs ≡ n → take n (xs ++ ys) ≡ xs
refilled n xs ys e = take-append-le n xs ys (omega arith) ∙ ap (λ k. take k xs) (sym e) ∙ take-length xs

-- what a row leaves where it is written
pub row_written : (at size n k : ℕ) (out row : List ℕ) → at + n ≤ length out → length row ≡ n → size ≤ n → take (at + size) (put_mid at k out row) ≡ take at out ++ take size row
row_written at size n k out row within long few =
    let whole : take (at + n) (put_mid at k out row) ≡ take at out ++ row = take-put_mid at k out row (at + n) (omega (arith, long)) (omega (arith, within)) in
    let before : length (take at out) ≡ at = length-take-le at out (omega (arith, within)) in
    sym (take-take (at + size) (at + n) (put_mid at k out row) (omega (arith, few))) ∙ ap (take (at + size)) whole
    ∙ ap (λ (n : ℕ). take (n + size) (take at out ++ row)) (sym before) ∙ take-append-add (take at out) row size
