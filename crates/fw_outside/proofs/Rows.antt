-- What is kept of a row that is copied whole.
use Rattle.std.proofs.Common.{◌≡◌, ℕ, ◌+◌, ◌≤◌, List, ◌++◌, length, take, arith, ap, sym, ◌∙◌}
use Rattle.std.proofs.Math.Seq.{take-append-add}
use Rattle.std.proofs.lemmas.List.{length-take-le, take-take}
use Rattle.std.proofs.lemmas.Slice.{take-put_mid}
use borrow.Rule.Slice.PartMut.{put_mid}

pub prefix_kept : (at count n k : ℕ) (out row : List ℕ) → at + n ≤ length out → length row ≡ n → count ≤ n → take (at + count) (put_mid at k out row) ≡ take at out ++ take count row
prefix_kept at count n k out row within long few =
    let whole : take (at + n) (put_mid at k out row) ≡ take at out ++ row = take-put_mid at k out row (at + n) (omega (arith, long)) (omega (arith, within)) in
    let before : length (take at out) ≡ at = length-take-le at out (omega (arith, within)) in
    sym (take-take (at + count) (at + n) (put_mid at k out row) (omega (arith, few))) ∙ ap (take (at + count)) whole
    ∙ ap (λ (n : ℕ). take (n + count) (take at out ++ row)) (sym before) ∙ take-append-add (take at out) row count
