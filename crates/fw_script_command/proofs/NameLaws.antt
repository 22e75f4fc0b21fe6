-- The bytes of a name, with zeros after them.
use Rattle.std.proofs.Common.{◌≡◌, ℕ, suc, ◌+◌, ◌-◌, ◌<◌, ◌≤◌, List, [], ◌∷◌, ◌++◌, length, get_or, take, replicate, arith, ap, sym, ◌∙◌, append_assoc, add-one}
use Rattle.std.proofs.Math.ListN.{set}
use Rattle.std.proofs.Math.Seq.{take-suc, set-append_seam}
use Rattle.std.proofs.lemmas.List.{length-take-le}
use Rattle.fw_script_command.specs.Names.{filled}

seam : (xs ys : List ℕ) (i a : ℕ) → length xs ≡ i → set (xs ++ 0 ∷ ys) i a ≡ xs ++ a ∷ ys
seam xs ys i a size = rw (← size) (set-append_seam xs 0 ys a)

-- a byte more
pub one_more : (w : List ℕ) (i : ℕ) → i < length w → length w ≤ 16 → set (filled (take i w)) i (get_or w i 0) ≡ filled (take (i + 1) w)
one_more w i low few =
    let size : length (take i w) ≡ i = length-take-le i w (omega arith) in
    let size_after : length (take (i + 1) w) ≡ i + 1 = length-take-le (i + 1) w (omega arith) in
    let zeros : 16 - i ≡ suc (16 - (i + 1)) = omega arith in
    let more : take (i + 1) w ≡ take i w ++ (get_or w i 0 ∷ []) = rw add-one (take-suc w i 0 low) in
    ap (λ n. set (take i w ++ replicate (16 - n) 0) i (get_or w i 0)) size
    ∙ (ap (λ n. set (take i w ++ replicate n 0) i (get_or w i 0)) zeros
    ∙ (seam (take i w) (replicate (16 - (i + 1)) 0) i (get_or w i 0) size
    ∙ (sym (append_assoc (take i w) (get_or w i 0 ∷ []) (replicate (16 - (i + 1)) 0))
    ∙ (ap (λ xs. xs ++ replicate (16 - (i + 1)) 0) (sym more)
    ∙ ap (λ n. take (i + 1) w ++ replicate (16 - n) 0) (sym size_after)))))
