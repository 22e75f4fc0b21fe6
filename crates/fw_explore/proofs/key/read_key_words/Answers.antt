use Rattle.fw_explore.proofs.Common.{◌≡◌, ◌≤◌, ◌-◌, ◌++◌, ◌∷◌, [], length, take, drop, get_or, arith}
use Rattle.std.proofs.Common.{append_assoc}
use Rattle.std.proofs.lemmas.Grind.{common_steps}
use Rattle.std.specs.Int.{w32, from_le_bytes}
use Rattle.fw_explore.proofs.KeyForms.{words_four}
use Rattle.fw_explore.proofs.key.read_key_words.Goals as goal

pub loop-rest-preserved : goal.loop-rest-preserved
loop-rest-preserved c =
    let rest = c.loop-rest.rest.now in
    let many : 16 ≤ length rest = omega (arith, c.in-len16-up.len_at_least) in
    let step = words_four rest many in
    let tail : take (length rest - 16) (drop 16 rest) ≡ drop 16 rest = grind (arith, common_steps) in
    let a : c.from_le_bytes-a.result ≡ from_le_bytes w32 (get_or rest 0 0 ∷ get_or rest 1 0 ∷ get_or rest 2 0 ∷ get_or rest 3 0 ∷ []) = grind (arith, common_steps) in
    let b : c.from_le_bytes-b.result ≡ from_le_bytes w32 (get_or rest 4 0 ∷ get_or rest 5 0 ∷ get_or rest 6 0 ∷ get_or rest 7 0 ∷ []) = grind (arith, common_steps) in
    let e : c.from_le_bytes-c.result ≡ from_le_bytes w32 (get_or rest 8 0 ∷ get_or rest 9 0 ∷ get_or rest 10 0 ∷ get_or rest 11 0 ∷ []) = grind (arith, common_steps) in
    let d : c.from_le_bytes-d.result ≡ from_le_bytes w32 (get_or rest 12 0 ∷ get_or rest 13 0 ∷ get_or rest 14 0 ∷ get_or rest 15 0 ∷ []) = grind (arith, common_steps) in
    let items : c.extend_from_slice.new.self.items ≡ c.loop-rest.out.items ++ (c.from_le_bytes-a.result ∷ c.from_le_bytes-b.result ∷ c.from_le_bytes-c.result ∷ c.from_le_bytes-d.result ∷ []) =
    grind (arith, common_steps) in
    let told = c.loop-rest.invariant in
    grind (arith, common_steps, append_assoc)
