use Rattle.fw_explore.proofs.Common.{◌≡◌, ◌≤◌, ◌-◌, ◌++◌, ◌∷◌, [], length, take, drop, get_or, arith}
use Rattle.std.proofs.Common.{append_assoc}
use Rattle.std.proofs.lemmas.Grind.{common_steps}
use Rattle.fw_kept_parts.specs.Words.{bytes_of}
use Rattle.fw_explore.proofs.KeyForms.{put_four}
use Rattle.fw_explore.proofs.key.put_key_words.Goals as goal

pub loop-rest-preserved : goal.loop-rest-preserved
loop-rest-preserved c =
    let rest = c.loop-rest.rest.now in
    let four : 4 ≤ length rest = omega (arith, c.in-len4-up.len_at_least) in
    let step = put_four rest four in
    let tail : take (length rest - 4) (drop 4 rest) ≡ drop 4 rest = grind (arith, common_steps) in
    let value : c.four_words.result ≡ bytes_of (get_or rest 0 0 ∷ get_or rest 1 0 ∷ get_or rest 2 0 ∷ get_or rest 3 0 ∷ []) = c.four_words.ensures in
    let items : c.extend_from_slice.new.self.items ≡ c.loop-rest.out.items ++ c.four_words.result = grind (arith, common_steps) in
    let told = c.loop-rest.invariant in
    grind (arith, common_steps, append_assoc)
