use Rattle.std.proofs.Common.{◌≡◌, ◌≤◌, ◌-◌, ◌++◌, ◌∷◌, [], length, take, drop, get_or, arith, ap, sym, ◌∙◌, append-nil, append_assoc}
use Rattle.std.proofs.lemmas.Grind.{common_steps}
use Rattle.std.specs.Int.{w32, from_le_bytes}
use Rattle.fw_kept_parts.proofs.WordLaws.{words_short, words_step}
use Rattle.fw_kept_parts.proofs.words.read_words.Goals as goal

pub loop-rest-preserved : goal.loop-rest-preserved
loop-rest-preserved c =
    let rest = c.loop-rest.rest.now in
    let four : 4 ≤ length rest = omega (arith, c.in-len4-up.len_at_least) in
    let step = words_step rest four in
    let tail : take (length rest - 4) (drop 4 rest) ≡ drop 4 rest = grind (arith, common_steps) in
    let value : c.from_le_bytes.result ≡ from_le_bytes w32 (get_or rest 0 0 ∷ get_or rest 1 0 ∷ get_or rest 2 0 ∷ get_or rest 3 0 ∷ []) = grind (arith, common_steps) in
    let items : c.push.new.self.items ≡ c.loop-rest.out.items ++ c.from_le_bytes.result ∷ [] = grind (arith, common_steps) in
    let told = c.loop-rest.invariant in
    grind (arith, common_steps, append_assoc)

pub returns : goal.returns
returns c =
    let out = c.loop-rest.out.items in
    let none = words_short c.loop-rest.rest.now (omega (arith, c.in_default.len_below)) in
    sym (append-nil out) ∙ ap (λ t. out ++ t) (sym none) ∙ c.loop-rest.invariant
