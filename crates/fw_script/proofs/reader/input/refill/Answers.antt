use Rattle.std.proofs.Common.{◌≡◌, ℕ, ◌++◌, List, length, take, drop, ap, ◌∙◌}
use Rattle.fw_script.proofs.LineLaws.{kept_text, kept_rest}
use Rattle.fw_script.proofs.reader.input.refill.Goals as goal

pub returns-clause-text : goal.returns-clause-text
returns-clause-text c =
    let first : c.put.new.bytes.items ≡ c.args.text.now = c.put.ensures.items ∙ ap (λ (l : List ℕ). l ++ c.args.text.now) c.clear.ensures.items in
    let all = c.put-3.ensures.items ∙ ap (λ (l : List ℕ). l ++ c.args.piece.now) (c.put-2.ensures.items ∙ ap (λ (l : List ℕ). l ++ c.args.prefix.now) first) in
    ap (λ (l : List ℕ). take (length c.args.text.now) l) all ∙ kept_text c.args.text.now c.args.prefix.now c.args.piece.now

pub returns-clause-rest : goal.returns-clause-rest
returns-clause-rest c =
    let first : c.put.new.bytes.items ≡ c.args.text.now = c.put.ensures.items ∙ ap (λ (l : List ℕ). l ++ c.args.text.now) c.clear.ensures.items in
    let all = c.put-3.ensures.items ∙ ap (λ (l : List ℕ). l ++ c.args.piece.now) (c.put-2.ensures.items ∙ ap (λ (l : List ℕ). l ++ c.args.prefix.now) first) in
    ap (λ (l : List ℕ). drop (length c.args.text.now) l) all ∙ kept_rest c.args.text.now c.args.prefix.now c.args.piece.now
