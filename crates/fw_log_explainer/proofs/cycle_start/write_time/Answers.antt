use Rattle.std.proofs.Common.{List, ℕ, ◌++◌, ◌∙◌, ap, codes, decimal, take}
use Rattle.fw_text.specs.Texts.{hex}
use Rattle.fw_words.specs.Quadlet.{field}
use Rattle.fw_log_explainer.proofs.JoinLaws.{one_more}
use Rattle.fw_log_explainer.proofs.cycle_start.write_time.Goals as goal

pub returns-clause-text : goal.returns-clause-text
returns-clause-text c =
    let out : List ℕ = take c.args.at c.args.out.now in
    let time = c.args.time in
    let word : List ℕ = codes " cycle_start CYCLE_TIME " ++ hex 8 time in
    let seconds : List ℕ = codes ", second_count " ++ decimal (field time 0 6) in
    let cycles : List ℕ = codes ", cycle_count " ++ decimal (field time 7 19) in
    let digits = c.write_row-at-2.ensures.text ∙ ap (λ (l : List ℕ). take c.write_row-at.result c.write_row-at.new.out ++ l) c.eight.ensures in
    let second = c.write_field-at.ensures.text ∙ ap (λ (n : ℕ). take c.write_row-at-2.result c.write_row-at-2.new.out ++ (codes ", second_count " ++ decimal n)) c.field.ensures in
    let cycle = c.write_field-at-2.ensures.text ∙ ap (λ (n : ℕ). take c.write_field-at.result c.write_field-at.new.out ++ (codes ", cycle_count " ++ decimal n)) c.field-2.ensures in
    let offset = c.write_field.ensures.text ∙ ap (λ (n : ℕ). take c.write_field-at-2.result c.write_field-at-2.new.out ++ (codes ", cycle_offset " ++ decimal n)) c.field-3.ensures in
    one_more out (word ++ seconds ++ cycles) (codes ", cycle_offset " ++ decimal (field time 20 31)) _ _
    (one_more out (word ++ seconds) cycles _ _
    (one_more out word seconds _ _ (one_more out (codes " cycle_start CYCLE_TIME ") (hex 8 time) _ _ c.write_row-at.ensures.text digits) second)
    cycle)
    offset
