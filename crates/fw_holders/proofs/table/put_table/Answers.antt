use Rattle.fw_holders.proofs.Common.{◌≡◌, ◌++◌, ◌∙◌, ap, List, ℕ, channel_lines, plug_lines}
use Rattle.fw_model_account.specs.Account.{remainder}
use Rattle.fw_holders.specs.Table.{left_line, judged_line, table_text}
use Rattle.fw_holders.proofs.TextLaws.{both_put, then_put}
use Rattle.fw_holders.proofs.table.put_table.Goals as goal

pub returns : goal.returns
unfolding table_text
returns c = λ l h.
    let before : List ℕ = c.args.text.now.items in
    let left : c.put_left.new.text.items ≡ c.put_plugs.new.text.items ++ left_line (remainder l) c.args.unjudged =
    c.in_ok-put_left.ensures ∙ ap (λ n. c.put_plugs.new.text.items ++ left_line n c.args.unjudged) h.resources.left in
    then_put c.put_judged.result before c.put_left.new.text.items c.put_judged.new.text.items (channel_lines 64 l ++ plug_lines 63 l ++ left_line (remainder l) c.args.unjudged) (judged_line c.args.judged.now c.args.unjudged)
    (both_put before c.put_plugs.new.text.items c.put_left.new.text.items (channel_lines 64 l ++ plug_lines 63 l) (left_line (remainder l) c.args.unjudged)
    (both_put before c.put_channels.new.text.items c.put_plugs.new.text.items (channel_lines 64 l) (plug_lines 63 l) (c.in_ok-put_channels.ensures l h) (c.in_ok-put_plugs.ensures l h)) left)
    c.put_judged.ensures
