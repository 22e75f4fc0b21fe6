use Rattle.fw_holders.proofs.Common.{◌++◌, codes}
use Rattle.fw_audit.specs.Unjudged.{unjudged_text}
use Rattle.fw_holders_text.specs.Names.{count_text}
use Rattle.fw_holders.specs.Table.{amount_text, if_unjudged, judged_line}
use Rattle.fw_holders.proofs.TextLaws.{both_put, then_put}
use Rattle.fw_holders.proofs.table.put_judged.Goals as goal

pub returns : goal.returns
unfolding judged_line
returns c =
    let before = c.args.text.now.items in
    let judged = codes "judged " ++ amount_text c.args.judged.now in
    let resets = count_text c.args.judged.now.resets (codes "bus reset") in
    let amount = both_put before c.put_word.new.text.items c.put_amount.new.text.items (codes "judged ") (amount_text c.args.judged.now) c.in_ok-put_word.ensures c.in_ok-put_amount.ensures in
    let within = both_put before c.put_amount.new.text.items c.put_word-2.new.text.items judged (codes " in ") amount c.in_ok-put_word-2.ensures in
    let counted = both_put before c.put_word-2.new.text.items c.put_count.new.text.items (judged ++ codes " in ") resets within c.in_ok-put_count.ensures in
    let others = both_put before c.put_count.new.text.items c.put_unjudged.new.text.items (judged ++ codes " in " ++ resets) (unjudged_text c.args.unjudged) counted c.in_ok-put_unjudged.ensures in
    let hint = both_put before c.put_unjudged.new.text.items c.put_if_unjudged.new.text.items (judged ++ codes " in " ++ resets ++ unjudged_text c.args.unjudged)
    (if_unjudged c.args.unjudged (codes ": see watch")) others c.in_ok-put_if_unjudged.ensures in
    then_put c.put_word-3.result before c.put_if_unjudged.new.text.items c.put_word-3.new.text.items
    (judged ++ codes " in " ++ resets ++ unjudged_text c.args.unjudged ++ if_unjudged c.args.unjudged (codes ": see watch")) (codes "\n") hint c.put_word-3.ensures
