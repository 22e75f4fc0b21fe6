use Rattle.std.proofs.Common.{◌≡◌, ◌++◌, ◌∙◌, sym, subst, true, false, List, ℕ, OnOk}
use Rattle.fw_watch_remarks.specs.Knowing.{is_connected}
use Rattle.fw_watch_remarks.proofs.TextLaws.{two, plug_disconnects, plug_connects}
use Rattle.fw_watch_remarks.proofs.texts.put_plug.Goals as goal

pub returns-in_ok-put_done-2 : goal.returns-in_ok-put_done-2
returns-in_ok-put_done-2 c =
    let was : is_connected c.args.old ≡ true = sym c.is_connected.ensures ∙ c.if-is_connected.true in
    let is : is_connected c.args.new ≡ false = sym c.is_connected-then-is_connected.ensures ∙ c.if-is_connected-2.false in
    let P : List ℕ → Type 0 = λ l. OnOk c.put_field.result (c.put_field.new.text.items ≡ c.args.text.now.items ++ l) in
    subst P (sym (plug_disconnects c.args.by c.args.at c.args.old c.args.new was is))
    (two c.put_field.result _ _ _ _ _ c.put_field.ensures c.in_ok-put_done-2.ensures)

pub returns-in_ok-put_done-3 : goal.returns-in_ok-put_done-3
returns-in_ok-put_done-3 c =
    let was : is_connected c.args.old ≡ false = sym c.is_connected.ensures ∙ c.if-is_connected.false in
    let is : is_connected c.args.new ≡ true = sym c.is_connected-else-is_connected.ensures ∙ c.if-is_connected-3.true in
    let r = c.put_field-then-is_connected-3 in
    let P : List ℕ → Type 0 = λ l. OnOk r.result (r.new.text.items ≡ c.args.text.now.items ++ l) in
    subst P (sym (plug_connects c.args.by c.args.at c.args.old c.args.new was is))
    (two r.result _ _ _ _ _ r.ensures c.in_ok-put_done-3.ensures)
