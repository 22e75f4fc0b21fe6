use Rattle.std.proofs.Common.{◌≡◌, ◌++◌, sym, subst, List, ℕ, OnOk, arith}
use Rattle.fw_watch_remarks.proofs.PlugLaws.{output_text, input_text}
use Rattle.fw_watch_remarks.proofs.register.put_at.Goals as goal

pub returns-in-Output : goal.returns-in-Output
returns-in-Output c =
    let r = c.put_plug_of_node in
    let P : List ℕ → Type 0 = λ l. OnOk r.result (r.new.text.items ≡ c.args.text.now.items ++ l) in
    subst P (sym (output_text c.args.at c.in-Output.number c.in-Output.is (omega (arith, c.if-number-lt10.true)))) r.ensures

pub returns-in-Input : goal.returns-in-Input
returns-in-Input c =
    let r = c.put_plug_of_node-in-Input in
    let P : List ℕ → Type 0 = λ l. OnOk r.result (r.new.text.items ≡ c.args.text.now.items ++ l) in
    subst P (sym (input_text c.args.at c.in-Input.number c.in-Input.is (omega (arith, c.if-number-lt10-2.true)))) r.ensures
