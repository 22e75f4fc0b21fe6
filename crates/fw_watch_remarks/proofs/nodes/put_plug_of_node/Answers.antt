use Rattle.std.proofs.Common.{◌≡◌, ◌++◌, ◌∙◌, ap, sym, subst, List, ℕ, OnOk, decimal, arith}
use Rattle.fw_watch_remarks.proofs.PlugLaws.{appended, to_node, with_node}
use Rattle.fw_watch_remarks.proofs.TextLaws.{two}
use Rattle.fw_watch_remarks.proofs.nodes.put_plug_of_node.Goals as goal

pub returns-then-node-lt10 : goal.returns-then-node-lt10
returns-then-node-lt10 c =
    let P : ℕ → Type 0 = λ n. OnOk c.put_number.result (c.put_number.new.text.items ≡ c.extend_from_slice.new.self.items ++ decimal n) in
    two c.put_number.result _ _ _ _ _ (subst P c.from.ensures c.put_number.ensures)
    (c.in_ok-extend_from_slice.ensures.items ∙ ap (λ (l : List ℕ). c.args.text.now.items ++ l) (sym (to_node c.args.letter c.args.number c.requires)))

pub returns : goal.returns
returns c =
    let P : List ℕ → Type 0 = λ l. OnOk c.extend_from_slice-2.result (c.extend_from_slice-2.new.self.items ≡ c.args.text.now.items ++ l) in
    subst P (sym (with_node c.args.letter c.args.number c.args.node c.requires (omega (arith, c.if-node-lt10.false)) (omega (arith, c.if-node-ge100.false))))
    (appended c.extend_from_slice-2.result _ _ _ c.extend_from_slice-2.ensures.items)
