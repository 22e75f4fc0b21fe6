use Rattle.fw_holders.proofs.Common.{◌≡◌, ◌++◌, OnOk, List, ℕ, codes, decimal, subst}
use Rattle.fw_holders_text.specs.Names.{plug_text}
use Rattle.fw_holders.specs.Table.{owners_text}
use Rattle.fw_holders.proofs.TextLaws.{both_put, then_put}
use Rattle.fw_holders.proofs.PlugLaws.{plug_line_is}
use Rattle.fw_holders.proofs.plugs.put_line.Goals as goal

pub returns : goal.returns
returns c = λ s h e is.
    let before : List ℕ = c.args.text.now.items in
    let nodes = c.args.nodes.now in
    let head : List ℕ = codes "plug " ++ plug_text nodes c.args.plug.0 c.args.plug.1 ++ codes ", channel " ++ decimal c.args.channel ++ codes ": " in
    let owners : List ℕ = owners_text nodes s in
    subst (λ (x : List ℕ). OnOk c.put_word.result (c.put_word.new.text.items ≡ before ++ x)) (plug_line_is nodes c.args.plug.0 c.args.plug.1 c.args.channel s is)
    (then_put c.put_word.result before c.put_owners.new.text.items c.put_word.new.text.items (head ++ owners) (codes "\n")
    (both_put before c.put_heading.new.text.items c.put_owners.new.text.items head owners c.in_ok-put_heading.ensures (c.in_ok-put_owners.ensures s h e)) c.put_word.ensures)
