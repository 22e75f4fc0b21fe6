use Rattle.fw_holders.proofs.Common.{◌≡◌, ◌++◌, ◌∙◌, ap, subst, List, ℕ, Bool, OnOk, codes, decimal, NodeRow, nodes_of, right, rest_of_line, line}
use Rattle.std.proofs.Common.{append_assoc}
use Rattle.fw_model_account.specs.Account.{remainder}
use Rattle.fw_holders_text.specs.Deeds.{done_text}
use Rattle.fw_holders_text.specs.Names.{left}
use Rattle.fw_holders.specs.Held.{held_text}
use Rattle.fw_holders.proofs.HoldingLaws.{nodes_shown}
use Rattle.fw_holders.proofs.TextLaws.{both_put, then_put, five_put}
use Rattle.fw_holders.proofs.lines.put_new_line.Goals as goal

pub returns-clause-text : goal.returns-clause-text
unfolding line rest_of_line
returns-clause-text c = λ k h.
    let t = c.args.tables.now in
    let old : List ℕ = c.args.text.now.items in
    let cycle : List ℕ = right 8 (decimal c.args.cycle) ++ codes " " in
    let a : List ℕ = left 40 (done_text (nodes_of k.latest) k.reclaiming c.args.controller c.args.deed) ++ codes " " in
    let units : List ℕ = right 4 (decimal (remainder k)) in
    let nodes : c.put_cycle.new.self ≡ nodes_of k.latest = c.put_cycle.ensures.same ∙ c.requires.nodes ∙ nodes_shown t k h in
    let done : c.put_done.new.text.items ≡ c.put_cycle.new.text.items ++ a =
    c.in_ok-put_done.ensures.text
    ∙ ap (λ (ns : List NodeRow). c.put_cycle.new.text.items ++ (left 40 (done_text ns t.reclaiming c.args.controller c.args.deed) ++ codes " ")) nodes
    ∙ ap (λ (b : Bool). c.put_cycle.new.text.items ++ (left 40 (done_text (nodes_of k.latest) b c.args.controller c.args.deed) ++ codes " ")) h.second.runs in
    let told : c.put_done.new.text.items ≡ old ++ (cycle ++ a) = both_put old c.put_cycle.new.text.items c.put_done.new.text.items cycle a c.in_ok-put_cycle.ensures.text done in
    let rest : List ℕ = units ++ codes " left" ++ held_text k ++ codes "\n" in
    let all : (cycle ++ a) ++ rest ≡ cycle ++ (a ++ units ++ codes " left" ++ held_text k ++ codes "\n") =
    append_assoc cycle a rest ∙ ap (λ (x : List ℕ). cycle ++ x) (five_put a units (codes " left") (held_text k) (codes "\n")) in
    subst (λ (x : List ℕ). OnOk c.put_standing.result (c.put_standing.new.text.items ≡ old ++ x)) all
    (then_put c.put_standing.result old c.put_done.new.text.items c.put_standing.new.text.items (cycle ++ a) rest told (c.put_standing.ensures.text k h))
