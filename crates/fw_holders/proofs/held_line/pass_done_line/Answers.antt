use Rattle.fw_holders.proofs.Common.{◌≡◌, ◌++◌, ◌∙◌, List, [], ℕ, Bool, ap, sym, refl, arith, codes, decimal, length, NodeRow, nodes_of, right, rest_of_line, line}
use Rattle.std.proofs.Common.{◌-◌, append_assoc}
use Rattle.fw_model_account.specs.Account.{remainder}
use Rattle.fw_holders_text.specs.Deeds.{done_text}
use Rattle.fw_holders_text.specs.Names.{left}
use Rattle.fw_holders.specs.Held.{held_text}
use Rattle.fw_holders.proofs.HoldingLaws.{nodes_shown}
use Rattle.fw_holders.proofs.ListedLaws.{cut_listed, some_listed}
use Rattle.fw_holders.proofs.TextLaws.{line_put}
use Rattle.fw_holders.proofs.held_line.pass_done_line.Goals as goal

-- what stands before the channels
begun : (a w u r0 r1 r2 r3 : List ℕ) → r0 ≡ [] → r1 ≡ r0 ++ a → r2 ≡ r1 ++ w → r3 ≡ r2 ++ (u ++ codes " left: ") → r3 ≡ (a ++ w ++ (u ++ codes " left")) ++ codes ": "
begun a w u r0 r1 r2 r3 e0 e1 e2 e3 =
    let first : r1 ≡ a = e1 ∙ ap (λ (t : List ℕ). t ++ a) e0 in
    let second : r2 ≡ a ++ w = e2 ∙ ap (λ (t : List ℕ). t ++ w) first in
    e3 ∙ ap (λ (t : List ℕ). t ++ (u ++ codes " left: ")) second ∙ ap (λ (t : List ℕ). (a ++ w) ++ t) (sym (append_assoc u (codes " left") (codes ": ")))
    ∙ sym (append_assoc (a ++ w) (u ++ codes " left") (codes ": "))

pub end-requires : goal.end-requires
end-requires c = record {
  some =
      let l = c.requires.stands.0 in
      let h = c.requires.stands.1 in
      let before = begun _ _ _ c.clear.new.self c.put.new.self c.put-2.new.self c.put-3.new.self c.clear.ensures (c.put.ensures.text ∙ ap (λ (t : List ℕ). c.clear.new.self ++ t) c.in-Some.ensures)
      (c.put-2.ensures.text ∙ ap (λ (t : List ℕ). c.put.new.self ++ t) c.in-Some-done_row.ensures) (c.put-3.ensures.text ∙ ap (λ (t : List ℕ). c.put-2.new.self ++ t) c.in-Some-left_row.ensures) in
      let told = c.pass_held.ensures.text _ l before h c.if-not-pass_held.false in
      omega (arith, some_listed _ (held_text l) c.pass_held.new.line told);
}

pub returns : goal.returns
unfolding line rest_of_line
returns c = λ k h yes.
    let t = c.args.tables.now in
    let a : List ℕ = right 8 (decimal c.args.cycle) ++ codes " " in
    let w : List ℕ = left 40 (done_text (nodes_of k.latest) k.reclaiming c.args.controller c.args.deed) ++ codes " " in
    let u : List ℕ = right 4 (decimal (remainder k)) in
    let nodes : c.args.texts.now ≡ nodes_of k.latest = c.requires.nodes ∙ nodes_shown t k h in
    let what = c.in-Some-done_row.ensures ∙ ap (λ (ns : List NodeRow). left 40 (done_text ns t.reclaiming c.args.controller c.args.deed) ++ codes " ") nodes
    ∙ ap (λ (b : Bool). left 40 (done_text (nodes_of k.latest) b c.args.controller c.args.deed) ++ codes " ") h.second.runs in
    let units = c.in-Some-left_row.ensures ∙ ap (λ (n : ℕ). right 4 (decimal n) ++ codes " left: ") (c.from.ensures ∙ h.resources.left) in
    let before = begun a w u c.clear.new.self c.put.new.self c.put-2.new.self c.put-3.new.self c.clear.ensures (c.put.ensures.text ∙ ap (λ (x : List ℕ). c.clear.new.self ++ x) c.in-Some.ensures)
    (c.put-2.ensures.text ∙ ap (λ (x : List ℕ). c.put.new.self ++ x) what) (c.put-3.ensures.text ∙ ap (λ (x : List ℕ). c.put-2.new.self ++ x) units) in
    let told = c.pass_held.ensures.text (a ++ w ++ (u ++ codes " left")) k before h c.if-not-pass_held.false in
    c.end.ensures
    ∙ ap (λ (x : List ℕ). x ++ codes "\n") (cut_listed (a ++ w ++ (u ++ codes " left")) (held_text k) c.pass_held.new.line (length c.pass_held.new.line - 2) told refl)
    ∙ line_put a w u (codes " left") (held_text k) (codes "\n")
