use Rattle.fw_holders.proofs.Common.{◌≡◌, ◌∙◌, ◌+◌, ◌++◌, ℕ, List, Option, length, refl, ap, sym, arith, NodeRow, nodes_of}
use Rattle.std.proofs.Common.{◌-◌}
use Rattle.fw_holders_text.specs.declared.holding.Holding.{Holding}
use Rattle.fw_holders.specs.Held.{holding, listed, with_holding, held_below}
use Rattle.fw_holders.proofs.HeldLaws.{none_held, next_held, none_between}
use Rattle.fw_holders.proofs.HoldingLaws.{nodes_shown}
use Rattle.fw_holders.proofs.ListedLaws.{none_listed, cut_listed}
use Rattle.fw_holders.proofs.held.put_held.Goals as goal

pub loop-channel-init : goal.loop-channel-init
loop-channel-init c = record {
  within = c.next_taken-channel.ensures.within;
  same = refl;
  text = λ before l e h.
      e ∙ ap (λ (t : List ℕ). before ++ t)
      (sym none_listed ∙ ap (λ (t : List ℕ). listed t)
      (sym (none_held l) ∙ sym (none_between 0 c.next_taken-channel.result l (omega arith) (λ ch from below. c.next_taken-channel.ensures.free l ch h from below))));
}

pub loop-channel-preserved : goal.loop-channel-preserved
loop-channel-preserved c = record {
  within = c.next_taken-channel-in-loop-channel.ensures.within;
  same = c.put_channel.ensures.same ∙ c.loop-channel.invariant.same;
  text = λ before l e h.
      let ch = c.loop-channel.channel in
      let told = held_below ch l in
      let nodes : c.loop-channel.texts ≡ nodes_of l.latest = c.loop-channel.invariant.same ∙ c.requires.nodes ∙ nodes_shown c.args.tables.now l h in
      c.in_ok-put_channel.ensures.text before told (c.loop-channel.invariant.text before l e h)
      ∙ ap (λ (x : Option Holding). before ++ listed (with_holding c.loop-channel.texts ch x told)) (c.taken_on.ensures l h)
      ∙ ap (λ (ns : List NodeRow). before ++ listed (with_holding ns ch (holding l ch) told)) nodes
      ∙ ap (λ (t : List ℕ). before ++ listed t)
      (sym (next_held ch l) ∙ sym (none_between (ch + 1) c.next_taken-channel-in-loop-channel.result l c.next_taken-channel-in-loop-channel.ensures.after
      (λ k from below. c.next_taken-channel-in-loop-channel.ensures.free l k h from below)));
}

pub returns-clause-text : goal.returns-clause-text
returns-clause-text c = λ before l e h.
    let end : c.loop-channel.channel ≡ 64 = omega arith in
    let text = c.loop-channel.text in
    let size : c.saturating_sub.result ≡ length text.items - 2 = c.saturating_sub.ensures ∙ ap (λ (n : ℕ). n - 2) (c.len.ensures ∙ text.ok.0) in
    c.truncate.ensures.items ∙ cut_listed before (held_below c.loop-channel.channel l) text.items c.saturating_sub.result (c.loop-channel.invariant.text before l e h) size
    ∙ ap (λ (n : ℕ). before ++ held_below n l) end
