use Rattle.fw_holders.proofs.Common.{◌≡◌, ◌<◌, ◌++◌, ◌∙◌, ℕ, List, Option, ap, sym, arith, NodeRow, nodes_of}
use Rattle.fw_holders_text.specs.declared.holding.Holding.{Holding}
use Rattle.fw_holders.specs.Held.{holding, listed, with_holding, held_below}
use Rattle.fw_holders.proofs.HeldLaws.{none_held, next_held, none_between}
use Rattle.fw_holders.proofs.HoldingLaws.{nodes_shown, holding_shown}
use Rattle.fw_holders.proofs.ListedLaws.{none_listed}
use Rattle.fw_holders.proofs.held_line.pass_held.Goals as goal

pub loop-channel-init : goal.loop-channel-init
loop-channel-init c = record {
  room = omega (arith, c.requires.room);
  text = λ before l e h. e ∙ ap (λ (t : List ℕ). before ++ t) (sym none_listed ∙ ap (λ (t : List ℕ). listed t) (sym (none_held l)));
}

pub loop-channel-preserved : goal.loop-channel-preserved
loop-channel-preserved c = record {
  room = omega (arith, c.pass_channel.ensures.few, c.loop-channel.invariant.room);
  text = λ before l e h.
      let ch = c.loop-channel.channel in
      let told = held_below ch l in
      let nodes : c.args.texts.now ≡ nodes_of l.latest = c.requires.nodes ∙ nodes_shown c.args.tables.now l h in
      let below : ch < 64 = omega (arith, c.loop-channel-test.true, c.end_of_taken-channel-end.ensures.within) in
      c.pass_channel.ensures.text before told (c.loop-channel.invariant.text before l e h) c.if-not-pass_channel.false
      ∙ ap (λ (x : Option Holding). before ++ listed (with_holding c.args.texts.now ch x told)) (holding_shown c.args.tables.now l ch h c.requires.stopped below)
      ∙ ap (λ (ns : List NodeRow). before ++ listed (with_holding ns ch (holding l ch) told)) nodes
      ∙ ap (λ (t : List ℕ). before ++ listed t) (sym (next_held ch l));
}

pub returns : goal.returns
returns c = record {
  text = λ before l e h yes.
      let last : c.loop-channel.channel ≡ c.end_of_taken-channel-end.result = omega (arith, c.loop-channel-test.false, c.loop-channel.auto.channel-end) in
      c.loop-channel.invariant.text before l e h ∙ ap (λ (n : ℕ). before ++ listed (held_below n l)) last
      ∙ ap (λ (t : List ℕ). before ++ listed t)
      (sym (none_between c.end_of_taken-channel-end.result 64 l c.end_of_taken-channel-end.ensures.within
      (λ ch from within. c.end_of_taken-channel-end.ensures.free l ch h from within)));
}
