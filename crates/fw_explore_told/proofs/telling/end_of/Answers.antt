use Rattle.std.proofs.Common.{◌≤◌, arith, subst}
use Rattle.std.specs.List.{All}
use Rattle.std.proofs.lemmas.List.{take_all}
use Rattle.fw_explore_told.specs.Sayings.{IsNotOf}
use Rattle.fw_explore_told.proofs.EndLaws.{none_more}
use Rattle.fw_explore_told.proofs.telling.end_of.Goals as goal
use Rattle.fw_explore_told.proofs.telling.end_of.Goals.{then-end-after, else-end-after}

-- the end is the later of the two
later : (c : goal.Joined-end-after) → (c.if-end-after.end ≤ 63) × (c.loop-told.end ≤ c.if-end-after.end) × (c.after_told-after.result ≤ c.if-end-after.end)
later c =
    let few = c.loop-told.invariant.few in
    let most = c.after_told-after.ensures.few in
    elim c.if-end-after.branch [
      | then-end-after w ↦ let is = w.end-is in let low = w.if-end-after.true in (omega (arith, is, most), omega (arith, is, low), omega (arith, is))
      | else-end-after w ↦ let is = w.end-is in let high = w.if-end-after.false in (omega (arith, is, few), omega (arith, is), omega (arith, is, high))
    ]

pub loop-told-preserved : goal.loop-told-preserved
loop-told-preserved c =
    let l = later c in
    record {
      few = l.0;
      others = λ d from low.
          let before : c.loop-told.end ≤ d = let x = l.1 in omega (arith, from, x) in
          let own : c.after_told-after.result ≤ d = let x = l.2 in omega (arith, from, x) in
          none_more c.args.said.now c.loop-told.told-index d _ c.loop-told-test.true (c.loop-told.invariant.others d before low) (c.after_told-after.ensures.others d own low);
    }

pub returns-clause-others : goal.returns-clause-others
returns-clause-others c = λ d from low.
    let past = c.loop-told-test.false in
    subst (All (IsNotOf d)) (take_all c.loop-told.told-index c.args.said.now (omega (arith, past))) (c.loop-told.invariant.others d from low)
