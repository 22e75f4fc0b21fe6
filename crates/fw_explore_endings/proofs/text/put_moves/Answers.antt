use Rattle.std.proofs.Common.{◌+◌, ◌<◌, List, ℕ, ◌++◌, Option, true, false, get_or, drop, length, slice_get, refl, sym, ap, ◌∙◌, arith}
use Rattle.fw_explore_movers.specs.declared.mover.Mover.{Mover}
use Rattle.fw_explore_endings.specs.Texts.{run_text, moves_text}
use Rattle.fw_explore_endings.proofs.MovesLaws.{pending, pending_first, move_on, move_last, move_of_none, moves_end, mover_at, no_mover, next_move, goes_same}
use Rattle.fw_explore_endings.proofs.text.put_moves.Goals as goal
use Rattle.fw_explore_endings.proofs.text.put_moves.Goals.{in-Some+else-goes_on+in_ok-put_run, in_default}

pub loop-at-init : goal.loop-at-init
loop-at-init c = record {
  few = omega arith;
  text = ap (λ (l : List ℕ). c.args.out.now.items ++ l) (pending_first c.args.explored.now c.args.moves.now);
}

pub loop-at-preserved-then-goes_on : goal.loop-at-preserved-then-goes_on
loop-at-preserved-then-goes_on c =
    let x = c.args.explored.now in
    let w = c.args.moves.now in
    let p = get_or c.args.moves.now c.loop-at.at 0 in
    let m = c.in-Some.mover.now in
    let t = c.in-Some.ensures.lookup in
    let there = mover_at x.movers.items c.deref.result.now p c.from.result m c.deref.ensures.value c.from.ensures t.3.0 t.1 in
    let seen = c.copied.ensures ∙ next_move w (c.loop-at.at + 1) c.get-in-Some.result c.get-in-Some.ensures.lookup in
    let on = goes_same (slice_get x.movers.items p) m p (slice_get w (c.loop-at.at + 1)) c.copied.result true there seen c.if-goes_on.ensures in
    record {
      few = omega (arith, c.loop-at.invariant.few);
      text = move_on x w c.loop-at.at c.loop-at.count p c.loop-at.out.items (c.args.out.now.items ++ moves_text x w) (omega arith) refl c.loop-at.invariant.text on;
    }

pub loop-at-preserved : goal.loop-at-preserved
loop-at-preserved c =
    let x = c.args.explored.now in
    let v = c.args.moves.now in
    let p = get_or c.args.moves.now c.loop-at.at 0 in
    let out = c.loop-at.out.items in
    let all = c.args.out.now.items ++ moves_text x v in
    let within : c.loop-at.at < length c.args.moves.now = omega arith in
    record {
      few = omega arith;
      text = elim c.match-get.branch [
        | in-Some+else-goes_on+in_ok-put_run w ↦
            let m = w.in-Some.mover.now in
            let t = w.in-Some.ensures.lookup in
            let there = mover_at x.movers.items c.deref.result.now p c.from.result m c.deref.ensures.value c.from.ensures t.3.0 t.1 in
            let seen = w.copied.ensures ∙ next_move v (c.loop-at.at + 1) w.get-in-Some.result w.get-in-Some.ensures.lookup in
            let last = goes_same (slice_get x.movers.items p) m p (slice_get v (c.loop-at.at + 1)) w.copied.result false there seen w.if-goes_on.ensures in
            move_last x v c.loop-at.at c.loop-at.count p out all within refl c.loop-at.invariant.text c.match-get.out.items last
            (ap (λ v. v.items) w.out-is ∙ w.in_ok-put_run.ensures ∙ ap (λ (o : Option Mover). out ++ run_text o (c.loop-at.count + 1)) (sym there))
        | in_default w ↦
            let none = no_mover x.movers.items c.deref.result.now p c.from.result c.deref.ensures.value c.from.ensures w.in_default.ensures.lookup.3 in
            ap (λ (l : List ℕ). l ++ pending x 0 (drop (c.loop-at.at + 1) v)) (ap (λ v. v.items) w.out-is)
            ∙ move_of_none x v c.loop-at.at c.loop-at.count p out all within refl c.loop-at.invariant.text none
      ];
    }

pub returns : goal.returns
returns c =
    moves_end c.args.explored.now c.args.moves.now c.loop-at.at c.loop-at.count c.loop-at.out.items (c.args.out.now.items ++ moves_text c.args.explored.now c.args.moves.now) (omega arith)
    c.loop-at.invariant.text
