use Rattle.std.proofs.Common.{◌≡◌, ◌<◌, ◌+◌, ◌-◌, [], ◌∷◌, ◌++◌, length, get_or, reverse, sym, ap, subst, ◌∙◌, append_assoc, arith}
use Rattle.std.proofs.lemmas.List.{reverse-append}
use Rattle.fw_explore_levels.specs.Steps.{paths_of}
use Rattle.fw_explore_levels.proofs.StepLaws.{length-paths, paths_stay, path_at}
use Rattle.fw_explore_levels.proofs.steps.Steps.path.Goals as goal

pub index-last-requires : goal.index-last-requires
index-last-requires c =
    let steps = c.self.inside.list.items in
    omega (arith, c.loop-at.invariant.0, c.loop-at-test.true, c.self.inside.list.ok.0, length-paths ([] ∷ []) steps)

pub loop-at-smaller : goal.loop-at-smaller
loop-at-smaller c =
    let steps = c.self.inside.list.items in
    let last = c.index-last.result.now in
    let inside : c.loop-at.at - 1 < length steps = omega (arith, c.loop-at.invariant.0, c.loop-at-test.true, length-paths ([] ∷ []) steps) in
    let before : last.before < c.loop-at.at - 1 + 1 = subst (λ x. x.before < c.loop-at.at - 1 + 1) (sym c.index-last.ensures) (c.self.invariant (c.loop-at.at - 1) last inside) in
    omega (arith, before, c.loop-at-test.true)

pub loop-at-preserved : goal.loop-at-preserved
loop-at-preserved c =
    let steps = c.self.inside.list.items in
    let last = c.index-last.result.now in
    let at = c.loop-at.at in
    let inside : at - 1 < length steps = omega (arith, c.loop-at.invariant.0, c.loop-at-test.true, length-paths ([] ∷ []) steps) in
    let before : last.before < at - 1 + 1 = subst (λ x. x.before < at - 1 + 1) (sym c.index-last.ensures) (c.self.invariant (at - 1) last inside) in
    let one : at ≡ at - 1 + 1 = omega (arith, c.loop-at-test.true) in
    let path : get_or (paths_of steps) at [] ≡ get_or (paths_of steps) last.before [] ++ last.mover ∷ [] =
    subst (λ x. get_or (paths_of steps) at [] ≡ get_or (paths_of steps) x.before [] ++ x.mover ∷ []) (sym c.index-last.ensures) (path_at steps (at - 1) at last c.self.invariant inside one) in (
      omega (arith, before, c.loop-at.invariant.0, one),
      c.loop-at.invariant.1 ∙ ap (λ v. v ++ reverse c.loop-at.moves.items) path ∙ append_assoc (get_or (paths_of steps) last.before []) (last.mover ∷ []) (reverse c.loop-at.moves.items)
          ∙ ap (λ v. get_or (paths_of steps) last.before [] ++ v) (sym (reverse-append c.loop-at.moves.items (last.mover ∷ [])) ∙ ap reverse (sym c.in_ok-push.ensures.items)),
    )

pub returns : goal.returns
returns c =
    let steps = c.self.inside.list.items in
    let none : c.loop-at.at ≡ 0 = omega (arith, c.loop-at-test.false) in
    c.reverse.ensures.items
    ∙ ap (λ v. v ++ reverse c.loop-at.moves.items) (sym (paths_stay ([] ∷ []) steps 0 [] (omega arith)) ∙ ap (λ k. get_or (paths_of steps) k []) (sym none))
    ∙ sym c.loop-at.invariant.1 ∙ ap (λ v. get_or v c.args.step []) c.self.view_is
