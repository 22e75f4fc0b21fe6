use Rattle.std.proofs.Common.{◌≡◌, ◌<◌, [], ◌∷◌, ◌++◌, length, sym, ap, subst, ◌∙◌, arith}
use Rattle.std.specs.List.{All}
use Rattle.std.proofs.lemmas.List.Elements.{All-nil, All-push}
use Rattle.fw_explore_levels.specs.Spots.{Spotted}
use Rattle.fw_explore_levels.specs.Walked.{entries_of, HaveSteps}
use Rattle.fw_explore_levels.proofs.levels.Levels.new.Goals as goal

pub add-requires-clause-none : goal.add-requires-clause-none
add-requires-clause-none c = subst (All (λ s. s.key ≡ c.args.key.now → ⊥)) (sym c.in_ok-level.ensures) (All-nil (λ s. s.key ≡ c.args.key.now → ⊥))

pub invariant_of-result : goal.invariant_of-result
invariant_of-result c =
    let root : Spotted = record { key = c.args.key.now; ways = 1; step = 0 } in
    let have : HaveSteps ([] ∷ []) (root ∷ []) = All-push (λ s. s.step < 1) [] root (All-nil (λ s. s.step < 1)) (omega arith) in
    let level : c.add.new.self ≡ root ∷ [] = c.in_ok-add.ensures.ok ∙ ap (λ x. x ++ root ∷ []) c.in_ok-level.ensures in (
      subst (λ p. HaveSteps p c.add.new.self) (sym c.new-steps.ensures) (subst (HaveSteps ([] ∷ [])) (sym level) have),
      subst (HaveSteps c.new-steps.result) (sym c.in_ok-next.ensures) (All-nil (λ s. s.step < length c.new-steps.result)),
    )

pub returns-clause-level : goal.returns-clause-level
returns-clause-level c =
    let root : Spotted = record { key = c.args.key.now; ways = 1; step = 0 } in
    ap (λ p. entries_of p c.add.new.self) c.new-steps.ensures ∙ ap (entries_of ([] ∷ [])) (c.in_ok-add.ensures.ok ∙ ap (λ x. x ++ root ∷ []) c.in_ok-level.ensures)

pub returns-clause-next : goal.returns-clause-next
returns-clause-next c = ap (entries_of c.new-steps.result) c.in_ok-next.ensures
