use Rattle.std.proofs.Common.{ℕ, ◌≡◌, ◌<◌, ◌+◌, List, [], ◌∷◌, ◌++◌, min, length, get_or, set, sym, ap, subst, ◌∙◌, arith}
use Rattle.std.proofs.lemmas.List.{length-map}
use Rattle.fw_explore_levels.specs.Counting.{most_told}
use Rattle.fw_explore_levels.specs.Spots.{Spotted}
use Rattle.fw_explore_levels.specs.Tables.{Entry, IsReached}
use Rattle.fw_explore_levels.specs.Walked.{entry_of, entries_of, HaveSteps}
use Rattle.fw_explore_levels.proofs.ResultLaws.{on_ok, on_err}
use Rattle.fw_explore_levels.proofs.EntryLaws.{no_place, entry_at, steps_stay, entries_stay, have_count, have_more, found_again, found_new}
use Rattle.fw_explore_levels.proofs.levels.Levels.reach.Goals as goal

-- a place of the level is one of its spots
place_in : (paths : List (List ℕ)) (spots : List Spotted) (level : List Entry) (place : ℕ) → place < length level → entries_of paths spots ≡ level → place < length spots
place_in paths spots level place h e = omega (arith, h, length-map spots (entry_of paths), ap length e)

-- and has its entry
entry_is : (paths : List (List ℕ)) (spots : List Spotted) (level : List Entry) (place : ℕ) (d : Entry) → place < length spots → entries_of paths spots ≡ level
    → entry_of paths (get_or spots place no_place) ≡ get_or level place d
entry_is paths spots level place d h e = sym (entry_at paths spots place no_place d h) ∙ ap (λ x. get_or x place d) e

pub ways-ways-requires : goal.ways-ways-requires
ways-ways-requires c = place_in c.self.inside.steps c.self.inside.level c.args.self.now.level c.args.place c.requires (ap (λ w. w.level) c.self.view_is)

pub reach-requires : goal.reach-requires
reach-requires c = c.in-Some.ensures.0

pub invariant_of-self : goal.invariant_of-self
invariant_of-self c = (
  c.self.invariant.0,
  subst (HaveSteps c.self.inside.steps) (sym (c.reach.ensures no_place)) (have_count c.self.inside.steps c.self.inside.next c.in-Some.there _ no_place c.in-Some.ensures.0 c.self.invariant.1),
)

pub returns-in-Some-clause-ok : goal.returns-in-Some-clause-ok
returns-in-Some-clause-ok c = λ d.
    let paths = c.self.inside.steps in
    let next = c.self.inside.next in
    let inside = place_in paths c.self.inside.level c.args.self.now.level c.args.place c.requires (ap (λ w. w.level) c.self.view_is) in
    let first = (get_or c.args.self.now.level c.args.place d).first ++ c.args.mover ∷ [] in
    let ways : c.ways-ways.result ≡ (get_or c.args.self.now.level c.args.place d).ways =
    c.ways-ways.ensures no_place ∙ ap (λ x. x.ways) (entry_is paths c.self.inside.level c.args.self.now.level c.args.place d inside (ap (λ w. w.level) c.self.view_is)) in
    subst (λ o. IsReached o (entries_of paths c.reach.new.self) c.args.key.now (get_or c.args.self.now.level c.args.place d).ways first) (ap (λ w. w.next) c.self.view_is)
    (subst (λ n. IsReached (entries_of paths next) (entries_of paths n) c.args.key.now (get_or c.args.self.now.level c.args.place d).ways first) (sym (c.reach.ensures no_place))
    (subst (λ w. IsReached (entries_of paths next) (entries_of paths (set next c.in-Some.there (record (get_or next c.in-Some.there no_place) {
      ways = min most_told
          ((get_or next c.in-Some.there no_place).ways + c.ways-ways.result);
    }))) c.args.key.now w first) ways
    (found_again paths next c.in-Some.there c.ways-ways.result no_place c.args.key.now first c.in-Some.ensures.0 (c.in-Some.ensures.1 no_place))))

pub returns-in-Some-clause-level : goal.returns-in-Some-clause-level
returns-in-Some-clause-level c = ap (λ w. w.level) c.self.view_is

pub step-requires : goal.step-requires
step-requires c = place_in c.self.inside.steps c.self.inside.level c.args.self.now.level c.args.place c.requires (ap (λ w. w.level) c.self.view_is)

pub add-requires : goal.add-requires
add-requires c =
    let inside = place_in c.self.inside.steps c.self.inside.level c.args.self.now.level c.args.place c.requires (ap (λ w. w.level) c.self.view_is) in
    omega (arith, c.step.ensures no_place, c.self.invariant.0 c.args.place no_place inside)

-- ---- the step was not kept

pub invariant_of-self-in_err-add : goal.invariant_of-self-in_err-add
invariant_of-self-in_err-add c = (
  subst (λ p. HaveSteps p c.self.inside.level) (sym c.in_err-add.ensures.err) c.self.invariant.0,
  subst (λ p. HaveSteps p c.self.inside.next) (sym c.in_err-add.ensures.err) c.self.invariant.1,
)

pub returns-in_err-add-clause-ok : goal.returns-in_err-add-clause-ok
returns-in_err-add-clause-ok c = on_ok c.from_residual.result _ c.from_residual.ensures.0

pub returns-in_err-add-clause-err : goal.returns-in_err-add-clause-err
returns-in_err-add-clause-err c = on_err c.from_residual.result _ (ap (λ p. entries_of p c.self.inside.next) c.in_err-add.ensures.err ∙ ap (λ w. w.next) c.self.view_is)

pub returns-in_err-add-clause-level : goal.returns-in_err-add-clause-level
returns-in_err-add-clause-level c = ap (λ p. entries_of p c.self.inside.level) c.in_err-add.ensures.err ∙ ap (λ w. w.level) c.self.view_is

-- ---- the place was not kept

pub add-requires-2-clause-none : goal.add-requires-2-clause-none
add-requires-2-clause-none c = c.in-None.ensures

pub invariant_of-self-in_err-add-2 : goal.invariant_of-self-in_err-add-2
invariant_of-self-in_err-add-2 c =
    let paths = c.self.inside.steps in
    let path = get_or paths c.step.result [] ++ c.args.mover ∷ [] in (
      subst (λ p. HaveSteps p c.self.inside.level) (sym c.in_ok-add.ensures.ok) (steps_stay paths (path ∷ []) c.self.inside.level c.self.invariant.0),
      subst (HaveSteps c.add.new.self) (sym c.in_err-add-2.ensures.err) (subst (λ p. HaveSteps p c.self.inside.next) (sym c.in_ok-add.ensures.ok) (steps_stay paths
          (path ∷ []) c.self.inside.next c.self.invariant.1)),
    )

pub returns-in_err-add-2-clause-ok : goal.returns-in_err-add-2-clause-ok
returns-in_err-add-2-clause-ok c = on_ok c.from_residual-in_err-add-2.result _ c.from_residual-in_err-add-2.ensures.0

pub returns-in_err-add-2-clause-err : goal.returns-in_err-add-2-clause-err
returns-in_err-add-2-clause-err c =
    let paths = c.self.inside.steps in
    let path = get_or paths c.step.result [] ++ c.args.mover ∷ [] in
    on_err c.from_residual-in_err-add-2.result _
    (ap (entries_of c.add.new.self) c.in_err-add-2.ensures.err ∙ ap (λ p. entries_of p c.self.inside.next) c.in_ok-add.ensures.ok
    ∙ entries_stay paths (path ∷ []) c.self.inside.next c.self.invariant.1 ∙ ap (λ w. w.next) c.self.view_is)

pub returns-in_err-add-2-clause-level : goal.returns-in_err-add-2-clause-level
returns-in_err-add-2-clause-level c =
    let paths = c.self.inside.steps in
    let path = get_or paths c.step.result [] ++ c.args.mover ∷ [] in
    ap (λ p. entries_of p c.self.inside.level) c.in_ok-add.ensures.ok ∙ entries_stay paths (path ∷ []) c.self.inside.level c.self.invariant.0 ∙ ap (λ w. w.level) c.self.view_is

-- ---- both were

pub invariant_of-self-2 : goal.invariant_of-self-2
invariant_of-self-2 c =
    let paths = c.self.inside.steps in
    let path = get_or paths c.step.result [] ++ c.args.mover ∷ [] in
    let s : Spotted = record { key = c.args.key.now; ways = c.ways-ways.result; step = c.len-step.result } in (
      subst (λ p. HaveSteps p c.self.inside.level) (sym c.in_ok-add.ensures.ok) (steps_stay paths (path ∷ []) c.self.inside.level c.self.invariant.0),
      subst (HaveSteps c.add.new.self) (sym c.in_ok-add-2.ensures.ok) (subst (λ p. HaveSteps p (c.self.inside.next ++ s ∷ [])) (sym c.in_ok-add.ensures.ok)
          (have_more paths path c.self.inside.next s c.len-step.ensures c.self.invariant.1)),
    )

pub returns-clause-ok : goal.returns-clause-ok
returns-clause-ok c = λ d.
    let paths = c.self.inside.steps in
    let next = c.self.inside.next in
    let path = get_or paths c.step.result [] ++ c.args.mover ∷ [] in
    let from = get_or c.args.self.now.level c.args.place d in
    let s : Spotted = record { key = c.args.key.now; ways = c.ways-ways.result; step = c.len-step.result } in
    let inside = place_in paths c.self.inside.level c.args.self.now.level c.args.place c.requires (ap (λ w. w.level) c.self.view_is) in
    let entry = entry_is paths c.self.inside.level c.args.self.now.level c.args.place d inside (ap (λ w. w.level) c.self.view_is) in
    let ways : c.ways-ways.result ≡ from.ways = c.ways-ways.ensures no_place ∙ ap (λ x. x.ways) entry in
    let first : path ≡ from.first ++ c.args.mover ∷ [] = ap (λ n. get_or paths n [] ++ c.args.mover ∷ []) (c.step.ensures no_place) ∙ ap (λ x. x.first ++ c.args.mover ∷ []) entry in
    subst (λ f. IsReached c.args.self.now.next (entries_of c.add.new.self c.add-2.new.self) c.args.key.now from.ways f) first
    (subst (λ w. IsReached c.args.self.now.next (entries_of c.add.new.self c.add-2.new.self) c.args.key.now w path) ways
    (subst (λ o. IsReached o (entries_of c.add.new.self c.add-2.new.self) c.args.key.now c.ways-ways.result path) (ap (λ w. w.next) c.self.view_is)
    (subst (λ n. IsReached (entries_of paths next) (entries_of c.add.new.self n) c.args.key.now c.ways-ways.result path) (sym c.in_ok-add-2.ensures.ok)
    (subst (λ p. IsReached (entries_of paths next) (entries_of p (next ++ s ∷ [])) c.args.key.now c.ways-ways.result path) (sym c.in_ok-add.ensures.ok)
    (found_new paths path next c.args.key.now c.ways-ways.result c.len-step.result c.len-step.ensures c.self.invariant.1 c.in-None.ensures)))))

pub returns-clause-level : goal.returns-clause-level
returns-clause-level c =
    let paths = c.self.inside.steps in
    let path = get_or paths c.step.result [] ++ c.args.mover ∷ [] in
    ap (λ p. entries_of p c.self.inside.level) c.in_ok-add.ensures.ok ∙ entries_stay paths (path ∷ []) c.self.inside.level c.self.invariant.0 ∙ ap (λ w. w.level) c.self.view_is
