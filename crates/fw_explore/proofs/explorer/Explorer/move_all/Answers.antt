use Rattle.fw_explore.proofs.Common.{ℕ, ◌≡◌, ◌∷◌, [], ◌++◌, List, Bool, true, false, get_or, length, refl, sym, ap, subst, ◌∙◌, arith, Entry, DeskRelations, IsFunction, Had}
use Rattle.fw_script_command.specs.declared.command.Command.{Command as Line}
use Rattle.fw_explore_levels.specs.Tables.{IsReached}
use Rattle.fw_explore_meaning.specs.Pasts.{LeadsAt}
use Rattle.fw_explore_meaning.specs.Steps.{Steps}
use Rattle.fw_explore_meaning.specs.Walking.{IsMoving}
use Rattle.fw_explore_meaning.proofs.TryLaws.{IsTrying, at_still, place_wider, trying_first, trying_on, trying_by}
use Rattle.fw_explore.proofs.explorer.Explorer.move_all.Given as given
use Rattle.fw_explore.proofs.explorer.Explorer.move_all.Goals as goal
use Rattle.fw_explore.proofs.explorer.Explorer.move_all.Goals.{then-branch+in_ok-reach, else-branch}

pub loop-mover-init : goal.loop-mover-init
loop-mover-init g c =
    let D : DeskRelations = record { blocks = given.F-post g c.args.desk.now.blocks; vendor = given.H-post g c.args.desk.now.vendor } in
    let self = c.args.self.now in
    record {
      here = refl;
      rows = refl;
      trying = trying_first g.P.Keeper.Kept D c.args.explored.now c.args.place self.walker.pasts self.walker.kept.places self.levels self.rows self.walker.here.items c.requires.place c.requires.here
          c.requires.next;
    }

pub step_to-requires-clause-here : goal.step_to-requires-clause-here
step_to-requires-clause-here g c =
    let w = c.args.self.now.walker in
    let v = c.loop-mover.self.walker in
    let same : v.here.items ≡ w.here.items = cc (c.loop-mover.invariant.here) in
    place_wider (Had w.pasts) (Had v.pasts) (g.P.Keeper.Kept w.kept.places) (g.P.Keeper.Kept v.kept.places) w.here.items v.here.items c.loop-mover.invariant.trying.wider same c.requires.placed

pub loop-mover-preserved : goal.loop-mover-preserved
loop-mover-preserved g c =
    let D : DeskRelations = record { blocks = given.F-post g c.args.desk.now.blocks; vendor = given.H-post g c.args.desk.now.vendor } in
    let x = c.args.explored.now in
    let self = c.args.self.now in
    let now = c.loop-mover.self in
    let next = c.step_to.new.self in
    let i = c.loop-mover.invariant in
    let said = c.in_ok-step_to.ensures in
    let to = next.key.items in
    let same : now.walker.here.items ≡ self.walker.here.items = cc (i.here) in
    let steps : (b : Bool) → c.in_ok-step_to.field-0 ≡ b → (script : List Line) (w : List ℕ) → IsFunction D
    → LeadsAt D script x (Had now.walker.pasts) (g.P.Keeper.Kept now.walker.kept.places) w self.walker.here.items
    → Steps D script x (Had next.pasts) (g.P.Keeper.Kept next.kept.places) w c.loop-mover.mover to b =
    λ b e script w only l. subst (λ b. Steps D script x (Had next.pasts) (g.P.Keeper.Kept next.kept.places) w c.loop-mover.mover to b) e
    (said.steps script w only
    (at_still g.P.Keeper.Kept D script x now.walker.pasts now.walker.pasts now.walker.kept.places now.walker.kept.places self.walker.here.items now.walker.here.items w refl refl same
    l)) in
    elim c.if-branch.branch [
      | then-branch+in_ok-reach w ↦ rw (w.self-is, w.moved-is) (record {
        here = said.here ∙ i.here;
        rows = i.rows;
        trying = trying_on g.P.Keeper.Kept D x c.args.place self.walker.pasts self.walker.kept.places self.levels self.rows self.walker.here.items c.requires.place c.requires.here c.loop-mover.mover
            now.walker.pasts next.pasts
            now.walker.kept.places next.kept.places now.levels now.rows c.loop-mover.moved i.trying to said.wider (steps true w.if-branch.true) (said.placed w.if-branch.true) w.reach.new.self
            w.reach.ensures.level
            (λ d. subst (λ k. IsReached now.levels.next w.reach.new.self.next k (get_or now.levels.level c.args.place d).ways ((get_or now.levels.level c.args.place d).first ++ c.loop-mover.mover ∷
            []))
            w.as_slice.ensures.value (w.in_ok-reach.ensures.ok d));
      })
      | else-branch w ↦ rw (w.self-is, w.moved-is) (record {
        here = said.here ∙ i.here;
        rows = i.rows;
        trying = trying_by g.P.Keeper.Kept D x c.args.place self.walker.pasts self.walker.kept.places self.levels self.rows self.walker.here.items c.requires.place c.requires.here c.loop-mover.mover
            now.walker.pasts next.pasts
            now.walker.kept.places next.kept.places now.levels now.rows c.loop-mover.moved i.trying to said.wider (steps false w.if-branch.false) (said.still w.if-branch.false);
      })
    ]

pub returns-clause-walks : goal.returns-clause-walks
returns-clause-walks g c = λ script n d only going.
    let D : DeskRelations = record { blocks = given.F-post g c.args.desk.now.blocks; vendor = given.H-post g c.args.desk.now.vendor } in
    let x = c.args.explored.now in
    let self = c.args.self.now in
    let now = c.loop-mover.self in
    let all : c.loop-mover.mover ≡ length x.movers.items = omega arith in
    subst (λ p. IsMoving D script x self.walker.pasts now.walker.pasts (g.P.Keeper.Kept self.walker.kept.places) (g.P.Keeper.Kept now.walker.kept.places) n c.args.place p
    (get_or self.levels.level c.args.place
    d).key
    c.loop-mover.moved now.levels now.rows) all (c.loop-mover.invariant.trying.walks script n d only going)
