use Rattle.fw_explore.proofs.Common.{refl, sym, ap, subst, ◌∙◌, arith, DeskRelations}
use Rattle.std.proofs.Common.{below_more}
use Rattle.std.proofs.lemmas.List.{get_or_read}
use Rattle.fw_explore_meaning.specs.Finishing.{Writes, WritesMore}
use Rattle.fw_explore_meaning.proofs.CutLaws.{cut_full, none_cut}
use Rattle.fw_explore.proofs.Numbers.{led_as, two_numbers}
use Rattle.fw_explore.proofs.step.Walker.is_cut.Given as given
use Rattle.fw_explore.proofs.step.Walker.is_cut.Goals as goal

pub loop-mover-init : goal.loop-mover-init
loop-mover-init g c = record { pasts = refl; places = refl; here = refl; none = λ script w only l p less. absurd (omega (arith, less)) }

pub loop-mover-preserved : goal.loop-mover-preserved
loop-mover-preserved g c =
    let D : DeskRelations = record { blocks = given.F-post g c.args.desk.now.blocks; vendor = given.H-post g c.args.desk.now.vendor } in
    let i = c.loop-mover.invariant in
    record {
      pasts = c.in_ok-would_write.ensures.pasts ∙ i.pasts;
      places = c.in_ok-would_write.ensures.places ∙ i.places;
      here = c.in_ok-would_write.ensures.here ∙ i.here;
      none = λ script w only l. below_more (λ p. WritesMore D script c.args.explored.now w p → ⊥) c.loop-mover.mover (i.none script w only l)
          (subst (Writes D script c.args.explored.now w c.loop-mover.mover) c.if-branch.false (c.in_ok-would_write.ensures.writes script w only
          (led_as g.P.Keeper.Kept D script c.args.explored.now w c.args.self.now.pasts c.loop-mover.self.pasts c.args.self.now.kept.places c.loop-mover.self.kept.places
          c.args.self.now.here.items c.loop-mover.self.here.items
          i.pasts i.places (ap (λ v. v.items) i.here) l)));
    }

pub returns-then-branch-clause-cut : goal.returns-then-branch-clause-cut
returns-then-branch-clause-cut g c script w only l =
    let D : DeskRelations = record { blocks = given.F-post g c.args.desk.now.blocks; vendor = given.H-post g c.args.desk.now.vendor } in
    let x = c.args.explored.now in
    let i = c.loop-mover.invariant in
    let two = two_numbers c.args.self.now.pasts (g.P.Keeper.Kept c.args.self.now.kept.places) c.args.self.now.here.items c.requires.here in
    let half = get_or_read c.args.self.now.here.items 1 c.index.result.now (omega (arith, two)) c.index.ensures 0 in
    cut_full D script x c.args.self.now.pasts (g.P.Keeper.Kept c.args.self.now.kept.places) w c.args.self.now.here.items l (sym half ∙ c.if-index-explored.false) c.loop-mover.mover
    (subst (Writes D script x w c.loop-mover.mover) c.if-branch.true (c.in_ok-would_write.ensures.writes script w only
    (led_as g.P.Keeper.Kept D script x w c.args.self.now.pasts c.loop-mover.self.pasts c.args.self.now.kept.places c.loop-mover.self.kept.places c.args.self.now.here.items
    c.loop-mover.self.here.items
    i.pasts i.places (ap (λ v. v.items) i.here) l)))

pub returns-clause-cut : goal.returns-clause-cut
returns-clause-cut g c script w only l =
    let D : DeskRelations = record { blocks = given.F-post g c.args.desk.now.blocks; vendor = given.H-post g c.args.desk.now.vendor } in
    let x = c.args.explored.now in
    let size = c.len-mover-end.ensures in
    let ok = x.movers.ok.0 in
    let end = c.loop-mover-test.false in
    none_cut D script x c.args.self.now.pasts (g.P.Keeper.Kept c.args.self.now.kept.places) w c.args.self.now.here.items l
    (λ p less. c.loop-mover.invariant.none script w only l p (omega (arith, less, size, ok, end)))
