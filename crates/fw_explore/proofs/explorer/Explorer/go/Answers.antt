use Rattle.fw_explore.proofs.Common.{ℕ, ◌≡◌, List, [], ◌∷◌, length, refl, sym, ap, subst, ◌∙◌, arith, Entry, DeskRelations, Had, ArePlaced}
use Rattle.std.proofs.Common.{zero, suc}
use Rattle.fw_explore_meaning.specs.Pasts.{LeadsTo}
use Rattle.fw_explore_meaning.proofs.GoLaws.{other_longest, first_level, next_level, whole_level}
use Rattle.fw_explore.proofs.explorer.Explorer.go.Given as given
use Rattle.fw_explore.proofs.explorer.Explorer.go.Goals as goal

none_left : (l : List Entry) → length l ≡ 0 → l ≡ []
none_left [] e = refl
none_left (x ∷ l) e = absurd (omega (arith, e))

pub loop-moves-init : goal.loop-moves-init
loop-moves-init g c =
    let D : DeskRelations = record { blocks = given.F-post g c.args.desk.now.blocks; vendor = given.H-post g c.args.desk.now.vendor } in
    let self = c.args.self.now in
    record {
      some = λ e. c.requires.some;
      next = c.requires.next;
      placed = c.requires.placed;
      walks = λ script only w. first_level D script c.args.explored.now self.walker.pasts (g.P.Keeper.Kept self.walker.kept.places) self.levels self.rows w;
    }

pub loop-moves-preserved : goal.loop-moves-preserved
loop-moves-preserved g c =
    let D : DeskRelations = record { blocks = given.F-post g c.args.desk.now.blocks; vendor = given.H-post g c.args.desk.now.vendor } in
    let x = c.args.explored.now in
    let i = c.loop-moves.invariant in
    let self = c.loop-moves.self in
    let K = g.P.Keeper.Kept self.walker.kept.places in
    let next = c.go_through.new.self in
    let K2 = g.P.Keeper.Kept next.walker.kept.places in
    let turned = c.turn.new.self in
    let t = c.in_ok-turn.ensures.ok in
    record {
      some = λ e. absurd (omega (arith, e));
      next = t.1;
      placed = subst (ArePlaced (Had next.walker.pasts) K2) (sym t.0) c.in_ok-go_through.ensures.next;
      walks = λ script only w.
          let l = i.walks script only w in
          let P = LeadsTo D script x (Had self.walker.pasts) K in
          next_level D script x self.walker.pasts K next.walker.pasts K2 c.loop-moves.moves self.levels next.levels turned self.rows next.rows l (omega arith)
          (c.in_ok-go_through.ensures.walks script c.loop-moves.moves only (other_longest D script x P P c.loop-moves.moves 0 0 c.loop-moves.moves self.levels self.rows l.walks))
          c.go_through.ensures.longest t.0 t.1;
    }

pub returns-then-len-eq0 : goal.returns-then-len-eq0
returns-then-len-eq0 g c =
    let D : DeskRelations = record { blocks = given.F-post g c.args.desk.now.blocks; vendor = given.H-post g c.args.desk.now.vendor } in
    let i = c.loop-moves.invariant in
    let self = c.loop-moves.self in
    let size : length self.levels.level ≡ 0 = sym c.len.ensures ∙ c.if-len-eq0.true in
    record {
      whole = λ script only w. whole_level D script c.args.explored.now self.walker.pasts (g.P.Keeper.Kept self.walker.kept.places) c.loop-moves.moves self.levels self.rows (i.walks script only w)
          (none_left self.levels.level size) (λ first. let some = i.some first in absurd (omega (arith, some, size)));
    }
