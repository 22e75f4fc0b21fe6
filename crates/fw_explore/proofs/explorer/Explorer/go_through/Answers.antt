use Rattle.fw_explore.proofs.Common.{ℕ, ◌≡◌, List, refl, sym, ap, subst, ◌∙◌, length, arith, Entry, DeskRelations, Had, ArePlaced, IsGoing}
use Rattle.std.proofs.lemmas.List.Elements.{All-nil}
use Rattle.fw_explore_meaning.specs.Steps.{IsPlacedKey}
use Rattle.fw_explore.proofs.explorer.Explorer.go_through.Given as given
use Rattle.fw_explore.proofs.explorer.Explorer.go_through.Goals as goal

pub loop-place-init : goal.loop-place-init
loop-place-init g c =
    let self = c.args.self.now in
    record {
      level = refl;
      longest = refl;
      placed = c.requires.placed;
      next = subst (ArePlaced (Had self.walker.pasts) (g.P.Keeper.Kept self.walker.kept.places)) (sym c.requires.next) (All-nil (λ (e : Entry). IsPlacedKey (Had self.walker.pasts) (g.P.Keeper.Kept
          self.walker.kept.places) e.key));
      walks = λ script n only w. w;
    }

pub loop-place-preserved : goal.loop-place-preserved
loop-place-preserved g c =
    let i = c.loop-place.invariant in
    record {
      level = c.go_on.ensures.level ∙ i.level;
      longest = c.go_on.ensures.longest ∙ i.longest;
      placed = c.in_ok-go_on.ensures.placed;
      next = c.in_ok-go_on.ensures.next;
      walks = λ script n only w. c.in_ok-go_on.ensures.walks script n only (i.walks script n only w);
    }

pub returns-clause-walks : goal.returns-clause-walks
returns-clause-walks g c = λ script n only w.
    let D : DeskRelations = record { blocks = given.F-post g c.args.desk.now.blocks; vendor = given.H-post g c.args.desk.now.vendor } in
    let self = c.loop-place.self in
    let i = c.loop-place.invariant in
    let all : c.loop-place.place ≡ length self.levels.level = omega (arith, ap length i.level) in
    subst (λ k. IsGoing D script c.args.explored.now self.walker.pasts (g.P.Keeper.Kept self.walker.kept.places) n k self.levels self.rows) all (i.walks script n only w)
