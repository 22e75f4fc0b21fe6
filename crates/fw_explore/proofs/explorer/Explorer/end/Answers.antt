use Rattle.fw_explore.proofs.Common.{ℕ, ◌≡◌, List, Bool, true, false, refl, sym, ap, subst, ◌∙◌, arith, DeskRelations}
use Rattle.std.proofs.Common.{not, if◌then◌else◌}
use Rattle.fw_explore_endings.specs.declared.rows.Row.{Row}
use Rattle.fw_explore_meaning.proofs.TryLaws.{ends_so, placed_still}
use Rattle.fw_explore.proofs.explorer.Explorer.end.Given as given
use Rattle.fw_explore.proofs.explorer.Explorer.end.Goals as goal

not_counted : (b : Bool) (n : ℕ) → (if not b then n else 0) ≡ (if b then 0 else n)
not_counted true n = refl
not_counted false n = refl

-- the place is still the one that it goes on from
pub finish-requires-clause-here : goal.finish-requires-clause-here
finish-requires-clause-here g c =
    let w = c.args.self.now.walker in
    let v = c.is_cut.new.self in
    let same : v.here.items ≡ w.here.items = cc (c.is_cut.ensures.here) in
    placed_still g.P.Keeper.Kept w.pasts v.pasts w.kept.places v.kept.places w.here.items v.here.items c.is_cut.ensures.pasts c.is_cut.ensures.places same c.requires.placed

pub returns-clause-walks : goal.returns-clause-walks
returns-clause-walks g c = λ script n d only m.
    let D : DeskRelations = record { blocks = given.F-post g c.args.desk.now.blocks; vendor = given.H-post g c.args.desk.now.vendor } in
    let self = c.args.self.now in
    let w = self.walker in
    let v = c.is_cut.new.self in
    let z = c.finish.new.self in
    let f = c.in_ok-finish.finish in
    let cut = c.in_ok-cut.cut in
    let same : v.here.items ≡ w.here.items = cc (c.is_cut.ensures.here) in
    let row : Row = record { ending = f.ending; ended = c.counted.result; cut = c.counted-2.result; first = c.in_ok-first.first; lines = f.lines } in
    ends_so g.P.Keeper.Kept D script c.args.explored.now only n c.args.place d w.pasts v.pasts z.pasts w.kept.places v.kept.places z.kept.places w.here.items v.here.items self.levels self.rows
    c.requires.place
    c.requires.here m
    c.is_cut.ensures.pasts c.is_cut.ensures.places same c.finish.ensures.pasts c.finish.ensures.places cut (λ s l. c.in_ok-cut.ensures.cut script s only l) row (λ s l. c.in_ok-finish.ensures.finished
    script s l)
    (λ e. c.in_ok-first.ensures e) c.reach.new.self (c.counted.ensures ∙ not_counted cut c.ways-ways.result ∙ ap (λ k. if cut then 0 else k) (c.ways-ways.ensures d))
    (c.counted-2.ensures ∙ ap (λ k. if cut then k else 0) (c.ways-ways.ensures d)) c.in_ok-reach.ensures.ended c.in_ok-reach.ensures.cut c.in_ok-reach.ensures.rows c.in_ok-reach.ensures.all_ended
    c.in_ok-reach.ensures.all_cut
