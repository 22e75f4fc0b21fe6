use Rattle.fw_explore.proofs.Common.{ℕ, List, ◌++◌, length, arith, sym, ap, subst, ◌∙◌, DeskRelations, Line}
use Rattle.std.specs.List.{All}
use Rattle.fw_bus.specs.Buses.{IsCommand}
use Rattle.fw_explore_meaning.specs.Moves.{commands_of}
use Rattle.fw_explore_told.specs.Sayings.{said_all, unmarked_from}
use Rattle.fw_explore_meaning.proofs.EndingLaws.{finished}
use Rattle.fw_explore.proofs.AfterForms.{carried_from}
use Rattle.fw_explore.proofs.Numbers.{had_led, kept_at, kept_led, machine_kept, two_numbers}
use Rattle.fw_explore.proofs.step.Walker.finish.Given as given
use Rattle.fw_explore.proofs.step.Walker.finish.Goals as goal

pub slice_bounds-give_back-start : goal.slice_bounds-give_back-start
slice_bounds-give_back-start g c =
    let two = two_numbers c.args.self.now.pasts (g.P.Keeper.Kept c.args.self.now.kept.places) c.args.self.now.here.items c.requires.here in
    let size = ap length c.deref.ensures.value in
    omega (arith, two, size)

pub give_back-requires : goal.give_back-requires
give_back-requires g c =
    let kept = machine_kept c.args.self.now.pasts (g.P.Keeper.Kept c.args.self.now.kept.places) c.args.self.now.here.items c.requires.here in
    (kept.0, kept_at (g.P.Keeper.Kept c.args.self.now.kept.places) c.args.self.now.here.items c.deref.result.now c.deref.ensures.value kept.0 kept.1)

pub returns-clause-finished : goal.returns-clause-finished
returns-clause-finished g c script w l =
    let D : DeskRelations = record { blocks = given.F-post g c.args.desk.now.blocks; vendor = given.H-post g c.args.desk.now.vendor } in
    let x = c.args.explored.now in
    let pasts = c.args.self.now.pasts in
    let Kept = g.P.Keeper.Kept c.args.self.now.kept.places in
    let here = c.args.self.now.here.items in
    let stands = c.in_ok-give_back.ensures.stands l.machine l.leads.state (kept_at Kept here c.deref.result.now c.deref.ensures.value l.machine
    (kept_led D script x pasts Kept w here l)) l.leads.stands in
    let following = c.in_ok-carry_after.ensures.carried script (commands_of x w) l.leads.out l.leads.state l.leads.following stands in
    let same = c.in_ok-past.ensures ∙ c.past.ensures l.past (had_led D script x pasts Kept w here l) in
    let from = carried_from D script (commands_of x w) c.as_slice-following.result.now x.following.items l.past c.in_ok-past.past c.carry_after.new.past c.new-refused.result.items
    c.carry_after.new.refused.items
    c.new-lines.result.items c.carry_after.new.lines.items c.as_slice-following.ensures.value same c.new-refused.ensures.items c.new-lines.ensures.items following in
    finished D script x l.half l.past c.carry_after.new.past l.machine w l.leads c.carry_after.new.refused.items c.carry_after.new.lines.items from c.in_ok-ending.ending.items
    (c.in_ok-ending.ensures ∙ ap (λ (z : List ℕ). said_all c.carry_after.new.past.said ++ unmarked_from c.carry_after.new.past.done 0 x.movers.items ++ z) c.as_slice.ensures.value)

pub carry_after-requires-clause-following : goal.carry_after-requires-clause-following
carry_after-requires-clause-following g c = subst (All (λ (l : Line). IsCommand l.command)) (sym c.as_slice-following.ensures.value) c.requires.explored.following
