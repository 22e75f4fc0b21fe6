use Rattle.fw_explore.proofs.Common.{length, sym, ap, ◌∙◌, arith, DeskRelations}
use Rattle.fw_explore_meaning.proofs.CutLaws.{never_writes, never_ruled, never_silent, writes_more}
use Rattle.fw_explore.proofs.Numbers.{kept_at, machine_kept, mover_read, not_ruled, ruled, two_numbers, writes_by}
use Rattle.fw_explore.proofs.step.Walker.would_write.Given as given
use Rattle.fw_explore.proofs.step.Walker.would_write.Goals as goal

pub slice_bounds-give_back-start : goal.slice_bounds-give_back-start
slice_bounds-give_back-start g c =
    let two = two_numbers c.args.self.now.pasts (g.P.Keeper.Kept c.args.self.now.kept.places) c.args.self.now.here.items c.requires.here in
    let size = ap length c.deref.ensures.value in
    omega (arith, two, size)

pub give_back-requires : goal.give_back-requires
give_back-requires g c =
    let kept = machine_kept c.args.self.now.pasts (g.P.Keeper.Kept c.args.self.now.kept.places) c.args.self.now.here.items c.requires.here in
    (kept.0, kept_at (g.P.Keeper.Kept c.args.self.now.kept.places) c.args.self.now.here.items c.deref.result.now c.deref.ensures.value kept.0 kept.1)

pub carry-requires-clause-command : goal.carry-requires-clause-command
carry-requires-clause-command g c = c.requires.explored.commands c.args.mover c.index-this.result.now (mover_read c.args.explored.now c.args.mover c.index-this.result.now
    c.requires.mover c.index-this.ensures)

pub returns-in-Once-clause-writes : goal.returns-in-Once-clause-writes
returns-in-Once-clause-writes g c script w only l =
    let D : DeskRelations = record { blocks = given.F-post g c.args.desk.now.blocks; vendor = given.H-post g c.args.desk.now.vendor } in
    let x = c.args.explored.now in
    let m = c.index-this.result.now in
    never_writes D script x c.args.self.now.pasts (g.P.Keeper.Kept c.args.self.now.kept.places) w c.args.self.now.here.items l c.args.mover m
    (mover_read x c.args.mover m c.requires.mover c.index-this.ensures) c.in-Once.is

pub returns-then-is_some-clause-writes : goal.returns-then-is_some-clause-writes
returns-then-is_some-clause-writes g c script w only l =
    let D : DeskRelations = record { blocks = given.F-post g c.args.desk.now.blocks; vendor = given.H-post g c.args.desk.now.vendor } in
    let x = c.args.explored.now in
    let m = c.index-this.result.now in
    let is = mover_read x c.args.mover m c.requires.mover c.index-this.ensures in
    let some = ruled c.in_ok-carry.field-0 (sym c.is_some.ensures ∙ c.if-is_some.true) in
    never_ruled D script x c.args.self.now.pasts (g.P.Keeper.Kept c.args.self.now.kept.places) w c.args.self.now.here.items l c.args.mover m is only c.give_back.new.self.bus.machine
    (λ n s kept. c.in_ok-give_back.ensures.stands n s (kept_at (g.P.Keeper.Kept c.args.self.now.kept.places) c.args.self.now.here.items c.deref.result.now c.deref.ensures.value n kept))
    c.carry.new.self.bus c.carry.new.sink.held c.in_ok-carry.field-0 c.in_ok-carry.ensures.carries some.0 some.1

pub returns-clause-writes : goal.returns-clause-writes
returns-clause-writes g c script w only l =
    let D : DeskRelations = record { blocks = given.F-post g c.args.desk.now.blocks; vendor = given.H-post g c.args.desk.now.vendor } in
    let x = c.args.explored.now in
    let m = c.index-this.result.now in
    let is = mover_read x c.args.mover m c.requires.mover c.index-this.ensures in
    let none = not_ruled c.in_ok-carry.field-0 (sym c.is_some.ensures ∙ c.if-is_some.false) in
    writes_by D script x w c.args.mover c.is_silent.result
    (λ silent. never_silent D script x c.args.self.now.pasts (g.P.Keeper.Kept c.args.self.now.kept.places) w c.args.self.now.here.items l c.args.mover m is only c.give_back.new.self.bus.machine
    (λ n s kept. c.in_ok-give_back.ensures.stands n s (kept_at (g.P.Keeper.Kept c.args.self.now.kept.places) c.args.self.now.here.items c.deref.result.now c.deref.ensures.value n kept))
    c.carry.new.self.bus c.carry.new.sink.held c.in_ok-carry.field-0 c.in_ok-carry.ensures.carries none (sym c.as_slice.ensures ∙ (c.is_silent.ensures.silent silent).1))
    (λ wrote. writes_more D script x c.args.self.now.pasts (g.P.Keeper.Kept c.args.self.now.kept.places) w c.args.self.now.here.items l c.args.mover m is only c.give_back.new.self.bus.machine
    (λ n s kept. c.in_ok-give_back.ensures.stands n s (kept_at (g.P.Keeper.Kept c.args.self.now.kept.places) c.args.self.now.here.items c.deref.result.now c.deref.ensures.value n kept))
    c.carry.new.self.bus c.carry.new.sink.held c.in_ok-carry.field-0 c.in_ok-carry.ensures.carries none c.in-HalfSteps.is
    (λ nothing. c.is_silent.ensures.wrote wrote c.in-HalfSteps.is (c.as_slice.ensures ∙ nothing)))
