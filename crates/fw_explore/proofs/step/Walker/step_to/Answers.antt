use Rattle.fw_explore.proofs.Common.{length, true, false, sym, ap, ◌∙◌, arith, DeskRelations, History}
use Rattle.fw_explore_meaning.proofs.StepLaws.{none_there, none_beyond, none_ruled, none_silent, steps_on}
use Rattle.fw_explore.proofs.Numbers.{kept_at, machine_kept, mover_read, not_ruled, ruled, size_led, there_led, two_numbers}
use Rattle.fw_explore.proofs.step.Walker.step_to.Given as given
use Rattle.fw_explore.proofs.step.Walker.step_to.Goals as goal

pub slice_bounds-give_back-start : goal.slice_bounds-give_back-start
slice_bounds-give_back-start g c =
    let two = two_numbers c.args.self.now.pasts (g.P.Keeper.Kept c.args.self.now.kept.places) c.args.self.now.here.items c.requires.here in
    let size = ap length c.deref.ensures.value in
    omega (arith, two, size)

pub give_back-requires : goal.give_back-requires
give_back-requires g c =
    let kept = machine_kept c.args.self.now.pasts (g.P.Keeper.Kept c.args.self.now.kept.places) c.args.self.now.here.items c.requires.here in
    (kept.0, kept_at (g.P.Keeper.Kept c.args.self.now.kept.places) c.args.self.now.here.items c.deref.result.now c.deref.ensures.value kept.0 kept.1)

pub carry-requires-clause-command : goal.carry-requires-clause-command
carry-requires-clause-command g c = c.requires.explored.commands c.args.mover c.index-this.result.now (mover_read c.args.explored.now c.args.mover c.index-this.result.now
    c.requires.mover c.index-this.ensures)

pub returns-then-not-is_there-clause-steps : goal.returns-then-not-is_there-clause-steps
returns-then-not-is_there-clause-steps g c script w only l =
    let D : DeskRelations = record { blocks = given.F-post g c.args.desk.now.blocks; vendor = given.H-post g c.args.desk.now.vendor } in
    let x = c.args.explored.now in
    let m = c.index-this.result.now in
    let is = mover_read x c.args.mover m c.requires.mover c.index-this.ensures in
    let pasts = c.args.self.now.pasts in
    let Kept = g.P.Keeper.Kept c.args.self.now.kept.places in
    let here = c.args.self.now.here.items in
    none_there D script x pasts Kept w here l c.args.mover m is
    (there_led D script x pasts Kept w here l c.done.result.now c.args.mover m false c.is_there.result (λ past had. c.done.ensures.value ∙ ap (λ (h : History). h.done)
    (c.past.ensures past had)) c.if-not-is_there.true (c.is_there.ensures m is))

pub returns-then-is_full-clause-steps : goal.returns-then-is_full-clause-steps
returns-then-is_full-clause-steps g c script w only l =
    let D : DeskRelations = record { blocks = given.F-post g c.args.desk.now.blocks; vendor = given.H-post g c.args.desk.now.vendor } in
    let x = c.args.explored.now in
    let m = c.index-this.result.now in
    let is = mover_read x c.args.mover m c.requires.mover c.index-this.ensures in
    let full = c.is_full.ensures.full c.if-is_full.true in
    none_beyond D script x c.args.self.now.pasts (g.P.Keeper.Kept c.args.self.now.kept.places) w c.args.self.now.here.items l c.args.mover m is full.0 full.1

pub returns-then-is_some-clause-steps : goal.returns-then-is_some-clause-steps
returns-then-is_some-clause-steps g c script w only l =
    let D : DeskRelations = record { blocks = given.F-post g c.args.desk.now.blocks; vendor = given.H-post g c.args.desk.now.vendor } in
    let x = c.args.explored.now in
    let m = c.index-this.result.now in
    let is = mover_read x c.args.mover m c.requires.mover c.index-this.ensures in
    let some = ruled c.in_ok-carry.field-0 (sym c.is_some.ensures ∙ c.if-is_some.true) in
    none_ruled D script x c.args.self.now.pasts (g.P.Keeper.Kept c.args.self.now.kept.places) w c.args.self.now.here.items l c.args.mover m is only c.give_back.new.self.bus.machine
    (λ n s kept. c.in_ok-give_back.ensures.stands n s (kept_at (g.P.Keeper.Kept c.args.self.now.kept.places) c.args.self.now.here.items c.deref.result.now c.deref.ensures.value n kept))
    c.carry.new.self.bus c.carry.new.sink.held c.in_ok-carry.field-0 c.in_ok-carry.ensures.carries some.0 some.1

pub returns-then-is_silent-clause-steps : goal.returns-then-is_silent-clause-steps
returns-then-is_silent-clause-steps g c script w only l =
    let D : DeskRelations = record { blocks = given.F-post g c.args.desk.now.blocks; vendor = given.H-post g c.args.desk.now.vendor } in
    let x = c.args.explored.now in
    let m = c.index-this.result.now in
    let is = mover_read x c.args.mover m c.requires.mover c.index-this.ensures in
    let none = not_ruled c.in_ok-carry.field-0 (sym c.is_some.ensures ∙ c.if-is_some.false) in
    let silent = c.is_silent.ensures.silent c.if-is_silent.true in
    none_silent D script x c.args.self.now.pasts (g.P.Keeper.Kept c.args.self.now.kept.places) w c.args.self.now.here.items l c.args.mover m is only c.give_back.new.self.bus.machine
    (λ n s kept. c.in_ok-give_back.ensures.stands n s (kept_at (g.P.Keeper.Kept c.args.self.now.kept.places) c.args.self.now.here.items c.deref.result.now c.deref.ensures.value n kept))
    c.carry.new.self.bus c.carry.new.sink.held c.in_ok-carry.field-0 c.in_ok-carry.ensures.carries none silent.0 (sym c.as_slice.ensures ∙ silent.1)

pub returns-clause-steps : goal.returns-clause-steps
returns-clause-steps g c script w only l =
    let D : DeskRelations = record { blocks = given.F-post g c.args.desk.now.blocks; vendor = given.H-post g c.args.desk.now.vendor } in
    let x = c.args.explored.now in
    let m = c.index-this.result.now in
    let is = mover_read x c.args.mover m c.requires.mover c.index-this.ensures in
    let pasts = c.args.self.now.pasts in
    let Kept = g.P.Keeper.Kept c.args.self.now.kept.places in
    let here = c.args.self.now.here.items in
    let none = not_ruled c.in_ok-carry.field-0 (sym c.is_some.ensures ∙ c.if-is_some.false) in
    let few = c.requires.explored.few in
    let there = there_led D script x pasts Kept w here l c.done.result.now c.args.mover m true c.is_there.result (λ past had. c.done.ensures.value ∙ ap (λ (h : History). h.done)
    (c.past.ensures past had)) c.if-not-is_there.false (c.is_there.ensures m is) in
    steps_on D script x pasts Kept w here l c.args.mover m is only c.give_back.new.self.bus.machine (λ n s kept. c.in_ok-give_back.ensures.stands n s (kept_at
    (g.P.Keeper.Kept c.args.self.now.kept.places) c.args.self.now.here.items c.deref.result.now c.deref.ensures.value n kept)) c.carry.new.self.bus c.carry.new.sink.held c.in_ok-carry.field-0
    c.in_ok-carry.ensures.carries _ _ _ none (size_led D script x pasts Kept w here l c.done.result.now (λ past had. c.done.ensures.value ∙ ap (λ (h : History). h.done)
    (c.past.ensures past had)) (ap length c.done.ensures.value ∙ c.done.ensures.size)) (omega (arith, few)) there
    (c.is_full.ensures.room c.if-is_full.false) (λ half nothing. c.is_silent.ensures.wrote c.if-is_silent.false half (c.as_slice.ensures ∙ nothing)) c.in_ok-arrive.ensures.arrives
