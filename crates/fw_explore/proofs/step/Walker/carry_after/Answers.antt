use Rattle.fw_explore.proofs.Common.{refl, sym, ap, subst, ◌∙◌, DeskRelations, Line, History}
use Rattle.std.proofs.lemmas.List.{drop_all}
use Rattle.fw_bus.specs.Buses.{IsCommand}
use Rattle.fw_explore_meaning.proofs.AfterLines.{midway_first, midway_last}
use Rattle.fw_explore.proofs.AfterForms.{line_carried, line_refused}
use Rattle.fw_explore.proofs.step.Walker.carry_after.Given as given
use Rattle.fw_explore.proofs.step.Walker.carry_after.Goals as goal
use Rattle.fw_explore.proofs.step.Walker.carry_after.Goals.{in-None+in_ok-tell-in-None+in_ok-put_line-in-None, in-Some+in_ok-put_refused-in-Some}

pub loop-line-init : goal.loop-line-init
loop-line-init g c =
    let D : DeskRelations = record { blocks = given.F-post g c.args.desk.now.blocks; vendor = given.H-post g c.args.desk.now.vendor } in
    record {
      pasts = refl;
      places = refl;
      here = refl;
      fresh = c.requires.fresh;
      midway = λ script commands out s following stands. midway_first D script commands out c.args.following.now c.args.past.now c.args.refused.now.items c.args.lines.now.items s
          c.args.self.now.kept.bus.machine following stands;
    }

pub carry-requires-clause-command : goal.carry-requires-clause-command
carry-requires-clause-command g c = subst (λ (l : Line). IsCommand l.command) (sym c.line-item.is) (c.requires.following c.loop-line.line-index c.line-item.result c.loop-line-test.true)

pub loop-line-preserved : goal.loop-line-preserved
loop-line-preserved g c =
    let D : DeskRelations = record { blocks = given.F-post g c.args.desk.now.blocks; vendor = given.H-post g c.args.desk.now.vendor } in
    let i = c.loop-line.invariant in
    let now = c.match-branch-2 in
    elim c.match-branch-2.branch [
      | in-None+in_ok-tell-in-None+in_ok-put_line-in-None w ↦ record {
        pasts = i.pasts;
        places = c.carry.ensures.places ∙ i.places;
        here = i.here;
        fresh = c.in_ok-carry.ensures.fresh;
        midway = λ script commands out s following stands.
            line_carried D script commands out c.args.following.now c.args.past.now c.args.refused.now.items c.args.lines.now.items c.loop-line.line-index c.loop-line.past
            c.loop-line.refused.items c.loop-line.lines.items
            c.loop-line.self.kept.bus.machine (i.midway script commands out s following stands) c.line-item.result c.loop-line-test.true c.line-item.is c.carry.new.self.bus
            c.carry.new.sink.held c.in_ok-carry.field-0
            c.in_ok-carry.ensures.carries w.in-None.is now.past now.refused.items now.lines.items (ap (λ (h : History). h.done) w.past-is ∙ w.tell.ensures.done)
            (λ epoch entries fits is. ap (λ (h : History). h.said) w.past-is ∙ w.in_ok-tell-in-None.ensures.said epoch entries fits (w.as_slice.ensures ∙ is))
            (ap (λ v. v.items) w.refused-is) (ap (λ v. v.items) w.lines-is ∙ w.in_ok-put_line-in-None.ensures);
      }
      | in-Some+in_ok-put_refused-in-Some w ↦ record {
        pasts = i.pasts;
        places = c.carry.ensures.places ∙ i.places;
        here = i.here;
        fresh = c.in_ok-carry.ensures.fresh;
        midway = λ script commands out s following stands.
            line_refused D script commands out c.args.following.now c.args.past.now c.args.refused.now.items c.args.lines.now.items c.loop-line.line-index c.loop-line.past
            c.loop-line.refused.items c.loop-line.lines.items
            c.loop-line.self.kept.bus.machine (i.midway script commands out s following stands) c.line-item.result c.loop-line-test.true c.line-item.is c.carry.new.self.bus
            c.carry.new.sink.held c.in_ok-carry.field-0
            c.in_ok-carry.ensures.carries w.in-Some.rule w.in-Some.is now.past now.refused.items now.lines.items w.past-is
            (ap (λ v. v.items) w.refused-is ∙ w.in_ok-put_refused-in-Some.ensures) (ap (λ v. v.items) w.lines-is);
      }
    ]

pub returns-clause-carried : goal.returns-clause-carried
returns-clause-carried g c script commands out s following stands =
    let D : DeskRelations = record { blocks = given.F-post g c.args.desk.now.blocks; vendor = given.H-post g c.args.desk.now.vendor } in
    midway_last D script commands out c.args.following.now c.args.past.now c.args.refused.now.items c.args.lines.now.items c.loop-line.line-index c.loop-line.past
    c.loop-line.refused.items c.loop-line.lines.items
    c.loop-line.self.kept.bus.machine (drop_all c.loop-line.line-index c.args.following.now c.loop-line-test.false) (c.loop-line.invariant.midway script commands out s following stands)
