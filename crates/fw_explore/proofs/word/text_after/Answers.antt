use Rattle.fw_explore.proofs.Common.{ℕ, ◌≡◌, List, refl, sym, ap, subst, ◌∙◌, StandsFor, DeskRelations}
use Rattle.fw_explore.proofs.WordLaws.{stopped, unknown_named, too_many, all_explored}
use Rattle.fw_explore.proofs.word.text_after.Given as given
use Rattle.fw_explore.proofs.word.text_after.Goals as goal

pub returns-in-Stopped-clause-told : goal.returns-in-Stopped-clause-told
returns-in-Stopped-clause-told g c =
    let D : DeskRelations = record { blocks = given.F-post g c.args.desk.now.blocks; vendor = given.H-post g c.args.desk.now.vendor } in
    stopped D c.args.explored.now (g.S.Source.left c.args.source.now) (g.S.Source.left c.record_run.new.source) c.record_run.new.bus c.in-Stopped.stop c.in-Stopped.ensures.recorded

pub returns-in-Some-clause-told : goal.returns-in-Some-clause-told
returns-in-Some-clause-told g c =
    let D : DeskRelations = record { blocks = given.F-post g c.args.desk.now.blocks; vendor = given.H-post g c.args.desk.now.vendor } in
    unknown_named D c.args.explored.now (g.S.Source.left c.args.source.now) (g.S.Source.left c.record_run.new.source) c.record_run.new.bus c.in-Done.ensures.recorded c.in-Some.fault
    (λ s st. c.in-Some.ensures s (subst (λ m. StandsFor m s) (sym c.machine.ensures) st) c.requires.order)

pub returns-in-Ok-explore_from-clause-told : goal.returns-in-Ok-explore_from-clause-told
returns-in-Ok-explore_from-clause-told g c =
    let D : DeskRelations = record { blocks = given.F-post g c.args.desk.now.blocks; vendor = given.H-post g c.args.desk.now.vendor } in
    all_explored D c.args.explored.now (g.S.Source.left c.args.source.now) (g.S.Source.left c.record_run.new.source) c.record_run.new.bus c.in-Done.ensures.recorded
    (λ s st. c.in-None.ensures s (subst (λ m. StandsFor m s) (sym c.machine.ensures) st) c.requires.order) c.in-Ok-explore_from.text.items
    (λ script log state runs stands. c.in-Ok-explore_from.ensures script log state runs stands)

pub returns-in-Err-TooLarge-clause-told : goal.returns-in-Err-TooLarge-clause-told
returns-in-Err-TooLarge-clause-told g c =
    let D : DeskRelations = record { blocks = given.F-post g c.args.desk.now.blocks; vendor = given.H-post g c.args.desk.now.vendor } in
    too_many D c.args.explored.now (g.S.Source.left c.args.source.now) (g.S.Source.left c.record_run.new.source) c.record_run.new.bus c.in-Done.ensures.recorded
    (λ s st. c.in-None.ensures s (subst (λ m. StandsFor m s) (sym c.machine.ensures) st) c.requires.order)
