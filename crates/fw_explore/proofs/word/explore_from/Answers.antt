use Rattle.fw_explore.proofs.Common.{ℕ, ◌≡◌, ◌<◌, List, [], ◌∷◌, length, refl, sym, ap, subst, ◌∙◌, arith, Machine, DeskRelations}
use Rattle.fw_explore_meaning.proofs.StartLaws.{all_first}
use Rattle.fw_explore.proofs.WordLaws.{text_is}
use Rattle.fw_explore.proofs.word.explore_from.Given as given
use Rattle.fw_explore.proofs.word.explore_from.Goals as goal

pub go-requires-clause-placed : goal.go-requires-clause-placed
go-requires-clause-placed g c =
    let l = c.in_ok-explorer.ensures.level in
    all_first _ _ c.args.bus.machine l.0 c.in_ok-explorer.explorer.levels.level l.2 l.1

pub go-requires-clause-some : goal.go-requires-clause-some
go-requires-clause-some g c =
    let l = c.in_ok-explorer.ensures.level in
    let size = ap length l.2 in
    omega (arith, size)

pub returns : goal.returns
returns g c = λ script log state runs stands.
    let D : DeskRelations = record { blocks = given.F-post g c.args.desk.now.blocks; vendor = given.H-post g c.args.desk.now.vendor } in
    let e = c.in_ok-explorer.explorer in
    let said = c.in_ok-explorer.ensures in
    let l = said.level in
    text_is D script c.args.explored.now log state runs _ _ l.0 c.args.bus.machine l.1 stands e.levels e.rows l.2 said.next said.rows said.ended said.cut c.go.new.self.rows
    (λ only w. c.in_ok-go.ensures.whole script only w) c.as_slice.result.now
    (c.as_slice.ensures.value ∙ c.in_ok-names.ensures ∙ ap (λ (m : Machine). m.devices.names) c.machine.ensures) c.in_ok-text_of.field-0.items c.in_ok-text_of.ensures
