use Rattle.std.proofs.Common.{◌≡◌, ◌∙◌, ap, drop, subst, sym, true, List, ◌∷◌, Some}
use Rattle.std.proofs.lemmas.Option.{IfSome_then}
use Rattle.fw_watch_requests.specs.declared.asked.Asked.{Asked}
use Rattle.fw_watch_requests.specs.Kept.{AreApart}
use Rattle.fw_watch_requests.specs.Standing.{answers, answered, without_answered}
use Rattle.fw_watch_requests.proofs.ApartLaws.{first_taken, first_asked}
use Rattle.fw_watch_requests.proofs.taking.first_answered.Goals as goal

pub returns-clause-first : goal.returns-clause-first
returns-clause-first c =
    let rows = c.args.rows.now in
    let Is : Asked → Type 0 = λ q. (answers c.args.read c.args.head.now q ≡ true) × ((rest : List Asked) × (rows ≡ q ∷ rest)) in
    let Answered : Asked → Type 0 = λ q. answered c.args.read c.args.head.now rows ≡ Some q in
    IfSome_then c.answered_first.result {P = Is} {Q = Answered} c.answered_first.ensures
    (λ q x. ap (answered c.args.read c.args.head.now) x.1.1 ∙ first_asked c.args.read c.args.head.now q x.1.0 x.0)

pub returns-clause-others : goal.returns-clause-others
returns-clause-others c =
    let rows = c.args.rows.now in
    let Is : Asked → Type 0 = λ q. (answers c.args.read c.args.head.now q ≡ true) × ((rest : List Asked) × (rows ≡ q ∷ rest)) in
    let Ended : Asked → Type 0 = λ q. drop 1 rows ≡ without_answered c.args.read c.args.head.now rows in
    IfSome_then c.answered_first.result {P = Is} {Q = Ended} c.answered_first.ensures
    (λ q x.
    let apart = subst AreApart x.1.1 c.requires in
    ap (drop 1) x.1.1 ∙ first_taken c.args.read c.args.head.now q x.1.0 apart.0 x.0 ∙ ap (without_answered c.args.read c.args.head.now) (sym x.1.1))
