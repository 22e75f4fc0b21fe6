use Rattle.std.proofs.Common.{List, refl, sym, ap, subst, ◌∙◌}
use Rattle.fw_explore_movers.specs.declared.mover.Mover.{Mover}
use Rattle.fw_explore_movers.specs.declared.mover.MoverKind.TheVariants.{Once}
use Rattle.fw_explore_movers.specs.Words.{Read, Reads, with_mover}
use Rattle.fw_explore_movers.proofs.TakeLaws.{take_once}
use Rattle.fw_explore_movers.proofs.reading.Reading.take_once.Goals as goal

pub returns : goal.returns
returns c =
    let m : Mover = record { line = c.in_ok-line.line; command = c.in-Ok.command; kind = Once; word = c.args.number } in
    let old : Read = record { most = c.self.inside.most; movers = c.self.inside.movers.items; following = c.self.inside.following.items; follows = c.self.inside.follows } in
    let e = c.in-Ok.ensures in
    subst (Reads c.args.number c.args.word.now c.args.self.now)
    (ap (λ (r : Read). with_mover r m) (sym c.self.view_is) ∙ ap (λ (ms : List Mover). record old { movers = ms }) (sym c.in_ok-push.ensures.items))
    (take_once c.args.number c.args.word.now c.args.self.now m c.requires.number c.requires.follows c.requires.word e.0 e.1 e.2 e.3 c.in_ok-line.ensures refl refl)
