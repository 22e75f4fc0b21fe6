use Rattle.std.proofs.Common.{List, refl, sym, ap, subst, ◌∙◌}
use Rattle.fw_explore_movers.specs.declared.mover.Line.{Line}
use Rattle.fw_explore_movers.specs.Words.{Read, Reads, with_line}
use Rattle.fw_explore_movers.proofs.TakeLaws.{take_after}
use Rattle.fw_explore_movers.proofs.reading.Reading.take_line.Goals as goal

pub returns : goal.returns
returns c =
    let l : Line = record { text = c.in_ok-text.text; command = c.in-Ok.command; word = c.args.number } in
    let old : Read = record { most = c.self.inside.most; movers = c.self.inside.movers.items; following = c.self.inside.following.items; follows = c.self.inside.follows } in
    let e = c.in-Ok.ensures in
    subst (Reads c.args.number c.args.word.now c.args.self.now)
    (ap (λ (r : Read). with_line r l) (sym c.self.view_is) ∙ ap (λ (ls : List Line). record old { following = ls }) (sym c.in_ok-push.ensures.items))
    (take_after c.args.number c.args.word.now c.args.self.now l c.requires.number c.requires.follows e.0 e.1 e.2 e.3 c.in_ok-text.ensures refl)
