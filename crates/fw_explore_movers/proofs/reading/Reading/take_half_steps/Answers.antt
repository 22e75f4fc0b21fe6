use Rattle.std.proofs.Common.{ℕ, List, Some, refl, sym, ap, subst, ◌∙◌}
use Rattle.fw_explore_movers.specs.declared.mover.Mover.{Mover}
use Rattle.fw_explore_movers.specs.declared.mover.MoverKind.TheVariants.{HalfSteps}
use Rattle.fw_explore_movers.specs.Words.{Read, Reads, with_mover, half_steps}
use Rattle.fw_explore_movers.proofs.reading.Reading.take_half_steps.Goals as goal

pub returns : goal.returns
returns c = λ word other no_then e.
    let m : Mover = record { line = c.args.line; command = c.in-Ok.command; kind = HalfSteps; word = c.args.number } in
    let old : Read = record { most = c.self.inside.most; movers = c.self.inside.movers.items; following = c.self.inside.following.items; follows = c.self.inside.follows } in
    let h = c.in-Ok.ensures in
    let same = c.as_slice.ensures.value in
    subst (Reads c.args.number word c.args.self.now)
    (ap (λ (r : Read). with_mover r m) (sym c.self.view_is) ∙ ap (λ (ms : List Mover). record old { movers = ms }) (sym c.in_ok-push.ensures.items))
    (half_steps {line = c.as_slice.result.now} m other c.requires no_then (e ∙ ap (λ (l : List ℕ). Some l) (sym same)) h.0 (sym same) refl refl h.1 h.2)
