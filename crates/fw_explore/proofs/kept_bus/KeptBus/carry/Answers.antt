use Rattle.fw_explore.proofs.Common.{Some, sym, ap, ◌∙◌}
use Rattle.fw_explore.proofs.SinceLaws.{since_then}
use Rattle.fw_explore.proofs.kept_bus.KeptBus.carry.Goals as goal

pub invariant_of-self : goal.invariant_of-self
invariant_of-self g c =
    since_then g.P.Keeper.Kept c.self.inside.places c.self.inside.at.items c.self.inside.bus.machine c.change.new.self.machine c.self.inside.since c.after-self-inside.result c.in-Ok.changed
    c.is_nothing-silent.result
    (Some c.clear.new.self.held) (Some c.change.new.sink.held) c.self.invariant c.after-self-inside.ensures c.in-Ok.ensures.changed c.in-Ok.ensures.silent (ap (λ xs. Some xs) c.clear.ensures.held)
    (λ empty. ap (λ xs. Some xs) (sym c.as_slice.ensures ∙ c.is_nothing-silent.ensures empty))
