use Rattle.fw_cmp.proofs.Common.{◌≡◌, ◌∙◌, arith}
use Rattle.std.proofs.lemmas.Grind.{common_steps}
use Rattle.fw_cmp.proofs.agenda.Agenda.copy_from.Goals as goal

pub invariant_of-self : goal.invariant_of-self
invariant_of-self c =
    let waiting : c.try_extend_from_slice.new.self.items ≡ c.other.inside.waiting.items = grind (arith, common_steps) in
    let current : c.new-self-inside.result ≡ c.other.inside.current = c.new-self-inside.ensures ∙ c.get.ensures in
    rw (waiting, current) c.other.invariant
