use Rattle.fw_async.proofs.Common.{◌<◌, ℕ, List, arith, sym, ◌∙◌, ap, subst, IsKept}
use Rattle.fw_async.specs.Wire.{without}
use Rattle.fw_async.proofs.WireLaws.{take_kept, take_pairs}
use Rattle.fw_async.proofs.wire.Wire.remove.Goals as goal

pub invariant_of-self : goal.invariant_of-self
invariant_of-self c =
    let within : c.args.from < 63 = omega (arith, c.requires) in
    let P : List ℕ → Type 0 = IsKept _ in
    subst P (sym c.remove.ensures) (rw c.from.ensures (take_kept c.self.inside.lengths c.self.inside.senders c.args.from c.self.invariant within))

pub returns : goal.returns
returns c =
    let lengths = c.self.inside.lengths in
    let rows = c.self.inside.rows in
    rw (c.from.ensures, c.remove.ensures) (take_pairs lengths rows c.self.inside.senders c.args.from ∙ ap (without c.args.from) c.self.view_is)
