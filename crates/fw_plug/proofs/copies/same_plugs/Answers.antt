use Rattle.std.proofs.Common.{rules, ◌≡◌, Decides}
use Rattle.std.proofs.lemmas.Slice.Eq.{slice_eq-Decides}
use Rattle.fw_plug.specs.declared.plug.Plug.{Plug}
use Rattle.fw_plug.specs.contracts.plug.PlugPartialEq.TheImpl.{eq-value}
use Rattle.fw_plug.proofs.copies.same_plugs.Goals as goal

eq_plug : (a b : Plug) → Decides (eq-value.it a b) (a ≡ b)
eq_plug a b = search rules

pub returns : goal.returns
returns c = λ same. (slice_eq-Decides {E = eq-value.it} eq_plug c.args.plugs.now c.args.others.now c.eq.result c.eq.ensures).0 same
