use Rattle.std.proofs.Common.{List, ℕ, Option, ap}
use Rattle.std.specs.Option.{option_map}
use Rattle.fw_check.specs.declared.why.Why.TheVariants.{PortUsed}
use Rattle.fw_check_causes.proofs.cables.joined.Goals as goal

pub returns-in-Some : goal.returns-in-Some
returns-in-Some c = λ s g st. ap (λ (o : Option (List ℕ)). option_map (λ name. PortUsed c.args.number name c.args.peer.port) o) (c.in-Some.ensures s g st)

pub returns-in-None : goal.returns-in-None
returns-in-None c = λ s g st. ap (λ (o : Option (List ℕ)). option_map (λ name. PortUsed c.args.number name c.args.peer.port) o) (c.in-None.ensures s g st)
