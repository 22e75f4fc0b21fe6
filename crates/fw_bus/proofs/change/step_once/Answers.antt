use Rattle.std.proofs.Common.{◌≡◌, ◌∙◌, Bool, true, false, not, refl, sym, subst, arith, IsTrue, IsFalse}
use Rattle.std.specs.Prelude.{Err}
use Rattle.fw_cmp.specs.Losses.{MayTurn}
use Rattle.fw_bus_state.proofs.Living.{living_there}
use Rattle.fw_bus.proofs.Changes.{does_err}
use Rattle.fw_bus.proofs.change.step_once.Goals as goal

pub get-requires : goal.get-requires
get-requires g c = (living_there c.args.machine.now c.args.device c.requires.ready c.requires.living).controller

pub returns-in_err-half_step-clause-does : goal.returns-in_err-half_step-clause-does
returns-in_err-half_step-clause-does g c = does_err (Err _) _ refl c.from_residual.ensures.0 c.in_err-half_step.ensures.does

quiet : (b : Bool) → IsTrue (not b) → IsFalse b
quiet true asks = let no : false ≡ true = asks in absurd (grind (arith, no))
quiet false asks = refl

pub returns-then-epoch-clause-changed : goal.returns-then-epoch-clause-changed
returns-then-epoch-clause-changed g c =
    let same = sym c.epoch.ensures ∙ (c.if-epoch.true ∙ c.epoch-epoch.ensures) in
    c.in_ok-half_step.ensures.half same (not c.has_request-asks.result) (λ asks. subst MayTurn c.get.ensures (c.has_request-asks.ensures.heard.0 (quiet c.has_request-asks.result asks)))
