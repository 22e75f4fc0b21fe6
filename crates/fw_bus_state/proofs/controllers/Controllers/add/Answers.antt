use Rattle.fw_bus_state.proofs.Common.{◌≡◌, List, rules, sym, subst, ◌++◌, ◌∷◌, [], IsAtRest, Listening, first_listening}
use Rattle.fw_bus_state.specs.Tables.{AreCalm, AreFresh, AreHearing}
use Rattle.fw_bus_state.proofs.Tables.{hearing_push, marked_push}
use Rattle.fw_bus_state.proofs.controllers.Controllers.add.Goals as goal

pub invariant_of-self : goal.invariant_of-self
invariant_of-self c =
    let old : List Listening = c.self.inside.list.items in
    let more : c.push.new.self.items ≡ old ++ first_listening ∷ [] = search rules in
    let P : List Listening → Type 0 = λ xs. AreCalm c.self.inside.calm xs in
    let Q : List Listening → Type 0 = λ xs. AreFresh c.self.inside.fresh xs in
    let R : List Listening → Type 0 = λ xs. AreHearing c.self.inside.deaf xs in (
      search rules,
      subst P (sym more) (marked_push (λ (x : Listening). IsAtRest x.state) _ old c.self.invariant.1),
      subst Q (sym more) (marked_push (λ x. x ≡ first_listening) _ old c.self.invariant.2),
      subst R (sym more) (hearing_push _ old c.self.invariant.3),
    )
