-- The first rule that a line of a candidate breaks.
use Rattle.std.proofs.Common.{◌≡◌, ℕ, ◌+◌, ◌≤◌, List, [], ◌∷◌, is_some, Some, Ok, Err, IsTrue, IsFalse, refl, ap, sym, ◌∙◌, arith}
use Rattle.fw_terms.specs.declared.device.DeviceKind.{DeviceKind}
use Rattle.fw_devices.specs.Network.{device_named, kind_at, kinds_of}
use Rattle.fw_script_command.specs.declared.command.Command.TheVariants as Commands
use Rattle.fw_order.specs.declared.limits.TheConstants.{MOST_HALF_STEPS}
use Rattle.fw_order.specs.declared.order.Order.TheVariants as Orders
use Rattle.fw_order.specs.declared.rule.RuleFault.{RuleFault}
use Rattle.fw_order.specs.declared.rule.RuleFault.TheVariants.{UnknownName, NotController, NotCapable, NotCandidate, Limit, TableFull, Busy, NoSuchConnection, NotOwnPlug}
use Rattle.fw_model_run.specs.Bidding.{is_candidate}
use Rattle.fw_terms.specs.Devices.{is_capable}
use Rattle.fw_model_run.specs.Good.{IsGood}
use Rattle.fw_model_run.specs.Rules.{Breaks, Decides}
use Rattle.fw_model_run.specs.Named.{IsNamed}
use Rattle.fw_model_run.specs.State.{State, is_living}
use Rattle.fw_bus_state.specs.declared.machine.Machine.{Machine}
use Rattle.fw_bus_state.specs.Candidates.{candidate_in}
use Rattle.fw_bus_state.specs.Stands.{StandsFor, is_living_in}
use Rattle.fw_bus_rules.proofs.ConnectionRules.{is_named}
use Rattle.fw_bus_rules.proofs.FirstBroken.{all_known, is_another, is_so}
use Rattle.fw_bus_state.proofs.Besides.{candidate_same}
use Rattle.fw_bus_state.proofs.Living.{living_same}

pub candidate_breaks : (s : State) (name : List ℕ) (d : ℕ) → IsNamed s name d → (g : RuleFault) → (g ≡ NotController → IsTrue (is_living s d))
    → (g ≡ NotCapable → IsTrue (is_capable (kind_at s.declared.kinds d))) → Breaks s (Commands.Candidate name) g → ⊥
candidate_breaks s name d p UnknownName living capable h = all_known s (name ∷ []) ((d, p), tt) h
candidate_breaks s name d p NotController living capable h = is_so s (is_living s) name d p (living refl) h
candidate_breaks s name d p NotCapable living capable h = is_so s (λ d. is_capable (kind_at s.declared.kinds d)) name d p (capable refl) h
candidate_breaks s name d p NotOwnPlug living capable h = h.2
candidate_breaks s name d p NoSuchConnection living capable h = h.2
candidate_breaks s name d p TableFull living capable h = h.2
candidate_breaks s name d p Busy living capable h = h.2
candidate_breaks s name d p g living capable h = h

pub contend_breaks : (s : State) (name : List ℕ) (count d : ℕ) → IsNamed s name d → (g : RuleFault) → (g ≡ NotController → IsTrue (is_living s d))
    → (g ≡ NotCandidate → IsTrue (is_candidate s d)) → (g ≡ Limit → s.half_steps + count ≤ MOST_HALF_STEPS) → Breaks s (Commands.Contend name count) g → ⊥
contend_breaks s name count d p UnknownName living one few h = all_known s (name ∷ []) ((d, p), tt) h
contend_breaks s name count d p NotController living one few h = is_so s (is_living s) name d p (living refl) h
contend_breaks s name count d p NotCandidate living one few h = is_so s (is_candidate s) name d p (one refl) h
contend_breaks s name count d p Limit living one few h = let most = few refl in omega (arith, most, h)
contend_breaks s name count d p NotOwnPlug living one few h = h.2
contend_breaks s name count d p NoSuchConnection living one few h = h.2
contend_breaks s name count d p TableFull living one few h = h.2
contend_breaks s name count d p Busy living one few h = h.2
contend_breaks s name count d p g living one few h = h

-- ---- by the machine

kinds_are : (m : Machine) (s : State) (d : ℕ) → StandsFor m s → is_capable (kind_at (kinds_of m.devices.nodes) d) ≡ is_capable (kind_at s.declared.kinds d)
kinds_are m s d st = ap (λ (ks : List DeviceKind). is_capable (kind_at ks d)) st.devices.kinds

pub candidate_ordered : (m : Machine) (s : State) (name : List ℕ) (d : ℕ) → IsGood s → StandsFor m s → device_named m.devices.names name ≡ Some d → IsTrue (is_living_in m d)
    → IsTrue (is_capable (kind_at (kinds_of m.devices.nodes) d)) → Decides s (Commands.Candidate name) (Ok (Orders.Candidate d))
candidate_ordered m s name d g st named living capable =
    let p = is_named m s name d st named in
    ((d, p, refl), λ r. candidate_breaks s name d p r (λ z. sym (living_same m s d g st) ∙ living) (λ z. sym (kinds_are m s d st) ∙ capable))

pub candidate_dead : (m : Machine) (s : State) (name : List ℕ) (d : ℕ) → IsGood s → StandsFor m s → device_named m.devices.names name ≡ Some d → IsFalse (is_living_in m d)
    → Decides s (Commands.Candidate name) (Err NotController)
candidate_dead m s name d g st named dead =
    let p = is_named m s name d st named in (
      (d, p, sym (living_same m s d g st) ∙ dead),
      λ r lt. candidate_breaks s name d p r (λ z. absurd (is_another NotController r NotController lt (omega arith) z)) (λ z. absurd (is_another NotController r NotCapable lt (omega arith) z)),
    )

pub candidate_incapable : (m : Machine) (s : State) (name : List ℕ) (d : ℕ) → IsGood s → StandsFor m s → device_named m.devices.names name ≡ Some d → IsTrue (is_living_in m d)
    → IsFalse (is_capable (kind_at (kinds_of m.devices.nodes) d)) → Decides s (Commands.Candidate name) (Err NotCapable)
candidate_incapable m s name d g st named living not_ =
    let p = is_named m s name d st named in (
      (d, p, sym (kinds_are m s d st) ∙ not_),
      λ r lt. candidate_breaks s name d p r (λ z. sym (living_same m s d g st) ∙ living) (λ z. absurd (is_another NotCapable r NotCapable lt (omega arith) z)),
    )

pub contend_ordered : (m : Machine) (s : State) (name : List ℕ) (count d : ℕ) → IsGood s → StandsFor m s → device_named m.devices.names name ≡ Some d → IsTrue (is_living_in m d)
    → IsTrue (is_some (candidate_in m.candidates d)) → m.half_steps + count ≤ MOST_HALF_STEPS → Decides s (Commands.Contend name count) (Ok (Orders.Contend d count))
contend_ordered m s name count d g st named living one few =
    let p = is_named m s name d st named in
    let same = st.clock.half_steps in (
      (d, p, refl),
      λ r. contend_breaks s name count d p r (λ z. sym (living_same m s d g st) ∙ living) (λ z. sym (ap is_some (candidate_same m s d st)) ∙ one) (λ z. omega (arith, few, same)),
    )

pub contend_dead : (m : Machine) (s : State) (name : List ℕ) (count d : ℕ) → IsGood s → StandsFor m s → device_named m.devices.names name ≡ Some d → IsFalse (is_living_in m d)
    → Decides s (Commands.Contend name count) (Err NotController)
contend_dead m s name count d g st named dead =
    let p = is_named m s name d st named in (
      (d, p, sym (living_same m s d g st) ∙ dead),
      λ r lt. contend_breaks s name count d p r (λ z. absurd (is_another NotController r NotController lt (omega arith) z))
          (λ z. absurd (is_another NotController r NotCandidate lt (omega arith) z)) (λ z. absurd (is_another NotController r Limit lt (omega arith) z)),
    )

pub contend_none : (m : Machine) (s : State) (name : List ℕ) (count d : ℕ) → IsGood s → StandsFor m s → device_named m.devices.names name ≡ Some d → IsTrue (is_living_in m d)
    → IsFalse (is_some (candidate_in m.candidates d)) → Decides s (Commands.Contend name count) (Err NotCandidate)
contend_none m s name count d g st named living none =
    let p = is_named m s name d st named in (
      (d, p, sym (ap is_some (candidate_same m s d st)) ∙ none),
      λ r lt. contend_breaks s name count d p r (λ z. sym (living_same m s d g st) ∙ living)
          (λ z. absurd (is_another NotCandidate r NotCandidate lt (omega arith) z)) (λ z. absurd (is_another NotCandidate r Limit lt (omega arith) z)),
    )
