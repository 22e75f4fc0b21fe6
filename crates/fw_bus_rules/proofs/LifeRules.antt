-- The first rule that a line of a controller's life breaks: its half steps, its death, its start.
use Rattle.std.proofs.Common.{◌≡◌, ℕ, ◌+◌, ◌<◌, ◌≤◌, List, [], ◌∷◌, Bool, Ok, Err, IsTrue, IsFalse, refl, sym, ◌∙◌, arith, Some}
use Rattle.fw_devices.specs.Network.{device_named}
use Rattle.fw_script_command.specs.declared.command.Command.TheVariants as Commands
use Rattle.fw_order.specs.declared.limits.TheConstants.{MOST_HALF_STEPS}
use Rattle.fw_order.specs.declared.order.Order.TheVariants as Orders
use Rattle.fw_order.specs.declared.rule.RuleFault.{RuleFault}
use Rattle.fw_order.specs.declared.rule.RuleFault.TheVariants.{UnknownName, NotController, Limit, TableFull, Busy, NoSuchConnection, NotOwnPlug}
use Rattle.fw_model_run.specs.Good.{IsGood}
use Rattle.fw_model_run.specs.Rules.{Breaks, Decides}
use Rattle.fw_model_run.specs.Named.{IsNamed}
use Rattle.fw_model_run.specs.State.{State, is_linked, is_living}
use Rattle.fw_bus_state.specs.declared.machine.Machine.{Machine}
use Rattle.fw_bus_state.specs.Stands.{StandsFor, is_linked_in, is_living_in}
use Rattle.fw_bus_rules.proofs.ConnectionRules.{is_named}
use Rattle.fw_bus_rules.proofs.FirstBroken.{all_known, is_another, is_so}
use Rattle.fw_bus_state.proofs.Living.{linked_same, living_same}

-- ---- by the run

step_breaks : (s : State) (name : List ℕ) (count d : ℕ) → IsNamed s name d → IsTrue (is_living s d) → (g : RuleFault) → (g ≡ Limit → s.half_steps + count ≤ MOST_HALF_STEPS)
    → Breaks s (Commands.Step name count) g → ⊥
step_breaks s name count d p living UnknownName few h = all_known s (name ∷ []) ((d, p), tt) h
step_breaks s name count d p living NotController few h = is_so s (is_living s) name d p living h
step_breaks s name count d p living Limit few h = let most = few refl in omega (arith, most, h)
step_breaks s name count d p living NotOwnPlug few h = h.2
step_breaks s name count d p living NoSuchConnection few h = h.2
step_breaks s name count d p living TableFull few h = h.2
step_breaks s name count d p living Busy few h = h.2
step_breaks s name count d p living g few h = h

death_breaks : (s : State) (name : List ℕ) (late : Bool) (d : ℕ) → IsNamed s name d → IsTrue (is_living s d) → (g : RuleFault) → Breaks s (Commands.Die name late) g → ⊥
death_breaks s name late d p living UnknownName h = all_known s (name ∷ []) ((d, p), tt) h
death_breaks s name late d p living NotController h = is_so s (is_living s) name d p living h
death_breaks s name late d p living NotOwnPlug h = h.2
death_breaks s name late d p living NoSuchConnection h = h.2
death_breaks s name late d p living TableFull h = h.2
death_breaks s name late d p living Busy h = h.2
death_breaks s name late d p living g h = h

start_breaks : (s : State) (name : List ℕ) (d : ℕ) → IsNamed s name d → (g : RuleFault) → (g ≡ NotController → IsTrue (is_linked s d)) → Breaks s (Commands.Start name) g → ⊥
start_breaks s name d p UnknownName linked h = all_known s (name ∷ []) ((d, p), tt) h
start_breaks s name d p NotController linked h = is_so s (is_linked s) name d p (linked refl) h
start_breaks s name d p NotOwnPlug linked h = h.2
start_breaks s name d p NoSuchConnection linked h = h.2
start_breaks s name d p TableFull linked h = h.2
start_breaks s name d p Busy linked h = h.2
start_breaks s name d p g linked h = h

-- ---- by the machine

pub step_ordered : (m : Machine) (s : State) (name : List ℕ) (count d : ℕ) → IsGood s → StandsFor m s → device_named m.devices.names name ≡ Some d → IsTrue (is_living_in m d)
    → m.half_steps + count ≤ MOST_HALF_STEPS
    → Decides s (Commands.Step name count) (Ok (Orders.Step d count))
step_ordered m s name count d g st named living few =
    let p = is_named m s name d st named in
    let same = st.clock.half_steps in
    ((d, p, refl), λ r. step_breaks s name count d p (sym (living_same m s d g st) ∙ living) r (λ z. omega (arith, few, same)))

pub step_limit : (m : Machine) (s : State) (name : List ℕ) (count d : ℕ) → IsGood s → StandsFor m s → device_named m.devices.names name ≡ Some d → IsTrue (is_living_in m d)
    → MOST_HALF_STEPS < m.half_steps + count
    → Decides s (Commands.Step name count) (Err Limit)
step_limit m s name count d g st named living most =
    let p = is_named m s name d st named in
    let same = st.clock.half_steps in (
      omega (arith, most, same),
      λ r lt. step_breaks s name count d p (sym (living_same m s d g st) ∙ living) r (λ z. absurd (is_another Limit r Limit lt (omega arith) z)),
    )

pub death_ordered : (m : Machine) (s : State) (name : List ℕ) (late : Bool) (d : ℕ) → IsGood s → StandsFor m s → device_named m.devices.names name ≡ Some d → IsTrue (is_living_in m d)
    → Decides s (Commands.Die name late) (Ok (Orders.Die d late))
death_ordered m s name late d g st named living =
    let p = is_named m s name d st named in
    ((d, p, refl), λ r. death_breaks s name late d p (sym (living_same m s d g st) ∙ living) r)

pub start_ordered : (m : Machine) (s : State) (name : List ℕ) (d : ℕ) → IsGood s → StandsFor m s → device_named m.devices.names name ≡ Some d → IsTrue (is_linked_in m.devices d)
    → Decides s (Commands.Start name) (Ok (Orders.Start d))
start_ordered m s name d g st named linked =
    let p = is_named m s name d st named in
    ((d, p, refl), λ r. start_breaks s name d p r (λ z. sym (linked_same m.devices s d g st.devices) ∙ linked))

pub start_unlinked : (m : Machine) (s : State) (name : List ℕ) (d : ℕ) → IsGood s → StandsFor m s → device_named m.devices.names name ≡ Some d → IsFalse (is_linked_in m.devices d)
    → Decides s (Commands.Start name) (Err NotController)
start_unlinked m s name d g st named off =
    let p = is_named m s name d st named in (
      (d, p, sym (linked_same m.devices s d g st.devices) ∙ off),
      λ r lt. start_breaks s name d p r (λ z. absurd (is_another NotController r NotController lt (omega arith) z)),
    )
