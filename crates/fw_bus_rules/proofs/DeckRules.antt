-- The first rule that a command to a deck breaks, and of tapes.
use Rattle.std.proofs.Common.{◌≡◌, ℕ, ◌<◌, inl, inr, List, [], ◌∷◌, true, false, ◌||◌, not, is_some, Some, None, Ok, Err, IsTrue, IsFalse, refl, ap, sym, subst, ◌∙◌, arith}
use Rattle.std.specs.List.{list_any}
use Rattle.fw_terms.specs.declared.device.DeviceKind.{DeviceKind}
use Rattle.fw_terms.specs.Devices.{has_unit}
use Rattle.fw_devices.specs.Network.{device_named, is_node, kind_at}
use Rattle.fw_script_command.specs.declared.command.Command.{Command}
use Rattle.fw_script_command.specs.declared.command.Command.TheVariants as Commands
use Rattle.fw_order.specs.declared.order.Order.TheVariants as Orders
use Rattle.fw_order.specs.declared.rule.RuleFault.{RuleFault}
use Rattle.fw_order.specs.declared.rule.RuleFault.TheVariants.{UnknownName, NoDeck, NotController, TableFull, Busy, NoSuchConnection, NotOwnPlug, OffBus}
use Rattle.fw_model_run.specs.Rules.{Breaks, Decides, rank, system_with}
use Rattle.fw_model_run.specs.Named.{IsNamed, is_declared, names_of}
use Rattle.fw_model_run.specs.State.{State, has_deck, is_on, is_linked, is_living}
use Rattle.fw_bus_state.specs.declared.machine.Machine.{Machine}
use Rattle.fw_bus_rules.specs.Decisions.{DeckDecided}
use Rattle.fw_bus_state.specs.Orders.{has_deck_in}
use Rattle.fw_bus_state.specs.Stands.{StandsFor}
use Rattle.fw_bus_rules.proofs.ConnectionRules.{is_named}
use Rattle.fw_bus_rules.proofs.FirstBroken.{all_known, is_another, is_so}
use Rattle.fw_model_run.specs.Good.{IsGood}
use Rattle.fw_bus_state.proofs.Nodes.{is_node_same}

-- ---- commands

-- a command of a living controller to a linked node breaks no rule
pub command_breaks : (s : State) (from to : List ℕ) (bytes : List ℕ) (d e : ℕ) → IsNamed s from d → IsNamed s to e → (g : RuleFault)
    → (g ≡ NotController → IsTrue (is_living s d)) → (g ≡ OffBus → IsTrue (is_linked s e)) → Breaks s (Commands.Command from to bytes) g → ⊥
command_breaks s from to bytes d e p q UnknownName living linked h = all_known s (from ∷ to ∷ []) ((d, p), ((e, q), tt)) h
command_breaks s from to bytes d e p q NotController living linked h = is_so s (is_living s) from d p (living refl) h
command_breaks s from to bytes d e p q OffBus living linked h = is_so s (is_linked s) to e q (linked refl) h
command_breaks s from to bytes d e p q NotOwnPlug living linked h = h.2
command_breaks s from to bytes d e p q NoSuchConnection living linked h = h.2
command_breaks s from to bytes d e p q TableFull living linked h = h.2
command_breaks s from to bytes d e p q Busy living linked h = h.2
command_breaks s from to bytes d e p q g living linked h = h

pub command_ordered : (s : State) (from to : List ℕ) (bytes : List ℕ) (d e : ℕ) → IsNamed s from d → IsNamed s to e → IsTrue (is_living s d) → IsTrue (is_linked s e)
    → Decides s (Commands.Command from to bytes) (Ok (Orders.Command d e bytes))
command_ordered s from to bytes d e p q living linked = ((d, e, p, q, refl), λ g. command_breaks s from to bytes d e p q g (λ z. living) (λ z. linked))

pub command_no_controller : (s : State) (from to : List ℕ) (bytes : List ℕ) (d e : ℕ) → IsNamed s from d → IsNamed s to e → IsFalse (is_living s d)
    → Decides s (Commands.Command from to bytes) (Err NotController)
command_no_controller s from to bytes d e p q dead = (
  (d, p, dead),
  λ g lt. command_breaks s from to bytes d e p q g (λ z. absurd (is_another NotController g NotController lt (omega arith) z))
      (λ z. absurd (is_another NotController g OffBus lt (omega arith) z)),
)

pub command_off : (s : State) (from to : List ℕ) (bytes : List ℕ) (d e : ℕ) → IsNamed s from d → IsNamed s to e → IsTrue (is_living s d) → IsFalse (is_linked s e)
    → Decides s (Commands.Command from to bytes) (Err OffBus)
command_off s from to bytes d e p q living off =
    ((e, q, off), λ g lt. command_breaks s from to bytes d e p q g (λ z. living) (λ z. absurd (is_another OffBus g OffBus lt (omega arith) z)))

-- ---- tapes

pub insert_breaks : (s : State) (name : List ℕ) (tape lines d : ℕ) → IsNamed s name d → (g : RuleFault) → (g ≡ NoDeck → IsTrue (has_deck s d)) → Breaks s (Commands.Insert name tape lines) g → ⊥
insert_breaks s name tape lines d p UnknownName deck h = all_known s (name ∷ []) ((d, p), tt) h
insert_breaks s name tape lines d p NoDeck deck h = is_so s (has_deck s) name d p (deck refl) h
insert_breaks s name tape lines d p NotOwnPlug deck h = h.2
insert_breaks s name tape lines d p NoSuchConnection deck h = h.2
insert_breaks s name tape lines d p TableFull deck h = h.2
insert_breaks s name tape lines d p Busy deck h = h.2
insert_breaks s name tape lines d p g deck h = h

pub eject_breaks : (s : State) (name : List ℕ) (d : ℕ) → IsNamed s name d → (g : RuleFault) → (g ≡ NoDeck → IsTrue (has_deck s d)) → Breaks s (Commands.Eject name) g → ⊥
eject_breaks s name d p UnknownName deck h = all_known s (name ∷ []) ((d, p), tt) h
eject_breaks s name d p NoDeck deck h = is_so s (has_deck s) name d p (deck refl) h
eject_breaks s name d p NotOwnPlug deck h = h.2
eject_breaks s name d p NoSuchConnection deck h = h.2
eject_breaks s name d p TableFull deck h = h.2
eject_breaks s name d p Busy deck h = h.2
eject_breaks s name d p g deck h = h

pub dub_breaks : (s : State) (name : List ℕ) (d : ℕ) → IsNamed s name d → (g : RuleFault) → (g ≡ NoDeck → IsTrue (has_deck s d)) → (g ≡ OffBus → IsTrue (is_on s d))
    → Breaks s (Commands.Dub name) g → ⊥
dub_breaks s name d p UnknownName deck on h = all_known s (name ∷ []) ((d, p), tt) h
dub_breaks s name d p NoDeck deck on h = is_so s (has_deck s) name d p (deck refl) h
dub_breaks s name d p OffBus deck on h = is_so s (is_on s) name d p (on refl) h
dub_breaks s name d p NotOwnPlug deck on h = h.2
dub_breaks s name d p NoSuchConnection deck on h = h.2
dub_breaks s name d p TableFull deck on h = h.2
dub_breaks s name d p Busy deck on h = h.2
dub_breaks s name d p g deck on h = h

-- ---- by the machine

decks_are : (m : Machine) (s : State) (d : ℕ) → StandsFor m s → has_deck_in m.devices d ≡ has_deck s d
decks_are m s d st = ap (λ (ks : List DeviceKind). has_unit (kind_at ks d)) st.devices.kinds

-- a deck of this name was found
pub insert_ordered : (m : Machine) (s : State) (name : List ℕ) (tape lines d : ℕ) → StandsFor m s → DeckDecided m name (Ok d)
    → Decides s (Commands.Insert name tape lines) (Ok (Orders.Insert d tape (system_with lines)))
insert_ordered m s name tape lines d st h =
    let p = is_named m s name d st h.0 in
    ((d, p, refl), λ g. insert_breaks s name tape lines d p g (λ z. sym (decks_are m s d st) ∙ h.2))

pub eject_ordered : (m : Machine) (s : State) (name : List ℕ) (d : ℕ) → StandsFor m s → DeckDecided m name (Ok d) → Decides s (Commands.Eject name) (Ok (Orders.Eject d))
eject_ordered m s name d st h =
    let p = is_named m s name d st h.0 in
    ((d, p, refl), λ g. eject_breaks s name d p g (λ z. sym (decks_are m s d st) ∙ h.2))

-- it is on the bus, or off
pub dub_ordered : (m : Machine) (s : State) (name : List ℕ) (d : ℕ) → IsGood s → StandsFor m s → DeckDecided m name (Ok d) → is_node m.devices.nodes d ≡ true
    → Decides s (Commands.Dub name) (Ok (Orders.Dub d))
dub_ordered m s name d good st h on =
    let p = is_named m s name d st h.0 in (
      (d, p, refl),
      λ g. dub_breaks s name d p g (λ z. sym (decks_are m s d st) ∙ h.2) (λ z. sym (is_node_same m.devices.nodes s st.devices.nodes good d) ∙ on),
    )

pub dub_off : (m : Machine) (s : State) (name : List ℕ) (d : ℕ) → IsGood s → StandsFor m s → DeckDecided m name (Ok d) → is_node m.devices.nodes d ≡ false
    → Decides s (Commands.Dub name) (Err OffBus)
dub_off m s name d good st h off =
    let p = is_named m s name d st h.0 in (
      (d, p, sym (is_node_same m.devices.nodes s st.devices.nodes good d) ∙ off),
      λ g lt. dub_breaks s name d p g (λ z. sym (decks_are m s d st) ∙ h.2) (λ z. absurd (is_another OffBus g OffBus lt (omega arith) z)),
    )

-- a device of this name is a computer or a relay
pub insert_no_deck : (m : Machine) (s : State) (name : List ℕ) (tape lines d : ℕ) → StandsFor m s → device_named m.devices.names name ≡ Some d → IsFalse (has_deck_in m.devices d)
    → Decides s (Commands.Insert name tape lines) (Err NoDeck)
insert_no_deck m s name tape lines d st named none =
    let p = is_named m s name d st named in
    ((d, p, sym (decks_are m s d st) ∙ none), λ g lt. insert_breaks s name tape lines d p g (λ z. absurd (is_another NoDeck g NoDeck lt (omega arith) z)))

pub eject_no_deck : (m : Machine) (s : State) (name : List ℕ) (d : ℕ) → StandsFor m s → device_named m.devices.names name ≡ Some d → IsFalse (has_deck_in m.devices d)
    → Decides s (Commands.Eject name) (Err NoDeck)
eject_no_deck m s name d st named none =
    let p = is_named m s name d st named in
    ((d, p, sym (decks_are m s d st) ∙ none), λ g lt. eject_breaks s name d p g (λ z. absurd (is_another NoDeck g NoDeck lt (omega arith) z)))

pub dub_no_deck : (m : Machine) (s : State) (name : List ℕ) (d : ℕ) → StandsFor m s → device_named m.devices.names name ≡ Some d → IsFalse (has_deck_in m.devices d)
    → Decides s (Commands.Dub name) (Err NoDeck)
dub_no_deck m s name d st named none =
    let p = is_named m s name d st named in (
      (d, p, sym (decks_are m s d st) ∙ none),
      λ g lt. dub_breaks s name d p g (λ z. absurd (is_another NoDeck g NoDeck lt (omega arith) z)) (λ z. absurd (is_another NoDeck g OffBus lt (omega arith) z)),
    )

-- ---- no device has the name

-- no rule comes before that of unknown names
none_before : (g : RuleFault) → rank g < 1 → ⊥
none_before UnknownName lt = omega (arith, lt)
none_before g lt = omega (arith, lt)

unknown_first : (s : State) (c : Command) → IsTrue (list_any (λ name. not (is_declared s name)) (names_of c)) → Decides s c (Err UnknownName)
unknown_first s c unknown = (unknown, λ g lt h. none_before g lt)

unknown_name : (m : Machine) (s : State) (name : List ℕ) → StandsFor m s → device_named m.devices.names name ≡ None → IsTrue (list_any (λ n. not (is_declared s n)) (name ∷ []))
unknown_name m s name st none = ap (λ o. not (is_some o) || false) (ap (λ (names : List (List ℕ)). device_named names name) (sym st.devices.names) ∙ none)

-- ---- a deck of the name was not found

pub insert_refused : (m : Machine) (s : State) (name : List ℕ) (tape lines : ℕ) (rule : RuleFault) → StandsFor m s → DeckDecided m name (Err rule)
    → Decides s (Commands.Insert name tape lines) (Err rule)
insert_refused m s name tape lines rule st (inl h) =
    subst (λ z. Decides s (Commands.Insert name tape lines) (Err z)) (sym h.0) (unknown_first s (Commands.Insert name tape lines) (unknown_name m s name st h.1))
insert_refused m s name tape lines rule st (inr h) =
    subst (λ z. Decides s (Commands.Insert name tape lines) (Err z)) (sym h.0) (insert_no_deck m s name tape lines h.1.0 st h.1.1 h.1.2)

pub eject_refused : (m : Machine) (s : State) (name : List ℕ) (rule : RuleFault) → StandsFor m s → DeckDecided m name (Err rule) → Decides s (Commands.Eject name) (Err rule)
eject_refused m s name rule st (inl h) =
    subst (λ z. Decides s (Commands.Eject name) (Err z)) (sym h.0) (unknown_first s (Commands.Eject name) (unknown_name m s name st h.1))
eject_refused m s name rule st (inr h) =
    subst (λ z. Decides s (Commands.Eject name) (Err z)) (sym h.0) (eject_no_deck m s name h.1.0 st h.1.1 h.1.2)

pub dub_refused : (m : Machine) (s : State) (name : List ℕ) (rule : RuleFault) → StandsFor m s → DeckDecided m name (Err rule) → Decides s (Commands.Dub name) (Err rule)
dub_refused m s name rule st (inl h) =
    subst (λ z. Decides s (Commands.Dub name) (Err z)) (sym h.0) (unknown_first s (Commands.Dub name) (unknown_name m s name st h.1))
dub_refused m s name rule st (inr h) =
    subst (λ z. Decides s (Commands.Dub name) (Err z)) (sym h.0) (dub_no_deck m s name h.1.0 st h.1.1 h.1.2)
