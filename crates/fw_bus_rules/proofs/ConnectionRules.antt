-- A command that asks a controller for a connection is decided by whether the controller lives, and by what it answers.
use Rattle.std.proofs.Common.{◌≡◌, ℕ, ◌<◌, ◌≤◌, List, [], ◌∷◌, Option, None, Some, Ok, Err, IsTrue, IsFalse, inl, inr, refl, ap, sym, subst, ◌∙◌, arith}
use Rattle.std.specs.Prelude.{⊤}
use Rattle.std.specs.declared.result.Result.{Result}
use Rattle.fw_terms.specs.declared.plug.PlugAt.{PlugAt}
use Rattle.fw_script_command.specs.declared.command.Command.{Command}
use Rattle.fw_script_command.specs.declared.command.Command.TheVariants as Commands
use Rattle.fw_devices.specs.Network.{device_named}
use Rattle.fw_cmp.specs.declared.outcome.StartFault.{StartFault}
use Rattle.fw_cmp.specs.declared.outcome.StartFault.TheVariants as Refusals
use Rattle.fw_order.specs.declared.order.Order.{Order}
use Rattle.fw_order.specs.declared.order.Order.TheVariants as Orders
use Rattle.fw_order.specs.declared.order.Wanted.{Wanted}
use Rattle.fw_order.specs.declared.rule.RuleFault.{RuleFault}
use Rattle.fw_order.specs.declared.rule.RuleFault.TheVariants.{UnknownName, NotController, TableFull, Busy, NoSuchConnection, NotOwnPlug}
use Rattle.fw_model_run.specs.State.{State, is_living}
use Rattle.fw_model_run.specs.Afterwards.{start_of}
use Rattle.fw_model_run.specs.Good.{IsGood}
use Rattle.fw_model_run.specs.Rules.{Breaks, Decides, IsOrder, rank}
use Rattle.fw_model_run.specs.Named.{IsNamed, IsRefused, IsWanted, names_of, plug_of}
use Rattle.fw_model_run.proofs.OneLog.{one_wanted}
use Rattle.fw_bus_state.specs.declared.machine.Machine.{Machine}
use Rattle.fw_bus_rules.specs.Decisions.{ConnectionDecided, rule_of}
use Rattle.fw_bus_state.specs.Stands.{StandsFor, is_living_in}
use Rattle.fw_bus_state.specs.Tables.{states_of}
use Rattle.fw_bus_state.proofs.Living.{living_same}
use Rattle.fw_cmp.specs.Losses.{Listening}
use Rattle.fw_cmp.specs.Starts.{break_fault}
use Rattle.fw_model_run.proofs.Truth.{breaks_as, start_same}
use Rattle.fw_bus_state.proofs.Heard.{at_same}
use Rattle.fw_bus_rules.proofs.FirstBroken.{AreKnown, all_known, is_another, is_so, one_name}

-- the command asks for a connection
abbrev pub IsAsking : Command → Type 0
IsAsking (Commands.Connect name out into channel overhead) = ⊤
IsAsking (Commands.Broadcast name out overhead) = ⊤
IsAsking (Commands.Listen name into) = ⊤
IsAsking _ = ⊥

-- ---- what is asked for

wanted_order : (s : State) (c : Command) (d : ℕ) (w : Wanted) (i : ℕ) → IsAsking c → IsWanted s c d w → start_of d w (s.controllers d) ≡ Ok i → IsOrder s c (Orders.Connect d w i)
wanted_order s (Commands.Connect name out into channel overhead) d w i asks is takes = (d, w, is, i, takes, refl)
wanted_order s (Commands.Broadcast name out overhead) d w i asks is takes = (d, w, is, i, takes, refl)
wanted_order s (Commands.Listen name into) d w i asks is takes = (d, w, is, i, takes, refl)
wanted_order s c d w i asks is takes = absurd asks

-- the controller's answer is the one by which the command is refused
refused_start : (s : State) (c : Command) (d : ℕ) (w : Wanted) (f : StartFault) → IsAsking c → IsWanted s c d w → IsRefused s c f → start_of d w (s.controllers d) ≡ Err f
refused_start s c d w f asks is h = go c asks is h
  where
    same : (c : Command) (e : ℕ) (v : Wanted) → IsAsking c → IsWanted s c d w → IsWanted s c e v → start_of e v (s.controllers e) ≡ Err f → start_of d w (s.controllers d) ≡ Err f
    same c e v asks is other h = let one = one_wanted s c d e w v is other in (λ i. start_of (one.0 i) (one.1 i) (s.controllers (one.0 i))) ∙ h

    go : (c : Command) → IsAsking c → IsWanted s c d w → IsRefused s c f → start_of d w (s.controllers d) ≡ Err f
    go (Commands.Connect name out into channel overhead) asks is h = same (Commands.Connect name out into channel overhead) h.0 h.1 asks is h.2 h.3
    go (Commands.Broadcast name out overhead) asks is h = same (Commands.Broadcast name out overhead) h.0 h.1 asks is h.2 h.3
    go (Commands.Listen name into) asks is h = same (Commands.Listen name into) h.0 h.1 asks is h.2 h.3
    go c asks is h = absurd asks

refusal : (s : State) (c : Command) (d : ℕ) (w : Wanted) (f : StartFault) → IsAsking c → IsWanted s c d w → start_of d w (s.controllers d) ≡ Err f → IsRefused s c f
refusal s (Commands.Connect name out into channel overhead) d w f asks is h = (d, w, is, h)
refusal s (Commands.Broadcast name out overhead) d w f asks is h = (d, w, is, h)
refusal s (Commands.Listen name into) d w f asks is h = (d, w, is, h)
refusal s c d w f asks is h = absurd asks

-- ---- plugs

pub plug_is : (p : PlugAt) (plug : List ℕ × ℕ) → p.plug ≡ plug.1 → p ≡ plug_of p.device plug
plug_is p plug e = λ i. record { device = p.device; plug = e i }

-- a name is of the same device by the machine and by the run
pub is_named : (m : Machine) (s : State) (name : List ℕ) (d : ℕ) → StandsFor m s → device_named m.devices.names name ≡ Some d → IsNamed s name d
is_named m s name d st e = subst (λ names. device_named names name ≡ Some d) st.devices.names e

-- ---- rules

-- what of a command's controller is asked
pub record Asked (s : State) (c : Command) (d : ℕ) (w : Wanted) : Type 0 where
  pub asks : IsAsking c
  pub known : AreKnown s (names_of c)
  pub wanted : IsWanted s c d w

-- it breaks a rule if the controller does not live, or refuses
connection_breaks : (s : State) (c : Command) (d : ℕ) (w : Wanted) → Asked s c d w → (g : RuleFault) → (g ≡ NotController → IsTrue (is_living s d))
    → ((f : StartFault) → g ≡ rule_of f → start_of d w (s.controllers d) ≡ Err f → ⊥) → Breaks s c g → ⊥
connection_breaks s c d w a g living accepted h = go c a.asks a.known a.wanted g living accepted h
  where
    go : (c : Command) → IsAsking c → AreKnown s (names_of c) → IsWanted s c d w → (g : RuleFault) → (g ≡ NotController → IsTrue (is_living s d))
        → ((f : StartFault) → g ≡ rule_of f → start_of d w (s.controllers d) ≡ Err f → ⊥) → Breaks s c g → ⊥
    go c asks known is UnknownName living accepted h = all_known s (names_of c) known h
    go c asks known is NotOwnPlug living accepted h = accepted Refusals.NotOwnPlug refl (refused_start s c d w Refusals.NotOwnPlug asks is h)
    go c asks known is NoSuchConnection living accepted h = accepted Refusals.NoSuchConnection refl (refused_start s c d w Refusals.NoSuchConnection asks is h)
    go c asks known is TableFull living accepted h = accepted Refusals.TableFull refl (refused_start s c d w Refusals.TableFull asks is h)
    go c asks known is Busy living accepted h = accepted Refusals.Busy refl (refused_start s c d w Refusals.Busy asks is h)
    go (Commands.Connect name out into channel overhead) asks known is NotController living accepted h = is_so s (is_living s) name d is.0 (living refl) h
    go (Commands.Broadcast name out overhead) asks known is NotController living accepted h = is_so s (is_living s) name d is.0 (living refl) h
    go (Commands.Listen name into) asks known is NotController living accepted h = is_so s (is_living s) name d is.0 (living refl) h
    go (Commands.Connect name out into channel overhead) asks known is g living accepted h = h
    go (Commands.Broadcast name out overhead) asks known is g living accepted h = h
    go (Commands.Listen name into) asks known is g living accepted h = h
    go c asks known is g living accepted h = absurd asks

no_controller : (s : State) (c : Command) (d : ℕ) (w : Wanted) → IsAsking c → IsWanted s c d w → IsFalse (is_living s d) → Breaks s c NotController
no_controller s (Commands.Connect name out into channel overhead) d w asks is dead = (d, is.0, dead)
no_controller s (Commands.Broadcast name out overhead) d w asks is dead = (d, is.0, dead)
no_controller s (Commands.Listen name into) d w asks is dead = (d, is.0, dead)
no_controller s c d w asks is dead = absurd asks

refusal_breaks : (s : State) (c : Command) (f : StartFault) → IsRefused s c f → Breaks s c (rule_of f)
refusal_breaks s c Refusals.TableFull h = h
refusal_breaks s c Refusals.Busy h = h
refusal_breaks s c Refusals.NoSuchConnection h = h
refusal_breaks s c Refusals.NotOwnPlug h = h

-- ---- what is decided

later_rule : (f : StartFault) → 10 ≤ rank (rule_of f)
later_rule Refusals.TableFull = omega arith
later_rule Refusals.Busy = omega arith
later_rule Refusals.NoSuchConnection = omega arith
later_rule Refusals.NotOwnPlug = omega arith

ok_no_fault : (r : Result ℕ StartFault) (i : ℕ) (f : StartFault) → r ≡ Ok i → r ≡ Err f → ⊥
ok_no_fault r i f ok e = cc

same_fault : (r : Result ℕ StartFault) (f k : StartFault) → r ≡ Err f → r ≡ Err k → f ≡ k
same_fault r f k e g = cc

without_controller : (s : State) (c : Command) (d : ℕ) (w : Wanted) → Asked s c d w → IsFalse (is_living s d) → Decides s c (Err NotController)
without_controller s c d w a dead =
    (no_controller s c d w a.asks a.wanted dead, λ g lt. connection_breaks s c d w a g (λ e. absurd (is_another NotController g NotController lt (omega arith) e)) (λ f e is. later g lt f e))
  where
    later : (g : RuleFault) → rank g < 8 → (f : StartFault) → g ≡ rule_of f → ⊥
    later g lt f e = let late = later_rule f in is_another NotController g (rule_of f) lt (omega arith) e

with_refusal : (s : State) (c : Command) (d : ℕ) (w : Wanted) (f : StartFault) → Asked s c d w → IsTrue (is_living s d) → start_of d w (s.controllers d) ≡ Err f → Decides s c (Err (rule_of f))
with_refusal s c d w f a living h = (refusal_breaks s c f (refusal s c d w f a.asks a.wanted h), λ g lt. connection_breaks s c d w a g (λ e. living) (other g lt))
  where
    other : (g : RuleFault) → rank g < rank (rule_of f) → (k : StartFault) → g ≡ rule_of k → start_of d w (s.controllers d) ≡ Err k → ⊥
    other g lt k e is =
        let same : rank (rule_of f) ≡ rank (rule_of k) = ap (λ f. rank (rule_of f)) (same_fault (start_of d w (s.controllers d)) f k h is) in
        is_another (rule_of f) g (rule_of k) lt (omega arith) e

-- what the machine decides of a connection is decided of the command that asks for it
pub connection_decided : (m : Machine) (s : State) (c : Command) (d : ℕ) (w : Wanted) (r : Result Order RuleFault) → IsGood s → StandsFor m s → Asked s c d w → ConnectionDecided m d w r
    → Decides s c r
connection_decided m s c d w r g st a h = go r h
  where
    lives : is_living_in m d ≡ is_living s d
    lives = living_same m s d g st

    same : start_of d w (states_of m.controllers d).state ≡ start_of d w (s.controllers d)
    same = ap (λ (c : ℕ → Listening). start_of d w (c d).state) st.table.states_are ∙ start_same d w (s.controllers d) (s.lost d)

    answers : (o : Result ℕ StartFault) → start_of d w (states_of m.controllers d).state ≡ o → start_of d w (s.controllers d) ≡ o
    answers o e = sym same ∙ e

    go : (r : Result Order RuleFault) → ConnectionDecided m d w r → Decides s c r
    go (Ok o) h =
        let living : IsTrue (is_living s d) = sym lives ∙ h.2 in
        let takes = answers (Ok h.0) h.3 in
        let ordered : IsOrder s c o = subst (IsOrder s c) (sym h.1) (wanted_order s c d w h.0 a.asks a.wanted takes) in
        (ordered, λ g. connection_breaks s c d w a g (λ e. living) (λ f e. ok_no_fault (start_of d w (s.controllers d)) h.0 f takes))
    go (Err rule) (inl h) = subst (λ rule. Decides s c (Err rule)) (sym h.0) (without_controller s c d w a (sym lives ∙ h.1))
    go (Err rule) (inr h) = subst (λ rule. Decides s c (Err rule)) (sym h.1) (with_refusal s c d w h.0 a (sym lives ∙ h.2) (answers (Err h.0) h.3))

-- ---- breaks

-- a break of a living controller breaks no rule but those by which the controller refuses it
break_breaks : (s : State) (name : List ℕ) (slot d : ℕ) → IsNamed s name d → IsTrue (is_living s d) → (g : RuleFault)
    → ((f : StartFault) → g ≡ rule_of f → break_fault (s.controllers d) slot ≡ Some f → ⊥) → Breaks s (Commands.Break name slot) g → ⊥
break_breaks s name slot d p living g accepted h = go g accepted h
  where
    refused : (f : StartFault) → IsRefused s (Commands.Break name slot) f → break_fault (s.controllers d) slot ≡ Some f
    refused f h = ap (λ k. break_fault (s.controllers k) slot) (one_name s name d h.0 p h.1) ∙ h.2

    go : (g : RuleFault) → ((f : StartFault) → g ≡ rule_of f → break_fault (s.controllers d) slot ≡ Some f → ⊥) → Breaks s (Commands.Break name slot) g → ⊥
    go UnknownName accepted h = all_known s (name ∷ []) ((d, p), tt) h
    go NotController accepted h = is_so s (is_living s) name d p living h
    go NotOwnPlug accepted h = accepted Refusals.NotOwnPlug refl (refused Refusals.NotOwnPlug h)
    go NoSuchConnection accepted h = accepted Refusals.NoSuchConnection refl (refused Refusals.NoSuchConnection h)
    go TableFull accepted h = accepted Refusals.TableFull refl (refused Refusals.TableFull h)
    go Busy accepted h = accepted Refusals.Busy refl (refused Refusals.Busy h)
    go g accepted h = h

one_refusal : (o : Option StartFault) (f k : StartFault) → o ≡ Some f → o ≡ Some k → f ≡ k
one_refusal o f k e g = cc

no_refusal : (o : Option StartFault) (f : StartFault) → o ≡ None → o ≡ Some f → ⊥
no_refusal o f e g = cc

-- the controller of the machine refuses a break as that of the run
pub break_same : (m : Machine) (s : State) (d slot : ℕ) → StandsFor m s → break_fault (states_of m.controllers d).state slot ≡ break_fault (s.controllers d) slot
break_same m s d slot st = ap (λ (x : Listening). break_fault x.state slot) (at_same m s d st) ∙ breaks_as s d slot

pub break_ordered : (m : Machine) (s : State) (name : List ℕ) (slot d : ℕ) → IsGood s → StandsFor m s → device_named m.devices.names name ≡ Some d → IsTrue (is_living_in m d)
    → break_fault (states_of m.controllers d).state slot ≡ None → Decides s (Commands.Break name slot) (Ok (Orders.Break d slot))
break_ordered m s name slot d g st named lives none =
    let p = is_named m s name d st named in
    let living : IsTrue (is_living s d) = sym (living_same m s d g st) ∙ lives in
    let accepted = sym (break_same m s d slot st) ∙ none in
    ((d, p, refl), λ g. break_breaks s name slot d p living g (λ f e. no_refusal (break_fault (s.controllers d) slot) f accepted))

pub break_refused : (m : Machine) (s : State) (name : List ℕ) (slot d : ℕ) (f : StartFault) → IsGood s → StandsFor m s → device_named m.devices.names name ≡ Some d → IsTrue (is_living_in m d)
    → break_fault (states_of m.controllers d).state slot ≡ Some f → Decides s (Commands.Break name slot) (Err (rule_of f))
break_refused m s name slot d f g st named lives some = (refusal_breaks s (Commands.Break name slot) f (d, p, refused), λ g lt. break_breaks s name slot d p living g (other g lt))
  where
    p : IsNamed s name d
    p = is_named m s name d st named

    living : IsTrue (is_living s d)
    living = sym (living_same m s d g st) ∙ lives

    refused : break_fault (s.controllers d) slot ≡ Some f
    refused = sym (break_same m s d slot st) ∙ some

    other : (g : RuleFault) → rank g < rank (rule_of f) → (k : StartFault) → g ≡ rule_of k → break_fault (s.controllers d) slot ≡ Some k → ⊥
    other g lt k e is =
        let same : rank (rule_of f) ≡ rank (rule_of k) = ap (λ f. rank (rule_of f)) (one_refusal (break_fault (s.controllers d) slot) f k refused is) in
        is_another (rule_of f) g (rule_of k) lt (omega arith) e
