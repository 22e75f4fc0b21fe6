-- The first rule that a transaction, a lost response or a register that is shown breaks.
use Rattle.std.proofs.Common.{◌≡◌, ℕ, ◌<◌, ◌≤◌, List, [], ◌∷◌, ◌==◌, Option, Some, None, Ok, Err, IsTrue, IsFalse, inl, inr, refl, ap, sym, ◌∙◌, arith}
use Rattle.std.proofs.lemmas.Bool.{false≢true, true≢false}
use Rattle.fw_script_command.specs.declared.command.Command.TheVariants as Commands
use Rattle.fw_order.specs.declared.limits.TheConstants.{MOST_RESETS}
use Rattle.fw_order.specs.declared.order.Order.TheVariants as Orders
use Rattle.fw_order.specs.declared.order.Access.{Access}
use Rattle.fw_order.specs.declared.order.Access.TheVariants.{Read, Swap}
use Rattle.fw_order.specs.declared.rule.RuleFault.{RuleFault}
use Rattle.fw_order.specs.declared.rule.RuleFault.TheVariants.{UnknownName, NotController, Guarded, NoRegister, Limit, TableFull, Busy, NoSuchConnection, NotOwnPlug, NothingStands, OffBus}
use Rattle.fw_model_run.specs.State.{State, is_linked, is_living, living, manager_in}
use Rattle.fw_model_run.specs.HalfSteps.{has_request}
use Rattle.fw_model_run.specs.Spaces.{read_at}
use Rattle.fw_model_run.specs.Rules.{Breaks, Decides, rank}
use Rattle.fw_model_run.specs.Named.{HasNoManager, IsNamed, IsShown}
use Rattle.fw_model_run.proofs.OneLog.{one_order}
use Rattle.fw_bus_rules.specs.Decisions.{command_of}
use Rattle.fw_bus_state.specs.Orders.{is_guarded_by}
use Rattle.fw_bus_rules.proofs.FirstBroken.{is_so, all_known, is_another}

-- ---- transactions

-- a transaction of a living controller breaks no rule but those of nodes that do not answer and of guarded registers
transaction_breaks : (s : State) (from to : List ℕ) (a : Access) (d e : ℕ) → IsNamed s from d → IsNamed s to e → (g : RuleFault) → (g ≡ NotController → IsTrue (is_living s d))
    → (g ≡ OffBus → IsTrue (is_linked s e))
    → (g ≡ Guarded → IsFalse (is_guarded_by s.election.begun a)) → Breaks s (command_of from to a) g → ⊥
transaction_breaks s from to (Read offset) d e p q UnknownName living linked free h = all_known s (from ∷ to ∷ []) ((d, p), ((e, q), tt)) h
transaction_breaks s from to (Read offset) d e p q NotController living linked free h = is_so s (is_living s) from d p (living refl) h
transaction_breaks s from to (Read offset) d e p q OffBus living linked free h = is_so s (is_linked s) to e q (linked refl) h
transaction_breaks s from to (Read offset) d e p q NotOwnPlug living linked free h = h.2
transaction_breaks s from to (Read offset) d e p q NoSuchConnection living linked free h = h.2
transaction_breaks s from to (Read offset) d e p q TableFull living linked free h = h.2
transaction_breaks s from to (Read offset) d e p q Busy living linked free h = h.2
transaction_breaks s from to (Read offset) d e p q g living linked free h = h
transaction_breaks s from to (Swap offset swap) d e p q UnknownName living linked free h = all_known s (from ∷ to ∷ []) ((d, p), ((e, q), tt)) h
transaction_breaks s from to (Swap offset swap) d e p q NotController living linked free h = is_so s (is_living s) from d p (living refl) h
transaction_breaks s from to (Swap offset swap) d e p q OffBus living linked free h = is_so s (is_linked s) to e q (linked refl) h
transaction_breaks s from to (Swap offset swap) d e p q NotOwnPlug living linked free h = h.2
transaction_breaks s from to (Swap offset swap) d e p q NoSuchConnection living linked free h = h.2
transaction_breaks s from to (Swap offset swap) d e p q TableFull living linked free h = h.2
transaction_breaks s from to (Swap offset swap) d e p q Busy living linked free h = h.2
transaction_breaks s from to (Swap offset swap) d e p q Guarded living linked free h = true≢false (sym h ∙ free refl)
transaction_breaks s from to (Swap offset swap) d e p q g living linked free h = h

pub transaction_guarded : (s : State) (from to : List ℕ) (a : Access) (d e : ℕ) → IsNamed s from d → IsNamed s to e → IsTrue (is_living s d) → IsTrue (is_linked s e)
    → IsTrue (is_guarded_by s.election.begun a)
    → Decides s (command_of from to a) (Err Guarded)
transaction_guarded s from to (Read offset) d e p q living linked guarded = absurd (false≢true guarded)
transaction_guarded s from to (Swap offset swap) d e p q living linked guarded =
    (guarded, λ g lt. transaction_breaks s from to (Swap offset swap) d e p q g (λ same. living) (λ same. linked) (λ same. absurd (is_another Guarded g Guarded lt (omega arith) same)))

pub transaction_off : (s : State) (from to : List ℕ) (a : Access) (d e : ℕ) → IsNamed s from d → IsNamed s to e → IsTrue (is_living s d) → IsFalse (is_linked s e)
    → Decides s (command_of from to a) (Err OffBus)
transaction_off s from to (Read offset) d e p q living off = (
  (e, q, off),
  λ g lt. transaction_breaks s from to (Read offset) d e p q g (λ same. living)
      (λ same. absurd (is_another OffBus g OffBus lt (omega arith) same)) (λ same. absurd (is_another OffBus g Guarded lt (omega arith) same)),
)
transaction_off s from to (Swap offset swap) d e p q living off = (
  (e, q, off),
  λ g lt. transaction_breaks s from to (Swap offset swap) d e p q g (λ same. living)
      (λ same. absurd (is_another OffBus g OffBus lt (omega arith) same)) (λ same. absurd (is_another OffBus g Guarded lt (omega arith) same)),
)

pub transaction_ordered : (s : State) (from to : List ℕ) (a : Access) (d e : ℕ) → IsNamed s from d → IsNamed s to e → IsTrue (is_living s d) → IsTrue (is_linked s e)
    → IsFalse (is_guarded_by s.election.begun a)
    → Decides s (command_of from to a) (Ok (Orders.Transact (record { from = d; to = e; access = a })))
transaction_ordered s from to (Read offset) d e p q living linked free =
    ((d, e, p, q, refl), λ g. transaction_breaks s from to (Read offset) d e p q g (λ same. living) (λ same. linked) (λ same. free))
transaction_ordered s from to (Swap offset swap) d e p q living linked free =
    ((d, e, p, q, refl), λ g. transaction_breaks s from to (Swap offset swap) d e p q g (λ same. living) (λ same. linked) (λ same. free))

pub transaction_dead : (s : State) (from to : List ℕ) (a : Access) (d e : ℕ) → IsNamed s from d → IsNamed s to e → IsFalse (is_living s d) → Decides s (command_of from to a) (Err NotController)
transaction_dead s from to (Read offset) d e p q dead = (
  (d, p, dead),
  λ g lt. transaction_breaks s from to (Read offset) d e p q g (λ same. absurd (is_another NotController g NotController lt (omega arith) same))
      (λ same. absurd (is_another NotController g OffBus lt (omega arith) same)) (λ same. absurd (is_another NotController g Guarded lt (omega arith) same)),
)
transaction_dead s from to (Swap offset swap) d e p q dead = (
  (d, p, dead),
  λ g lt. transaction_breaks s from to (Swap offset swap) d e p q g (λ same. absurd (is_another NotController g NotController lt (omega arith) same))
      (λ same. absurd (is_another NotController g OffBus lt (omega arith) same)) (λ same. absurd (is_another NotController g Guarded lt (omega arith) same)),
)

-- ---- lost responses

-- a lost response of a living controller breaks no rule but that nothing stands, and the limit
loss_breaks : (s : State) (name : List ℕ) (d : ℕ) → IsNamed s name d → IsTrue (is_living s d) → (g : RuleFault) → (g ≡ NothingStands → IsTrue (has_request (s.controllers d).current))
    → (g ≡ Limit → MOST_RESETS ≤ s.resets → ⊥) → Breaks s (Commands.Lose name) g → ⊥
loss_breaks s name d p living UnknownName stands few h = all_known s (name ∷ []) ((d, p), tt) h
loss_breaks s name d p living NotController stands few h = is_so s (is_living s) name d p living h
loss_breaks s name d p living NothingStands stands few h = is_so s (λ e. has_request (s.controllers e).current) name d p (stands refl) h
loss_breaks s name d p living Limit stands few h = few refl h
loss_breaks s name d p living NotOwnPlug stands few h = h.2
loss_breaks s name d p living NoSuchConnection stands few h = h.2
loss_breaks s name d p living TableFull stands few h = h.2
loss_breaks s name d p living Busy stands few h = h.2
loss_breaks s name d p living g stands few h = h

pub loss_of_nothing : (s : State) (name : List ℕ) (d : ℕ) → IsNamed s name d → IsTrue (is_living s d) → IsFalse (has_request (s.controllers d).current)
    → Decides s (Commands.Lose name) (Err NothingStands)
loss_of_nothing s name d p living none = (
  (d, p, none),
  λ g lt. loss_breaks s name d p living g
      (λ same. absurd (is_another NothingStands g NothingStands lt (omega arith) same)) (λ same most. is_another NothingStands g Limit lt (omega arith) same),
)

pub loss_at_limit : (s : State) (name : List ℕ) (d : ℕ) → IsNamed s name d → IsTrue (is_living s d) → IsTrue (has_request (s.controllers d).current) → MOST_RESETS ≤ s.resets
    → Decides s (Commands.Lose name) (Err Limit)
loss_at_limit s name d p living stands most = (most, λ g lt. loss_breaks s name d p living g (λ same. stands) (λ same past. is_another Limit g Limit lt (omega arith) same))

pub loss_ordered : (s : State) (name : List ℕ) (d : ℕ) → IsNamed s name d → IsTrue (is_living s d) → IsTrue (has_request (s.controllers d).current) → s.resets < MOST_RESETS
    → Decides s (Commands.Lose name) (Ok (Orders.Lose d))
loss_ordered s name d p living stands few = ((d, p, refl), λ g. loss_breaks s name d p living g (λ same. stands) (λ same most. omega (arith, few, most)))

-- ---- registers that are shown

known_shown : (s : State) (name : Option (List ℕ)) (offset d : ℕ) → IsShown s name d → Breaks s (Commands.Show name offset) UnknownName → ⊥
known_shown s None offset d is h = false≢true h
known_shown s (Some name) offset d is h = all_known s (name ∷ []) ((d, is), tt) h

linked_shown : (s : State) (name : Option (List ℕ)) (offset d : ℕ) → IsShown s name d → IsTrue (is_linked s d) → Breaks s (Commands.Show name offset) OffBus → ⊥
linked_shown s None offset d is linked h = h
linked_shown s (Some name) offset d is linked h = is_so s (is_linked s) name d is linked h

one_shown : (s : State) (name : Option (List ℕ)) (offset d e : ℕ) → IsShown s name d → IsShown s name e → d ≡ e
one_shown s name offset d e p q = let same : Orders.Show d offset ≡ Orders.Show e offset = one_order s (Commands.Show name offset) _ _ (d, p, refl) (e, q, refl) in cc

managed : (s : State) (name : Option (List ℕ)) (d : ℕ) → IsShown s name d → HasNoManager s name → ⊥
managed s None d is h = let z : ⊥ = cc (sym is.1 ∙ h) in z
managed s (Some name) d is h = h

-- a register of a linked device that is shown breaks no rule, or that of registers that are not there
show_breaks : (s : State) (name : Option (List ℕ)) (offset d : ℕ) → IsShown s name d → IsTrue (is_linked s d) → (g : RuleFault) → (g ≡ NoRegister → IsTrue ((read_at s d offset).rcode == 0))
    → Breaks s (Commands.Show name offset) g → ⊥
show_breaks s name offset d is linked UnknownName there h = known_shown s name offset d is h
show_breaks s name offset d is linked OffBus there h = linked_shown s name offset d is linked h
show_breaks s name offset d is linked NoRegister there (inl h) = managed s name d is h
show_breaks s name offset d is linked NoRegister there (inr h) =
    true≢false (sym (there refl) ∙ ap (λ d. (read_at s d offset).rcode == 0) (one_shown s name offset d h.0 is h.1) ∙ h.2)
show_breaks s name offset d is linked NotOwnPlug there h = h.2
show_breaks s name offset d is linked NoSuchConnection there h = h.2
show_breaks s name offset d is linked TableFull there h = h.2
show_breaks s name offset d is linked Busy there h = h.2
show_breaks s name offset d is linked g there h = h

pub show_ordered : (s : State) (name : Option (List ℕ)) (offset d : ℕ) → IsShown s name d → IsTrue (is_linked s d) → IsTrue ((read_at s d offset).rcode == 0)
    → Decides s (Commands.Show name offset) (Ok (Orders.Show d offset))
show_ordered s name offset d is linked there = ((d, is, refl), λ g. show_breaks s name offset d is linked g (λ same. there))

pub show_no_register : (s : State) (name : Option (List ℕ)) (offset d : ℕ) → IsShown s name d → IsTrue (is_linked s d) → IsFalse ((read_at s d offset).rcode == 0)
    → Decides s (Commands.Show name offset) (Err NoRegister)
show_no_register s name offset d is linked off =
    (inr (d, is, off), λ g lt. show_breaks s name offset d is linked g (λ same. absurd (is_another NoRegister g NoRegister lt (omega arith) same)))

-- with no manager there is nothing to show
pub show_no_manager : (s : State) (offset : ℕ) → manager_in s.account.latest ≡ None → Decides s (Commands.Show None offset) (Err NoRegister)
show_no_manager s offset none = (inl none, go)
  where
    go : (g : RuleFault) → rank g < 18 → Breaks s (Commands.Show None offset) g → ⊥
    go UnknownName lt h = false≢true h
    go NoRegister lt h = absurd (omega arith)
    go NotOwnPlug lt h = h.2
    go NoSuchConnection lt h = h.2
    go TableFull lt h = h.2
    go Busy lt h = h.2
    go g lt h = h

-- a device off the bus, or without a link, shows nothing
pub show_off : (s : State) (name : List ℕ) (offset d : ℕ) → IsNamed s name d → IsFalse (is_linked s d) → Decides s (Commands.Show (Some name) offset) (Err OffBus)
show_off s name offset d is off = ((d, is, off), go)
  where
    go : (g : RuleFault) → rank g < 10 → Breaks s (Commands.Show (Some name) offset) g → ⊥
    go UnknownName lt h = all_known s (name ∷ []) ((d, is), tt) h
    go OffBus lt h = absurd (omega arith)
    go NoRegister lt h = absurd (omega arith)
    go NotOwnPlug lt h = h.2
    go NoSuchConnection lt h = h.2
    go TableFull lt h = h.2
    go Busy lt h = h.2
    go g lt h = h
