-- In a run the script swaps at no watched register.
use Rattle.fw_watch_runs.proofs.Common.{◌≡◌, ℕ, List, [], ◌∷◌, ◌++◌, ◌==◌, ◌&&◌, Bool, true, false, refl, sym, subst, Timed, State, Action}
use Rattle.fw_watch_runs.proofs.Common.{IsElsewhere, AreElsewhere}
use Rattle.std.proofs.Common.{◌||◌}
use Rattle.std.specs.Prelude.{⊤}
use Rattle.fw_script_command.specs.declared.command.Command.{Command}
use Rattle.fw_order.specs.declared.order.Order.{Order}
use Rattle.fw_model_run.specs.Carrying.{Carries}
use Rattle.fw_model_run.specs.Actions.{Ask}
use Rattle.fw_model_run.specs.Rules.{IsOrder}
use Rattle.fw_model_run.specs.Runs.{Run, begun, and_then}
use Rattle.fw_script_command.specs.declared.command.Command.TheVariants as Commands
use Rattle.fw_order.specs.declared.order.Order.TheVariants as order
use Rattle.fw_order.specs.declared.rule.RuleFault.TheVariants.{Guarded}
use Rattle.fw_csr.specs.declared.low_offset.TheConstants.{BUS_MANAGER_ID}
use Rattle.fw_model_run.specs.Named.{is_guarded_at, is_guarded_in}
use Rattle.fw_model_run.specs.Rules.{IsGuarded}
use Rattle.fw_model_run.proofs.Each.{Each, IsPartOf, each_carried}
use Rattle.fw_watch_runs.specs.Elsewhere.{SwapsElsewhere}

-- the order swaps at no register of the resource manager that holds channels and units, and at no plug register
abbrev pub OrdersElsewhere : Order → Type 0
OrdersElsewhere (order.Transact x) = SwapsElsewhere x.access
OrdersElsewhere _ = ⊤

elsewhere_append : (xs ys : List Action) → AreElsewhere xs → AreElsewhere ys → AreElsewhere (xs ++ ys)
elsewhere_append [] ys f g = g
elsewhere_append (x ∷ xs) ys f g = (f.0, elsewhere_append xs ys f.1 g)

elsewhere_each : (xs : List Action) → Each IsElsewhere xs → AreElsewhere xs
elsewhere_each [] f = tt
elsewhere_each (x ∷ xs) f = (f.0, elsewhere_each xs f.1)

pub carries_elsewhere : (s : State) (o : Order) (xs : List Action) (out : List Timed) (t : State) → OrdersElsewhere o → Carries s o xs out t → AreElsewhere xs
carries_elsewhere s o xs out t on f = elsewhere_each xs (each_carried IsElsewhere s o xs out t swaps f)
  where
    swaps : (a : Action) → IsPartOf o a → IsElsewhere a
    swaps (Ask x) is = subst OrdersElsewhere is on
    swaps _ is = tt

-- ---- commands

same_order : (o p : Order) → o ≡ p → OrdersElsewhere p → OrdersElsewhere o
same_order o p e f = subst OrdersElsewhere (sym e) f

not_guarded : (running : Bool) (offset : ℕ) → (is_guarded_in running offset ≡ true → ⊥) → is_guarded_at offset ≡ false
not_guarded running offset f = go (is_guarded_at offset) refl
  where
    left : (b c : Bool) → b ≡ true → (b || c) ≡ true
    left true c e = refl
    left false c e = cc

    go : (b : Bool) → is_guarded_at offset ≡ b → b ≡ false
    go true e = absurd (f (left (is_guarded_at offset) (running && (offset == BUS_MANAGER_ID)) e))
    go false e = refl

order_elsewhere : (s : State) (c : Command) (o : Order) → (IsGuarded s c → ⊥) → IsOrder s c o → OrdersElsewhere o
order_elsewhere s Commands.Withhold o guard f = same_order o _ f tt
order_elsewhere s (Commands.Device name kind ports speed) o guard f = same_order o _ f tt
order_elsewhere s (Commands.Cable a b) o guard f = same_order o _ f.4 tt
order_elsewhere s (Commands.Reset name) o guard f = same_order o _ f.2 tt
order_elsewhere s (Commands.Connect name out into channel overhead) o guard f = same_order o _ f.5 tt
order_elsewhere s (Commands.Broadcast name out overhead) o guard f = same_order o _ f.5 tt
order_elsewhere s (Commands.Listen name into) o guard f = same_order o _ f.5 tt
order_elsewhere s (Commands.Break name slot) o guard f = same_order o _ f.2 tt
order_elsewhere s (Commands.Step name count) o guard f = same_order o _ f.2 tt
order_elsewhere s (Commands.Settle rounds) o guard f = same_order o _ f tt
order_elsewhere s (Commands.Wait cycles) o guard f = same_order o _ f tt
order_elsewhere s (Commands.Cycles count) o guard f = same_order o _ f tt
order_elsewhere s (Commands.Die name late) o guard f = same_order o _ f.2 tt
order_elsewhere s (Commands.Lose name) o guard f = same_order o _ f.2 tt
order_elsewhere s (Commands.Start name) o guard f = same_order o _ f.2 tt
order_elsewhere s (Commands.Command name other frame) o guard f = same_order o _ f.4 tt
order_elsewhere s (Commands.Read name other offset) o guard f = same_order o _ f.4 tt
order_elsewhere s (Commands.Swap name other offset argument new) o guard f = same_order o _ f.4 (not_guarded s.election.begun offset guard)
order_elsewhere s (Commands.Insert name tape system) o guard f = same_order o _ f.2 tt
order_elsewhere s (Commands.Eject name) o guard f = same_order o _ f.2 tt
order_elsewhere s (Commands.Show name offset) o guard f = same_order o _ f.2 tt
order_elsewhere s (Commands.Candidate name) o guard f = same_order o _ f.2 tt
order_elsewhere s (Commands.Contend name count) o guard f = same_order o _ f.2 tt
order_elsewhere s (Commands.Dub name) o guard f = same_order o _ f.2 tt
order_elsewhere s Commands.End o guard f = same_order o _ f tt

-- ---- runs

elsewhere_then : (xs ys : List Action) → AreElsewhere xs → AreElsewhere ys → AreElsewhere (xs ++ ys)
elsewhere_then xs ys f g = elsewhere_append xs ys f g

pub run_elsewhere : (commands : List Command) (actions : List Action) (log : List Timed) (s : State) → Run commands actions log s → AreElsewhere actions
run_elsewhere commands actions log s begun = tt
run_elsewhere commands actions log s (and_then {commands = cs} {actions = xs} {log = prefix} {s = mid} r c o more out t decided f) =
    elsewhere_then xs more (run_elsewhere cs xs prefix mid r) (carries_elsewhere mid o more out t (order_elsewhere mid c o (decided.1 Guarded) decided.0) f)
