-- Only the end of the script writes the end of the log.
use Rattle.fw_model_run.proofs.Common.{◌≡◌, ◌≢◌, ◌⊎◌, inl, inr, ℕ, List, [], ◌∷◌, ◌++◌}
use Rattle.fw_model_run.proofs.Common.{Option, Some, None, refl, sym, subst, ◌∙◌, IsFalse, ⊤, Entry}
use Rattle.fw_model_run.proofs.Common.{Reset, EndEntry, Timed, Command, Order, at_most, State}
use Rattle.fw_model_run.proofs.Common.{Action, Finish}
use Rattle.fw_model_run.proofs.Common.{Transition, Transitions, Carries}
use Rattle.fw_model_run.proofs.Common.{Run, begun, and_then}
use Rattle.fw_log_entry.specs.Log.{is_end}
use Rattle.fw_model_run.specs.Rules.{IsOrder}
use Rattle.fw_model_run.specs.Logs.{HasNoEnd}
use Rattle.fw_model_run.proofs.Runs.{carries_steps}
use Rattle.fw_model_run.proofs.Marks.{Closes, Ends, Marks, Neither, closes, ends as ends_second, mark, nothing}
use Rattle.fw_model_run.proofs.Alterations.{marked, told_by}
use Rattle.fw_model_run.proofs.Effects.{Effect, altering, effect, resetting}
use Rattle.fw_model_run.proofs.Each.{Each, IsPartOf, each_carried}
use Rattle.fw_script_command.specs.declared.command.Command.TheVariants as Commands
use Rattle.fw_order.specs.declared.order.Order.TheVariants as order

-- ---- entries

-- none of the entries is the end of the log
abbrev pub IsUnended : List Timed → Type 0
IsUnended [] = ⊤
IsUnended (e ∷ es) = IsFalse (is_end e.what) × IsUnended es

pub unended_then : (xs ys : List Timed) → IsUnended xs → IsUnended ys → IsUnended (xs ++ ys)
unended_then [] ys f g = g
unended_then (x ∷ xs) ys f g = (f.0, unended_then xs ys f.1 g)

-- neither is the entry, if any
abbrev GoesOn : Option Entry → Type 0
GoesOn None = ⊤
GoesOn (Some e) = IsFalse (is_end e)

most_unended : (cycle : ℕ) (o : Option Entry) (out : List Timed) → GoesOn o → out ≡ at_most cycle o → IsUnended out
most_unended cycle None out f is = subst IsUnended (sym is) tt
most_unended cycle (Some e) out f is = subst IsUnended (sym is) (f, tt)

none_unended : (out : List Timed) → out ≡ [] → IsUnended out
none_unended out is = subst IsUnended (sym is) tt

-- one that is not the end of the log
other_unended : (o : Option Entry) → (mark o ≡ Closes → ⊥) → GoesOn o
other_unended None other = tt
other_unended (Some EndEntry) other = absurd (other refl)
other_unended (Some _) other = refl

-- ---- actions

abbrev pub IsNoFinish : Action → Type 0
IsNoFinish Finish = ⊥
IsNoFinish _ = ⊤

abbrev pub HasNoFinish : List Action → Type 0
HasNoFinish actions = Each IsNoFinish actions

step_unended : (s t : State) (a : Action) (out : List Timed) → IsNoFinish a → Transition s a out t → IsUnended out
step_unended s t a out nf x = go (effect s a out t x)
  where
    open_ : (o : Option Entry) → Marks a o → mark o ≡ Closes → ⊥
    open_ o (nothing is) f = let clash : Neither ≡ Closes = sym is ∙ f in cc clash
    open_ o (ends_second e is) f = let clash : Ends ≡ Closes = sym is ∙ f in cc clash
    open_ o (closes e is) f = absurd (subst IsNoFinish e nf)

    go : Effect s a out t → IsUnended out
    go (resetting counts half_steps n initiator free begins may r) = most_unended s.clock.cycle (Some (Reset r.entry)) out refl r.out_is
    go (altering y w out_is is ok) = most_unended _ (told_by s y) out (other_unended (told_by s y) (open_ (told_by s y) (marked s a y ok))) out_is

pub steps_unended : (s t : State) (actions : List Action) (out : List Timed) → HasNoFinish actions → Transitions s actions out t → IsUnended out
steps_unended s t [] out nf f = none_unended out f.0
steps_unended s t (a ∷ actions) out nf f = subst IsUnended (sym f.4) (unended_then f.0 f.1 (step_unended s f.2 a f.0 nf.0 f.3) (steps_unended f.2 t actions f.1 nf.1 f.5))

-- ---- orders

abbrev pub IsNoEnd : Order → Type 0
IsNoEnd order.End = ⊥
IsNoEnd _ = ⊤

pub no_finish : (s : State) (o : Order) (xs : List Action) (out : List Timed) (t : State) → IsNoEnd o → Carries s o xs out t → HasNoFinish xs
no_finish s o xs out t on f = each_carried IsNoFinish s o xs out t goes_on f
  where
    goes_on : (a : Action) → IsPartOf o a → IsNoFinish a
    goes_on Finish is = subst IsNoEnd is on
    goes_on _ is = tt

-- the order is the end, or it is not
pub end_or_none : (o : Order) → IsNoEnd o ⊎ (o ≡ order.End)
end_or_none order.End = inr refl
end_or_none _ = inl tt

-- ---- commands

is_no_end : (o p : Order) → o ≡ p → IsNoEnd p → IsNoEnd o
is_no_end o p e f = subst IsNoEnd (sym e) f

pub order_no_end : (s : State) (c : Command) (o : Order) → c ≢ Commands.End → IsOrder s c o → IsNoEnd o
order_no_end s Commands.Withhold o ne f = is_no_end o _ f tt
order_no_end s (Commands.Device name kind ports speed) o ne f = is_no_end o _ f tt
order_no_end s (Commands.Cable a b) o ne f = is_no_end o _ f.4 tt
order_no_end s (Commands.Reset name) o ne f = is_no_end o _ f.2 tt
order_no_end s (Commands.Connect name out into channel overhead) o ne f = is_no_end o _ f.5 tt
order_no_end s (Commands.Broadcast name out overhead) o ne f = is_no_end o _ f.5 tt
order_no_end s (Commands.Listen name into) o ne f = is_no_end o _ f.5 tt
order_no_end s (Commands.Break name slot) o ne f = is_no_end o _ f.2 tt
order_no_end s (Commands.Step name count) o ne f = is_no_end o _ f.2 tt
order_no_end s (Commands.Settle rounds) o ne f = is_no_end o _ f tt
order_no_end s (Commands.Wait cycles) o ne f = is_no_end o _ f tt
order_no_end s (Commands.Cycles count) o ne f = is_no_end o _ f tt
order_no_end s (Commands.Die name late) o ne f = is_no_end o _ f.2 tt
order_no_end s (Commands.Lose name) o ne f = is_no_end o _ f.2 tt
order_no_end s (Commands.Start name) o ne f = is_no_end o _ f.2 tt
order_no_end s (Commands.Command name other frame) o ne f = is_no_end o _ f.4 tt
order_no_end s (Commands.Read name other offset) o ne f = is_no_end o _ f.4 tt
order_no_end s (Commands.Swap name other offset argument new) o ne f = is_no_end o _ f.4 tt
order_no_end s (Commands.Insert name tape system) o ne f = is_no_end o _ f.2 tt
order_no_end s (Commands.Eject name) o ne f = is_no_end o _ f.2 tt
order_no_end s (Commands.Show name offset) o ne f = is_no_end o _ f.2 tt
order_no_end s (Commands.Candidate name) o ne f = is_no_end o _ f.2 tt
order_no_end s (Commands.Contend name count) o ne f = is_no_end o _ f.2 tt
order_no_end s (Commands.Dub name) o ne f = is_no_end o _ f.2 tt
order_no_end s Commands.End o ne f = absurd (ne refl)

-- ---- runs

pub prefix_no_end : (commands : List Command) (c : Command) → HasNoEnd (commands ++ c ∷ []) → HasNoEnd commands × (c ≢ Commands.End)
prefix_no_end [] c f = (tt, f.0)
prefix_no_end (d ∷ commands) c f = let more = prefix_no_end commands c f.1 in ((f.0, more.0), more.1)

pub run_unended : (commands : List Command) (actions : List Action) (log : List Timed) (s : State) → Run commands actions log s → HasNoEnd commands → IsUnended log
run_unended commands actions log s begun on = tt
run_unended commands actions log s (and_then {commands = cs} {actions = xs} {log = prefix} {s = mid} r c o more out t decided f) on =
    let both = prefix_no_end cs c on in
    unended_then prefix out (run_unended cs xs prefix mid r both.0)
    (steps_unended mid t more out (no_finish mid o more out t (order_no_end mid c o both.1 decided.0) f) (carries_steps mid o more out t f))
