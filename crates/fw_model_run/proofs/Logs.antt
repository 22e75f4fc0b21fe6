-- What a run writes is a log.
use Rattle.fw_model_run.proofs.Common.{◌≡◌, ℕ, ◌≤◌, List, [], ◌∷◌, ◌++◌, length, refl, ap, sym, subst, ◌∙◌, arith, IsFalse, Option, Some, None, ◌⊎◌, inl, inr, Entry, Reset, Async, Iso, Event, Outcome}
use Rattle.fw_model_run.proofs.Common.{Shown, End, Timed, Command, Order, at_cycle, at_most, State, first_state}
use Rattle.fw_model_run.proofs.Common.{Action, Finish, Transitions, Carries}
use Rattle.fw_model_run.proofs.Common.{Run, IsGood}
use Rattle.fw_log_entry.specs.declared.version.Version.TheVariants.{Two}
use Rattle.fw_log_entry.specs.Log.{header_bytes, InOrder, EndsAt, HasEnd, LogOpens, LogSpells, is_end}
use Rattle.fw_script_command.specs.declared.command.Command.TheVariants as Commands
use Rattle.fw_order.specs.declared.order.Order.TheVariants as Orders
use Rattle.fw_model_run.specs.Giving.{log_bytes}
use Rattle.fw_model_run.specs.Logs.{HasNoEnd}
use Rattle.fw_model_run.proofs.Along.{step_led}
use Rattle.fw_model_run.proofs.Ended.{IsUnended, HasNoFinish, IsNoEnd, unended_then, steps_unended, no_finish, end_or_none, run_unended}
use Rattle.fw_model_run.proofs.Kept.{first_numbers}
use Rattle.fw_model_run.proofs.Led.{Led}
use Rattle.fw_model_run.proofs.OneLog.{last_of}
use Rattle.fw_model_run.proofs.Decided.{CarriedBy, carried}
use Rattle.fw_model_run.proofs.Runs.{run_steps, steps_then}
use Rattle.fw_model_run.proofs.Spans.{Spans, steps_span}
use Rattle.fw_model_run.proofs.Steps.{step_good, steps_good}
use Rattle.fw_model_run.proofs.Times.{first_good}

-- ---- order

ends_at : (e : Entry) (more : List Timed) → IsFalse (is_end e) → EndsAt e more
ends_at (Reset r) more f = tt
ends_at (Async p) more f = tt
ends_at (Iso p) more f = tt
ends_at (Event x) more f = tt
ends_at (Outcome o) more f = tt
ends_at (Shown s) more f = tt
ends_at End more f = let no : ⊥ = cc in absurd no

nothing_after : (e : Entry) → EndsAt e []
nothing_after (Reset r) = tt
nothing_after (Async p) = tt
nothing_after (Iso p) = tt
nothing_after (Event x) = tt
nothing_after (Outcome o) = tt
nothing_after (Shown s) = tt
nothing_after End = refl

-- entries none of which but the last is the end
in_order : (c d : ℕ) (prefix back : List Timed) → Spans c (prefix ++ back) d → IsUnended prefix → length back ≤ 1 → InOrder c (prefix ++ back)
in_order c d [] [] span un few = tt
in_order c d [] (e ∷ []) span un few = (span.0, span.1, nothing_after e.what, tt)
in_order c d [] (e ∷ u ∷ us) span un few = absurd (omega (arith, few))
in_order c d (e ∷ prefix) back span un few = (span.0, span.1, ends_at e.what (prefix ++ back) un.0, in_order e.cycle d prefix back span.2 un.1 few)

opens_of : (actions : List Action) (prefix back : List Timed) (s : State) → Transitions first_state actions (prefix ++ back) s → IsUnended prefix → length back ≤ 1
    → LogOpens (prefix ++ back) Two (header_bytes Two ++ log_bytes 0 (prefix ++ back))
opens_of actions prefix back s f un few = record { order = in_order 0 s.clock.cycle prefix back (steps_span first_state s actions (prefix ++ back) first_good first_numbers f) un few; same = refl }

-- a prefix of a log is a log without its end
ends_prefix : (e : Entry) (prefix rest : List Timed) → EndsAt e (prefix ++ rest) → EndsAt e prefix
ends_prefix (Reset r) prefix rest f = tt
ends_prefix (Async p) prefix rest f = tt
ends_prefix (Iso p) prefix rest f = tt
ends_prefix (Event x) prefix rest f = tt
ends_prefix (Outcome o) prefix rest f = tt
ends_prefix (Shown s) prefix rest f = tt
ends_prefix End [] rest f = refl
ends_prefix End (e ∷ prefix) rest f = let no : ⊥ = cc f in absurd no

order_prefix : (c : ℕ) (prefix rest : List Timed) → InOrder c (prefix ++ rest) → InOrder c prefix
order_prefix c [] rest f = tt
order_prefix c (e ∷ prefix) rest f = (f.0, f.1, ends_prefix e.what prefix rest f.2, order_prefix e.cycle prefix rest f.3)

pub opens_prefix : (prefix rest : List Timed) (bytes : List ℕ) → LogOpens (prefix ++ rest) Two bytes → LogOpens prefix Two (header_bytes Two ++ log_bytes 0 prefix)
opens_prefix prefix rest bytes f = record { order = order_prefix 0 prefix rest f.order; same = refl }

-- ---- runs

empty_after : (xs : List Timed) → xs ≡ xs ++ []
empty_after [] = refl
empty_after (x ∷ xs) = ap (λ z. x ∷ z) (empty_after xs)

-- steps of actions none of which is the end
steps_open : (actions : List Action) (log : List Timed) (s : State) → Transitions first_state actions log s → IsUnended log → LogOpens log Two (header_bytes Two ++ log_bytes 0 log)
steps_open actions log s f un =
    let same = empty_after log in
    subst (λ z. LogOpens z Two (header_bytes Two ++ log_bytes 0 z)) (sym same) (opens_of actions log [] s (subst (λ z. Transitions first_state actions z s) same f) un (omega arith))

pub run_opens : (commands : List Command) (actions : List Action) (log : List Timed) (s : State) → Run commands actions log s → HasNoEnd commands
    → LogOpens log Two (header_bytes Two ++ log_bytes 0 log)
run_opens commands actions log s r none = steps_open actions log s (run_steps commands actions log s r) (run_unended commands actions log s r none)

-- what the end of the script writes
has_end : (log : List Timed) (cycle : ℕ) → HasEnd (log ++ at_cycle cycle End ∷ [])
has_end [] cycle = refl
has_end (e ∷ []) cycle = refl
has_end (e ∷ u ∷ us) cycle = has_end (u ∷ us) cycle

finished : (s t : State) (o : Order) (xs : List Action) (out : List Timed) → o ≡ Orders.End → CarriedBy s o xs out t → out ≡ at_cycle s.clock.cycle End ∷ []
finished s t o xs out is f =
    let g : Transitions s (Finish ∷ []) out t = (subst (λ z. CarriedBy s z xs out t) is f).1 in
    g.4 ∙ (ap (λ z. z ++ g.1) g.3.out_is ∙ ap (λ z. at_cycle s.clock.cycle End ∷ z) g.5.0)

pub run_spells : (commands : List Command) (actions : List Action) (log : List Timed) (s : State) → Run (commands ++ Commands.End ∷ []) actions log s
    → HasNoEnd commands → LogSpells log Two (header_bytes Two ++ log_bytes 0 log)
run_spells commands actions log s r none =
    let w = last_of (commands ++ Commands.End ∷ []) commands Commands.End actions log s r refl in
    let last = finished w.state s w.order w.more w.out w.decided.0 (carried w.state w.order w.more w.out s w.carries) in
    let is : log ≡ w.prefix ++ at_cycle w.state.clock.cycle End ∷ [] = w.log_is ∙ ap (λ z. w.prefix ++ z) last in
    subst (λ z. LogSpells z Two (header_bytes Two ++ log_bytes 0 z)) (sym is) (record {
      opens = opens_of actions w.prefix (at_cycle w.state.clock.cycle End ∷ []) s (subst (λ z. Transitions first_state actions z s) is (run_steps (commands ++ Commands.End ∷ []) actions log s r))
          (run_unended commands w.early w.prefix w.state w.run none) (omega arith);
      ends = has_end w.prefix w.state.clock.cycle;
    })

-- ---- a run that is cut off inside a command

steps_few : (s t : State) (actions : List Action) (out : List Timed) → IsGood s → Transitions s actions out t → length out ≤ length actions
steps_few s t [] out g f = subst (λ (z : List Timed). length z ≤ 0) (sym f.0) (omega arith)
steps_few s t (a ∷ actions) out g f = subst (λ (z : List Timed). length z ≤ length (a ∷ actions)) (sym f.4)
    (subst (λ (z : List Timed). length (z ++ f.1) ≤ length (a ∷ actions)) (sym led.is) (go (steps_few f.2 t actions f.1 (step_good s a f.0 f.2 g f.3) f.5) led.entry))
  where
    led : Led s f.0 f.2
    led = step_led s f.2 a f.0 g f.3

    go : length f.1 ≤ length actions → (o : Option Entry) → length (at_most f.2.clock.cycle o ++ f.1) ≤ length (a ∷ actions)
    go rest None = omega (arith, rest)
    go rest (Some e) = omega (arith, rest)

finish_prefix : (done later : List Action) → HasNoFinish (done ++ later) → HasNoFinish done
finish_prefix [] later f = tt
finish_prefix (a ∷ done) later f = (f.0, finish_prefix done later f.1)

prefix_few : (done later : List Action) → Finish ∷ [] ≡ done ++ later → length done ≤ 1
prefix_few done later e = let same : 1 ≡ length (done ++ later) = ap (λ (z : List Action). length z) e in go done later same
  where
    go : (done later : List Action) → 1 ≡ length (done ++ later) → length done ≤ 1
    go [] later e = omega arith
    go (a ∷ []) later e = omega arith
    go (a ∷ b ∷ done) later e = absurd (omega (arith, e))

-- the end is one action
end_actions : (s : State) (o : Order) (xs : List Action) (out : List Timed) (t : State) → Carries s o xs out t → o ≡ Orders.End → xs ≡ Finish ∷ []
end_actions s o xs out t f is = (subst (λ z. CarriedBy s z xs out t) is (carried s o xs out t f)).0

-- entries of a prefix of an order's actions
pub cut_opens : (commands : List Command) (actions done later : List Action) (log out more : List Timed) (s t u : State) (o : Order) → Run commands actions log s
    → HasNoEnd commands → Carries s o (done ++ later) more u → Transitions s done out t → LogOpens (log ++ out) Two (header_bytes Two ++ log_bytes 0 (log ++ out))
cut_opens commands actions done later log out more s t u o r none is f = go (end_or_none o)
  where
    un : IsUnended log
    un = run_unended commands actions log s r none

    steps_ : Transitions first_state (actions ++ done) (log ++ out) t
    steps_ = steps_then first_state s t actions done log out (run_steps commands actions log s r) f

    go : IsNoEnd o ⊎ (o ≡ Orders.End) → LogOpens (log ++ out) Two (header_bytes Two ++ log_bytes 0 (log ++ out))
    go (inl continues) = steps_open (actions ++ done) (log ++ out) t steps_
        (unended_then log out un (steps_unended s t done out (finish_prefix done later (no_finish s o (done ++ later) more u continues is)) f))
    go (inr ended) =
        let few = prefix_few done later (sym (end_actions s o (done ++ later) more u is ended)) in
        let most = steps_few s t done out (steps_good first_state s actions log first_good (run_steps commands actions log s r)) f in
        opens_of (actions ++ done) log out t steps_ un (omega (arith, few, most))
