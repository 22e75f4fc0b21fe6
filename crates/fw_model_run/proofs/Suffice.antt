-- Enough rounds, in a script: each `settle` of it has a state that it is given in.
use Rattle.fw_model_run.proofs.Common.{◌≡◌, ◌⊎◌, inl, inr, List, [], ◌∷◌, ◌++◌, refl, ap, sym, subst, ◌∙◌, append_assoc, Timed, Command, State, Action, Carries, Run, begun, and_then}
use Rattle.fw_script_command.specs.declared.command.Command.TheVariants as Commands
use Rattle.fw_order.specs.declared.order.Order.TheVariants.{Settle}
use Rattle.fw_model_run.specs.Settling.{RoundsSuffice}
use Rattle.fw_model_run.proofs.OneLog.{Last, last_of, snoc_same}
use Rattle.fw_model_run.proofs.EnoughRounds.{enough}

-- ---- lists

-- a list is empty, or has a last element
last_element : {T : Type 0} (xs : List T) → (xs ≡ []) ⊎ ((prefix : List T) × (x : T) × (xs ≡ prefix ++ x ∷ []))
last_element {T} [] = inl refl
last_element {T} (y ∷ ys) = go (last_element ys)
  where
    go : (ys ≡ []) ⊎ ((prefix : List T) × (x : T) × (ys ≡ prefix ++ x ∷ [])) → (y ∷ ys ≡ []) ⊎ ((prefix : List T) × (x : T) × (y ∷ ys ≡ prefix ++ x ∷ []))
    go (inl none) = inr ([], y, ap (λ z. y ∷ z) none)
    go (inr w) = inr (y ∷ w.0, w.1, ap (λ z. y ∷ z) w.2)

no_middle : {T : Type 0} (xs ys : List T) (x : T) → [] ≡ xs ++ x ∷ ys → ⊥
no_middle [] ys x e = cc e
no_middle (z ∷ xs) ys x e = cc e

-- nothing after a list
none_following : {T : Type 0} (xs : List T) → xs ≡ xs ++ []
none_following [] = refl
none_following (x ∷ xs) = ap (λ z. x ∷ z) (none_following xs)

-- a prefix of a list is one of the list with more after it
prefix_of_more : {T : Type 0} (all prefix rest more : List T) → all ≡ prefix ++ rest → all ++ more ≡ prefix ++ (rest ++ more)
prefix_of_more all prefix rest more e = ap (λ z. z ++ more) e ∙ append_assoc prefix rest more

-- ---- a command inside a script

-- The run of the commands up to it, of which it is the last. What they do and write is a prefix of all that is done and written.
abbrev pub Reached : List Command → Command → List Action → List Timed → Type 0
Reached prefix c all whole =
    (actions : List Action) × (log : List Timed) × (t : State) × Last prefix c actions log t
    × ((rest : List Action) × (all ≡ actions ++ rest)) × ((following : List Timed) × (whole ≡ log ++ following))

-- each command of a script has the run of the commands before it, its order, and what that order does
pub run_at : (all prefix later : List Command) (c : Command) (actions : List Action) (log : List Timed) (t : State) → Run all actions log t
    → all ≡ prefix ++ c ∷ later → Reached prefix c actions log
run_at all prefix later c actions log t begun e = absurd (no_middle prefix later c e)
run_at all prefix later c actions log t (and_then {commands = cs} {actions = xs} {log = wrote} {s = mid} r d o more out u decided f) e =
    go (last_element later) (λ init is. run_at cs prefix init c xs wrote mid r is)
  where
    go : (later ≡ []) ⊎ ((init : List Command) × (x : Command) × (later ≡ init ++ x ∷ []))
        → ((init : List Command) → cs ≡ prefix ++ c ∷ init → Reached prefix c xs wrote) → Reached prefix c (xs ++ more) (wrote ++ out)
    go (inl none) before = (
      actions,
      log,
      t,
      last_of all prefix c actions log t (and_then r d o more out u decided f) (e ∙ ap (λ z. prefix ++ c ∷ z) none),
      ([], none_following (xs ++ more)),
      ([], none_following (wrote ++ out)),
    )
    go (inr w) before =
        let is : cs ++ d ∷ [] ≡ (prefix ++ c ∷ w.0) ++ w.1 ∷ [] = e ∙ (ap (λ z. prefix ++ c ∷ z) w.2 ∙ sym (append_assoc prefix (c ∷ w.0) (w.1 ∷ []))) in
        let x = before w.0 (snoc_same cs (prefix ++ c ∷ w.0) d w.1 is).0 in
        (x.0, x.1, x.2, x.3, (x.4.0 ++ more, prefix_of_more xs x.0 x.4.0 more x.4.1), (x.5.0 ++ out, prefix_of_more wrote x.1 x.5.0 out x.5.1))

-- ---- enough rounds

-- a `settle` of a script takes its rounds from there, and they are enough
pub rounds_suffice : (commands : List Command) (actions : List Action) (log : List Timed) (s : State) → Run commands actions log s → RoundsSuffice commands actions log
rounds_suffice commands actions log s run prefix later rounds is =
    let x = run_at commands prefix later (Commands.Settle rounds) actions log s run is in
    let w = x.3 in
    let carries : Carries w.state (Settle rounds) w.more w.out x.2 = subst (λ o. Carries w.state o w.more w.out x.2) w.decided.0 w.carries in
    record {
      before = w.state;
      after = x.2;
      here = record {
        actions = w.early;
        log = w.prefix;
        run = w.run;
        more = w.more;
        out = w.out;
        carries = carries;
        later = x.4.0;
        all_is = x.4.1 ∙ ap (λ z. z ++ x.4.0) w.actions_are;
      };
      whole = and_then w.run (Commands.Settle rounds) w.order w.more w.out x.2 w.decided w.carries;
      following = x.5.0;
      log_is = x.5.1 ∙ ap (λ z. z ++ x.5.0) w.log_is;
      enough = λ before after here begins many. enough before after rounds here.more here.out begins many here.carries;
    }
