-- One call after another: what was done, and what was cut off.
use Rattle.fw_bus_engine.proofs.Common.{◌≡◌, ℕ, List, [], ◌∷◌, ◌++◌, Option, Some, refl, ap, sym, subst, ◌∙◌, append_assoc, append-nil, arith, Ok, Err, IsErr, Result, Entry, Timed, epoch_after}
use Rattle.fw_bus_engine.proofs.Common.{entry_bytes, Two, at_cycle, at_most, State, epoch_of, Action, Transition, Transitions, IsGood, steps_then, steps_good, Machine, between, IsReady, StandsFor}
use Rattle.fw_bus_engine.proofs.Common.{Execution, Performs, Performed}
use Rattle.fw_outside.specs.Outside.{Grows}
use Rattle.fw_outside.proofs.Parts.{Grows-Grows}
use Rattle.fw_model_run.proofs.Epochs.{step_epoch}
use Rattle.fw_model_run.specs.Giving.{log_bytes}
use Rattle.fw_model_run.specs.Numbers.{HasNumbers}
use Rattle.fw_model_run.proofs.Steps.{step_good}
use Rattle.fw_model_run.proofs.Kept.{step_numbers}
use Rattle.fw_bus_engine.proofs.OneAction.{faults_then, one_step, grew_then, prefix_then_prefix, parts_then}

-- ---- one after another

-- one thing done after another comes to a third
abbrev pub Follows : Machine → Execution → Execution → Execution → Type 0
Follows m P Q R =
    (s mid t : State) (xs ys : List Action) (a b : List Timed) → IsGood s → StandsFor m s → P s xs a mid → Transitions s xs a mid → Q mid ys b t → Transitions mid ys b t → R s (xs ++ ys) (a ++ b) t

pub does_then : {T E U F : Type 0} {P Q R : Execution} {m mid now : Machine} {a b c : Option (List ℕ)} {k l n : ℕ} {u : T} (r : Result U F)
    → Follows m P Q R → Performed {T = T} {E = E} P m mid (between a b k l) (Ok u) → Performed Q mid now (between b c l n) r → Performed R m now (between a c k n) r
does_then {a = a} {b} {c} {k} {l} {n} (Ok w) follows f g = record {
  faults = faults_then k l n (Ok w) f.faults.same g.faults;
  shown = λ s good st.
      let x = f.shown s good st in
      let y = g.shown x.state (steps_good s x.state x.actions x.out good x.steps) x.stands in
      record {
        actions = x.actions ++ y.actions;
        out = x.out ++ y.out;
        state = y.state;
        whole = follows s x.state y.state x.actions y.actions x.out y.out good st x.whole x.steps y.whole y.steps;
        steps = steps_then s x.state y.state x.actions y.actions x.out y.out x.steps y.steps;
        stands = y.stands;
        grew = grew_then s x.state x.actions x.out y.out a b c good x.steps x.grew y.grew;
      };
}
does_then {R = R} {a = a} {b} {c} {k} {l} {n} (Err w) follows f g = record {
  faults = faults_then k l n (Err w) f.faults.same g.faults;
  shown = λ s good st.
      let x = f.shown s good st in
      let y = g.shown x.state (steps_good s x.state x.actions x.out good x.steps) x.stands in
      let assoc = append_assoc x.actions y.done y.later in
      record {
        done = x.actions ++ y.done;
        later = y.later;
        all = x.out ++ y.all;
        last = y.last;
        whole = subst (λ z. R s z (x.out ++ y.all) y.last) (sym assoc) (follows s x.state y.last x.actions (y.done ++ y.later) x.out y.all good st x.whole x.steps y.whole y.goes);
        goes = subst (λ z. Transitions s z (x.out ++ y.all) y.last) (sym assoc) (steps_then s x.state y.last x.actions (y.done ++ y.later) x.out y.all x.steps y.goes);
        given = x.out ++ y.given;
        next = y.next;
        state = y.state;
        steps = subst (λ z. Transitions s (x.actions ++ y.done) z y.state) (sym (append_assoc x.out y.given (y.next ∷ [])))
            (steps_then s x.state y.state x.actions y.done x.out (y.given ++ y.next ∷ []) x.steps y.steps);
        prefix = y.prefix;
        rest = y.rest;
        parts = parts_then s x.state x.actions x.out y.given y.next (y.prefix ++ y.rest) good x.steps y.parts;
        appended = prefix_then_prefix s x.state x.actions x.out y.given y.prefix a b c good x.steps x.grew y.appended;
      };
}

-- these actions, and then those
pub acts_follow : {m : Machine} (xs ys : List Action) → Follows m (Performs xs) (Performs ys) (Performs (xs ++ ys))
acts_follow xs ys s m t zs ws a b good st f p g q = (ap (λ z. z ++ ws) f.0 ∙ ap (λ z. xs ++ z) g.0, steps_then s m t xs ys a b f.1 g.1)

-- ---- what was cut off

-- what was done could have been gone on with
abbrev pub GoesOn : Machine → Execution → Execution → Type 0
GoesOn m P R =
    (s u : State) (xs : List Action) (a : List Timed) → IsGood s → StandsFor m s → P s xs a u → Transitions s xs a u
    → (ys : List Action) × (b : List Timed) × (t : State) × R s (xs ++ ys) (a ++ b) t × Transitions u ys b t

pub does_cut : {U F V G : Type 0} {P R : Execution} {m now last : Machine} {a b : Option (List ℕ)} {k l : ℕ} (q : Result U F) (r : Result V G)
    → GoesOn m P R → IsErr q → IsErr r → Performed P m now (between a b k l) q → Performed R m last (between a b k l) r
does_cut (Ok u) r on is was f = let no : ⊥ = grind (arith, is) in absurd no
does_cut (Err u) (Ok v) on is was f = let no : ⊥ = grind (arith, was) in absurd no
does_cut {R = R} (Err u) (Err v) on is was f = record {
  faults = record { cause = record { later = f.faults.cause.later; failed = f.faults.cause.failed }; same = tt };
  shown = λ s good st.
      let y = f.shown s good st in
      let x = on s y.last (y.done ++ y.later) y.all good st y.whole y.goes in
      let assoc = append_assoc y.done y.later x.0 in
      record {
        done = y.done;
        later = y.later ++ x.0;
        all = y.all ++ x.1;
        last = x.2;
        whole = subst (λ z. R s z (y.all ++ x.1) x.2) assoc x.3;
        goes = subst (λ z. Transitions s z (y.all ++ x.1) x.2) assoc (steps_then s y.last x.2 (y.done ++ y.later) x.0 y.all x.1 y.goes x.4);
        given = y.given;
        next = y.next;
        state = y.state;
        steps = y.steps;
        prefix = y.prefix;
        rest = y.rest;
        parts = y.parts;
        appended = y.appended;
      };
}

-- ---- the machine is ready for what comes next

pub steps_numbers : (s t : State) (xs : List Action) (out : List Timed) → IsGood s → HasNumbers s → Transitions s xs out t → HasNumbers t
steps_numbers s t [] out g b f = subst HasNumbers (sym f.1) b
steps_numbers s t (x ∷ xs) out g b f = steps_numbers f.2 t xs f.1 (steps_good s f.2 (x ∷ []) f.0 g (one_step s f.2 x f.0 f.3)) (step_numbers s x f.0 f.2 g b f.3) f.5

pub ready_after : {T E : Type 0} {P : Execution} {m now : Machine} {a b : Option (List ℕ)} {k l : ℕ} {u : T}
    → IsReady m → Performed {T = T} {E = E} P m now (between a b k l) (Ok u) → IsReady now
ready_after r f = let x = f.shown r.state r.good r.stands in record {
  state = x.state;
  good = steps_good r.state x.state x.actions x.out r.good x.steps;
  numbers = steps_numbers r.state x.state x.actions x.out r.good r.numbers x.steps;
  stands = x.stands;
}

-- ---- a transaction: its request and its response, before their entries are written

-- the two actions of it
pub talk_steps : (s mid t : State) (a b : Action) (cycle : ℕ) (e f : Entry) → Transition s a (at_cycle cycle e ∷ []) mid → Transition mid b (at_cycle cycle f ∷ []) t
    → Transitions s (a ∷ b ∷ []) (at_cycle cycle e ∷ at_cycle cycle f ∷ []) t
talk_steps s mid t a b cycle e f g h = (at_cycle cycle e ∷ [], at_cycle cycle f ∷ [], mid, g, refl, one_step mid t b (at_cycle cycle f ∷ []) h)

-- the epoch of two entries that are no resets
abbrev pub IsNoReset : Entry → Type 0
IsNoReset e = (n : ℕ) → epoch_after n e ≡ n

pub two_epoch : (now : Machine) (s mid t : State) (a b : Action) (cycle : ℕ) (e f : Entry) → IsGood s → Transition s a (at_most cycle (Some e)) mid → Transition mid b (at_most cycle (Some f)) t
    → StandsFor now t → IsNoReset e → IsNoReset f → now.devices.epoch ≡ epoch_of s.account.latest
two_epoch now s mid t a b cycle e f g first last st plain other =
    let after = step_epoch mid t b (at_most cycle (Some f)) (step_good s a (at_most cycle (Some e)) mid g first) last in
    let before = step_epoch s mid a (at_most cycle (Some e)) g first in
    st.devices.epoch ∙ after ∙ other (epoch_of mid.account.latest) ∙ before ∙ plain (epoch_of s.account.latest)

pub two_grew : (s : State) (n cycle : ℕ) (e f : Entry) (held mid after : Option (List ℕ)) → n ≡ epoch_of s.account.latest → IsNoReset e → IsNoReset f
    → Grows held mid (entry_bytes Two (epoch_after n e) (at_cycle cycle e)) → Grows mid after (entry_bytes Two (epoch_after n f) (at_cycle cycle f))
    → Grows held after (log_bytes (epoch_of s.account.latest) (at_cycle cycle e ∷ at_cycle cycle f ∷ []))
two_grew s n cycle e f held mid after is plain other first last =
    let k : ℕ = epoch_of s.account.latest in
    let x : List ℕ = entry_bytes Two (epoch_after k e) (at_cycle cycle e) in
    let y : List ℕ = entry_bytes Two (epoch_after (epoch_after k e) f) (at_cycle cycle f) in
    let P : ℕ → Type 0 = λ z. Grows held mid (entry_bytes Two (epoch_after z e) (at_cycle cycle e)) in
    let Q : ℕ → Type 0 = λ z. Grows mid after (entry_bytes Two (epoch_after z f) (at_cycle cycle f)) in
    subst (λ z. Grows held after (x ++ z)) (sym (append-nil y)) (Grows-Grows held mid after x y (subst P is first) (subst Q (is ∙ sym (plain k)) last))

pub two_prefix : (s : State) (n cycle : ℕ) (e : Entry) (prefix : List ℕ) (held mid after : Option (List ℕ)) → n ≡ epoch_of s.account.latest
    → Grows held mid (entry_bytes Two (epoch_after n e) (at_cycle cycle e)) → Grows mid after prefix → Grows held after (log_bytes (epoch_of s.account.latest) (at_cycle cycle e ∷ []) ++ prefix)
two_prefix s n cycle e prefix held mid after is first last =
    let k : ℕ = epoch_of s.account.latest in
    let x : List ℕ = entry_bytes Two (epoch_after k e) (at_cycle cycle e) in
    let P : ℕ → Type 0 = λ z. Grows held mid (entry_bytes Two (epoch_after z e) (at_cycle cycle e)) in
    subst (λ z. Grows held after (z ++ prefix)) (sym (append-nil x)) (Grows-Grows held mid after x prefix (subst P is first) last)
