-- What is done by one action or by none: its entry is written, or cut off.
use Rattle.fw_bus_engine.proofs.Common.{◌≡◌, ℕ, List, [], ◌∷◌, ◌++◌, Option, Some, None, refl, ap, sym, subst, ◌∙◌, append_assoc, append-nil, arith, Ok, Err, Result, Grows-nothing, Entry, Timed}
use Rattle.fw_bus_engine.proofs.Common.{epoch_after, entry_bytes, Two, at_cycle, at_most, GivesEntry, State, epoch_of, Action, Transition, Transitions, IsGood, Machine, CountsFaults, Gives, between}
use Rattle.fw_bus_engine.proofs.Common.{StandsFor, Execution, Performs, TakesAction, Performed}
use Rattle.fw_outside.specs.Outside.{Grows}
use Rattle.fw_outside.proofs.Parts.{Grows-Grows}
use Rattle.fw_log_entry.specs.Log.{latest_epoch}
use Rattle.fw_log_entry.proofs.LogLaws.{latest_append}
use Rattle.fw_model_run.proofs.Epochs.{steps_epoch, entry_epoch}
use Rattle.fw_model_run.specs.Giving.{log_bytes}
use Rattle.fw_model_run.proofs.Runs.{log_append}

-- ---- counts of faults

pub faults_then : {U F : Type 0} (k l m : ℕ) (r : Result U F) → l ≡ k → CountsFaults l m r → CountsFaults k m r
faults_then k l m (Ok _) first c = record { cause = record { later = omega (arith, first, c.same); failed = tt }; same = c.same ∙ first }
faults_then k l m (Err _) first c =
    record { cause = record { later = omega (arith, first, c.cause.later); failed = grind (arith, c.cause.failed, first) }; same = tt }

pub no_faults : {T E : Type 0} (k : ℕ) (u : T) → CountsFaults {T = T} {E = E} k k (Ok u)
no_faults k u = record { cause = record { later = omega arith; failed = tt }; same = refl }

-- ---- what is done

-- one action from a state
pub one_step : (s t : State) (a : Action) (out : List Timed) → Transition s a out t → Transitions s (a ∷ []) out t
one_step s t a out f = (out, [], t, f, sym (append-nil out), (refl, refl))

-- what is done of the one is done of the other, in the states that the machine stood for
pub does_when : {T E : Type 0} {P Q : Execution} {m now : Machine} {a b : Option (List ℕ)} {k l : ℕ} {r : Result T E}
    → ((s t : State) (xs : List Action) (out : List Timed) → IsGood s → StandsFor m s → P s xs out t → Transitions s xs out t → Q s xs out t) → Performed P m now (between a b k l) r
    → Performed Q m now (between a b k l) r
does_when {r = Ok u} to d = record {
  faults = d.faults;
  shown = λ s g st. let x = d.shown s g st in record {
    actions = x.actions;
    out = x.out;
    state = x.state;
    whole = to s x.state x.actions x.out g st x.whole x.steps;
    steps = x.steps;
    stands = x.stands;
    grew = x.grew;
  };
}
does_when {r = Err u} to d = record {
  faults = d.faults;
  shown = λ s g st. let x = d.shown s g st in record {
    done = x.done;
    later = x.later;
    all = x.all;
    last = x.last;
    whole = to s x.last (x.done ++ x.later) x.all g st x.whole x.goes;
    goes = x.goes;
    given = x.given;
    next = x.next;
    state = x.state;
    steps = x.steps;
    prefix = x.prefix;
    rest = x.rest;
    parts = x.parts;
    appended = x.appended;
  };
}

pub does_as : {T E : Type 0} {P Q : Execution} {m now : Machine} {a b : Option (List ℕ)} {k l : ℕ} {r : Result T E}
    → ((s t : State) (xs : List Action) (out : List Timed) → P s xs out t → Q s xs out t) → Performed P m now (between a b k l) r → Performed Q m now (between a b k l) r
does_as to d = does_when (λ s t xs out g st x f. to s t xs out x) d

-- nothing was done
pub does_nothing : {T E : Type 0} {P : Execution} (m : Machine) (held : Option (List ℕ)) (k : ℕ) (u : T)
    → ((s : State) → IsGood s → StandsFor m s → P s [] [] s) → Performed {T = T} {E = E} P m m (between held held k k) (Ok u)
does_nothing m held k u nothing = record {
  faults = no_faults k u;
  shown = λ s g st. record {
    actions = [];
    out = [];
    state = s;
    whole = nothing s g st;
    steps = (refl, refl);
    stands = st;
    grew = Grows-nothing held;
  };
}

pub does_none : {T E : Type 0} (m : Machine) (held : Option (List ℕ)) (k : ℕ) (u : T) → Performed {T = T} {E = E} (Performs []) m m (between held held k k) (Ok u)
does_none m held k u = does_nothing m held k u (λ s g st. (refl, (refl, refl)))

-- ---- epochs

-- the epoch that the machine has after an entry is that in its head
pub written_epoch : (now : Machine) (s t : State) (a : Action) (cycle : ℕ) (e : Entry) → IsGood s → Transition s a (at_most cycle (Some e)) t → StandsFor now t
    → epoch_after now.devices.epoch e ≡ epoch_after (epoch_of s.account.latest) e
written_epoch now s t a cycle e g f st = ap (λ (n : ℕ). epoch_after n e) st.devices.epoch ∙ entry_epoch s t a cycle e g f

-- the entry of one action
pub one_grew : (s : State) (t : Timed) (n : ℕ) (held after : Option (List ℕ)) → n ≡ epoch_after (epoch_of s.account.latest) t.what → Grows held after (entry_bytes Two n t)
    → Grows held after (log_bytes (epoch_of s.account.latest) (t ∷ []))
one_grew s t n held after is g =
    let P : ℕ → Type 0 = λ k. Grows held after (entry_bytes Two k t) in
    subst (Grows held after) (sym (append-nil (entry_bytes Two (epoch_after (epoch_of s.account.latest) t.what) t))) (subst P is g)

-- what was written after other entries
pub grew_then : (s mid : State) (xs : List Action) (out more : List Timed) (a b c : Option (List ℕ)) → IsGood s → Transitions s xs out mid
    → Grows a b (log_bytes (epoch_of s.account.latest) out) → Grows b c (log_bytes (epoch_of mid.account.latest) more) → Grows a c (log_bytes (epoch_of s.account.latest) (out ++ more))
grew_then s mid xs out more a b c g f first last =
    let n : ℕ = epoch_of s.account.latest in
    let P : ℕ → Type 0 = λ k. Grows b c (log_bytes k more) in
    subst (Grows a c) (sym (log_append n out more)) (Grows-Grows a b c (log_bytes n out) (log_bytes (latest_epoch n out) more) first (subst P (steps_epoch s mid xs out g f) last))

pub prefix_then_prefix : (s mid : State) (xs : List Action) (out more : List Timed) (prefix : List ℕ) (a b c : Option (List ℕ)) → IsGood s → Transitions s xs out mid
    → Grows a b (log_bytes (epoch_of s.account.latest) out) → Grows b c (log_bytes (epoch_of mid.account.latest) more ++ prefix)
    → Grows a c (log_bytes (epoch_of s.account.latest) (out ++ more) ++ prefix)
prefix_then_prefix s mid xs out more prefix a b c g f first last =
    let n : ℕ = epoch_of s.account.latest in
    let P : ℕ → Type 0 = λ k. Grows b c (log_bytes k more ++ prefix) in
    subst (Grows a c) (sym (ap (λ z. z ++ prefix) (log_append n out more) ∙ append_assoc (log_bytes n out) (log_bytes (latest_epoch n out) more) prefix))
    (Grows-Grows a b c (log_bytes n out) (log_bytes (latest_epoch n out) more ++ prefix) first (subst P (steps_epoch s mid xs out g f) last))

pub parts_then : (s mid : State) (xs : List Action) (out given : List Timed) (next : Timed) (whole : List ℕ) → IsGood s → Transitions s xs out mid
    → entry_bytes Two (epoch_after (latest_epoch (epoch_of mid.account.latest) given) next.what) next ≡ whole
    → entry_bytes Two (epoch_after (latest_epoch (epoch_of s.account.latest) (out ++ given)) next.what) next ≡ whole
parts_then s mid xs out given next whole g f is =
    let n : ℕ = epoch_of s.account.latest in
    ap (λ (k : ℕ). entry_bytes Two (epoch_after k next.what) next) (latest_append n out given ∙ ap (λ (k : ℕ). latest_epoch k given) (sym (steps_epoch s mid xs out g f))) ∙ is

-- an action whose entry was written, or cut off
pub does_one : {T E : Type 0} {a : Action} {m now : Machine} {held after : Option (List ℕ)} {k l : ℕ} (cycle : ℕ) (e : Option Entry) (r : Result T E)
    → TakesAction a m now cycle e → GivesEntry held after r cycle now.devices.epoch e → CountsFaults k l r → Performed (Performs (a ∷ [])) m now (between held after k l) r
does_one {a = a} cycle None (Ok u) turn gives faults = record {
  faults = faults;
  shown = λ s g st. let x = turn.shown s g st in let f = one_step s x.0 a [] x.1 in record {
    actions = a ∷ [];
    out = [];
    state = x.0;
    whole = (refl, f);
    steps = f;
    stands = x.2;
    grew = gives;
  };
}
does_one {a = a} {now = now} {held = held} {after} cycle (Some e) (Ok u) turn gives faults = record {
  faults = faults;
  shown = λ s g st. let x = turn.shown s g st in let f = one_step s x.0 a (at_cycle cycle e ∷ []) x.1 in record {
    actions = a ∷ [];
    out = at_cycle cycle e ∷ [];
    state = x.0;
    whole = (refl, f);
    steps = f;
    stands = x.2;
    grew = one_grew s (at_cycle cycle e) (epoch_after now.devices.epoch e) held after (written_epoch now s x.0 a cycle e g x.1 x.2) gives;
  };
}
does_one cycle None (Err u) turn gives faults = absurd gives
does_one {a = a} {now = now} cycle (Some e) (Err u) turn gives faults = record {
  faults = faults;
  shown = λ s g st. let x = turn.shown s g st in let f = one_step s x.0 a (at_cycle cycle e ∷ []) x.1 in record {
    done = a ∷ [];
    later = [];
    all = at_cycle cycle e ∷ [];
    last = x.0;
    whole = (refl, f);
    goes = f;
    given = [];
    next = at_cycle cycle e;
    state = x.0;
    steps = f;
    prefix = gives.prefix;
    rest = gives.rest;
    parts = ap (λ (n : ℕ). entry_bytes Two n (at_cycle cycle e)) (sym (written_epoch now s x.0 a cycle e g x.1 x.2)) ∙ gives.parts;
    appended = gives.appended;
  };
}

-- an action whose entry was given to a sink
pub does_entry : {T E : Type 0} {a : Action} {m now : Machine} {e : Entry} {held after : Option (List ℕ)} {k l : ℕ} {r : Result T E}
    → TakesAction a m now now.cycle (Some e) → Gives now e (between held after k l) r → Performed (Performs (a ∷ [])) m now (between held after k l) r
does_entry {now = now} {e = e} {r = r} turn gives = does_one now.cycle (Some e) r turn gives.bytes gives.faults

-- an action that writes nothing
pub does_silent : {T E : Type 0} {a : Action} {m now : Machine} (held : Option (List ℕ)) (k cycle : ℕ) (u : T) → TakesAction a m now cycle None
    → Performed {T = T} {E = E} (Performs (a ∷ [])) m now (between held held k k) (Ok u)
does_silent held k cycle u turn = does_one cycle None (Ok u) turn (Grows-nothing held) (no_faults k u)
