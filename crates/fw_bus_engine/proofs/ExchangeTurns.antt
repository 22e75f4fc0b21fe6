-- Two entries of an exchange, one after the other: what was done, and what of it was written.
use Rattle.fw_bus_engine.proofs.Common.{
  ◌≡◌,
  ℕ,
  List,
  [],
  ◌∷◌,
  Option,
  Some,
  refl,
  ap,
  sym,
  subst,
  ◌∙◌,
  arith,
  Ok,
  Err,
  IsErr,
  Result,
  epoch_after,
  entry_bytes,
  Two,
  Entry,
  Timed,
  Action,
  Transition,
  Transitions,
}
use Rattle.fw_bus_engine.proofs.Common.{at_cycle, at_most, IsGood, State, epoch_of, Machine, Gives, between, StandsFor, Performs, Performed, TakesTwoActions}
use Rattle.fw_bus_engine.specs.Exchanging.{GivesBoth, CutOff, Second}
use Rattle.fw_bus_engine.proofs.Doings.{IsNoReset, talk_steps, two_epoch, two_prefix, two_grew}
use Rattle.fw_bus_engine.proofs.OneAction.{does_as, faults_then, one_step}

-- ---- two entries, of actions that the state decides

pub record Exchanges (P : State → Action → Action → Type 0) (m now : Machine) (cycle : ℕ) (e f : Entry) : Type 0 where
  pub shown : (s : State) → IsGood s → StandsFor m s
      → (x y : Action) × P s x y × (mid t : State) × Transition s x (at_most cycle (Some e)) mid × Transition mid y (at_most cycle (Some f)) t × StandsFor now t

abbrev pub Exchanged : (State → Action → Action → Type 0) → State → List Action → List Timed → State → Type 0
Exchanged P s ys out t = (x y : Action) × P s x y × (ys ≡ x ∷ y ∷ []) × Transitions s (x ∷ y ∷ []) out t

does_exchanged : {T E U F : Type 0} {P : State → Action → Action → Type 0} {m now : Machine} {held after : Option (List ℕ)} {k l n : ℕ} {u : T} (mid : Option (List ℕ)) (e f : Entry) (r : Result U F)
    → Exchanges P m now now.cycle e f → IsNoReset e → IsNoReset f → Gives {T = T} {E = E} now e (between held mid k l) (Ok u) → Gives now f (between mid after l n) r
    → Performed (Exchanged P) m now (between held after k n) r
does_exchanged {now = now} {held = held} {after} {k} {l} {n} mid e f (Ok w) talk plain other gives given = record {
  faults = faults_then k l n (Ok w) gives.faults.same given.faults;
  shown = λ s g st. let z = talk.shown s g st in let both = talk_steps s z.3 z.4 z.0 z.1 now.cycle e f z.5 z.6 in record {
    actions = z.0 ∷ z.1 ∷ [];
    out = at_cycle now.cycle e ∷ at_cycle now.cycle f ∷ [];
    state = z.4;
    whole = (z.0, z.1, z.2, refl, both);
    steps = both;
    stands = z.7;
    grew = two_grew s now.devices.epoch now.cycle e f held mid after (two_epoch now s z.3 z.4 z.0 z.1 now.cycle e f g z.5 z.6 z.7 plain other) plain other gives.bytes given.bytes;
  };
}
does_exchanged {now = now} {held = held} {after} {k} {l} {n} mid e f (Err w) talk plain other gives given = record {
  faults = faults_then k l n (Err w) gives.faults.same given.faults;
  shown = λ s g st. let z = talk.shown s g st in let both = talk_steps s z.3 z.4 z.0 z.1 now.cycle e f z.5 z.6 in record {
    done = z.0 ∷ z.1 ∷ [];
    later = [];
    all = at_cycle now.cycle e ∷ at_cycle now.cycle f ∷ [];
    last = z.4;
    whole = (z.0, z.1, z.2, refl, both);
    goes = both;
    given = at_cycle now.cycle e ∷ [];
    next = at_cycle now.cycle f;
    state = z.4;
    steps = both;
    prefix = given.bytes.prefix;
    rest = given.bytes.rest;
    parts = ap (λ (n : ℕ). entry_bytes Two (epoch_after n f) (at_cycle now.cycle f)) (plain (epoch_of s.account.latest) ∙ sym (two_epoch now s z.3 z.4 z.0 z.1 now.cycle e f g z.5 z.6 z.7 plain other))
        ∙ given.bytes.parts;
    appended = two_prefix s now.devices.epoch now.cycle e given.bytes.prefix held mid after (two_epoch now s z.3 z.4 z.0 z.1 now.cycle e f g z.5 z.6 z.7 plain other) gives.bytes given.bytes.appended;
  };
}

-- the first was cut off
does_unexchanged : {U F V G : Type 0} {P : State → Action → Action → Type 0} {m now : Machine} {held after : Option (List ℕ)} {k l : ℕ} (e f : Entry) (q : Result U F) (r : Result V G)
    → Exchanges P m now now.cycle e f → IsNoReset e → IsNoReset f → IsErr q → IsErr r → Gives now e (between held after k l) q → Performed (Exchanged P) m now (between held after k l) r
does_unexchanged e f (Ok u) r talk plain other is was gives = let no : ⊥ = grind (arith, is) in absurd no
does_unexchanged e f (Err w) (Ok v) talk plain other is was gives = let no : ⊥ = grind (arith, was) in absurd no
does_unexchanged {now = now} e f (Err w) (Err v) talk plain other is was gives = record {
  faults = record { cause = record { later = gives.faults.cause.later; failed = gives.faults.cause.failed }; same = tt };
  shown = λ s g st. let z = talk.shown s g st in let both = talk_steps s z.3 z.4 z.0 z.1 now.cycle e f z.5 z.6 in record {
    done = z.0 ∷ [];
    later = z.1 ∷ [];
    all = at_cycle now.cycle e ∷ at_cycle now.cycle f ∷ [];
    last = z.4;
    whole = (z.0, z.1, z.2, refl, both);
    goes = both;
    given = [];
    next = at_cycle now.cycle e;
    state = z.3;
    steps = one_step s z.3 z.0 (at_cycle now.cycle e ∷ []) z.5;
    prefix = gives.bytes.prefix;
    rest = gives.bytes.rest;
    parts = ap (λ (n : ℕ). entry_bytes Two (epoch_after n e) (at_cycle now.cycle e)) (sym (two_epoch now s z.3 z.4 z.0 z.1 now.cycle e f g z.5 z.6 z.7 plain other)) ∙ gives.bytes.parts;
    appended = gives.bytes.appended;
  };
}

-- the one or the other, as the call says
pub does_both : {T E : Type 0} {P : State → Action → Action → Type 0} {m now : Machine} {held after : Option (List ℕ)} {k n : ℕ} {e f : Entry} (r : Result T E)
    → Exchanges P m now now.cycle e f → IsNoReset e → IsNoReset f → GivesBoth now e f (between held after k n) r → Performed (Exchanged P) m now (between held after k n) r
does_both {e = e} {f} r talk plain other (CutOff first was is gives) = does_unexchanged e f first r talk plain other was is gives
does_both {e = e} {f} r talk plain other (Second mid count done gives given) = does_exchanged mid e f r talk plain other gives given

-- ---- two given actions

abbrev Are : Action → Action → State → Action → Action → Type 0
Are a b s x y = (x ≡ a) × (y ≡ b)

talks_are : {a b : Action} {m now : Machine} {cycle : ℕ} {e f : Entry} → TakesTwoActions a b m now cycle e f → Exchanges (Are a b) m now cycle e f
talks_are {a} {b} talk = record { shown = λ s g st. let x = talk.shown s g st in (a, b, (refl, refl), x.0, x.1, x.2, x.3, x.4) }

are_acts : (a b : Action) (s : State) (ys : List Action) (out : List Timed) (t : State) → Exchanged (Are a b) s ys out t → Performs (a ∷ b ∷ []) s ys out t
are_acts a b s ys out t z =
    let same : z.0 ∷ z.1 ∷ [] ≡ a ∷ b ∷ [] = λ i. z.2.0 i ∷ z.2.1 i ∷ [] in
    (z.3 ∙ same, subst (λ xs. Transitions s xs out t) same z.4)

pub does_talks : {T E : Type 0} {a b : Action} {m now : Machine} {held after : Option (List ℕ)} {k n : ℕ} {e f : Entry} (r : Result T E)
    → TakesTwoActions a b m now now.cycle e f → IsNoReset e → IsNoReset f → GivesBoth now e f (between held after k n) r → Performed (Performs (a ∷ b ∷ [])) m now (between held after k n) r
does_talks {a = a} {b} r talk plain other given = does_as (λ s t ys out z. are_acts a b s ys out t z) (does_both r (talks_are talk) plain other given)
