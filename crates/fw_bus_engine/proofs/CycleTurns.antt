-- The next cycle and its cycle start: of the machine and of the run.
use Rattle.fw_bus_engine.proofs.Common.{◌≡◌, ℕ, ◌+◌, ◌<◌, ◌≤◌, ◌^◌, ◌==◌, ◌&&◌, List, [], ◌∷◌, Bool, true, false, cond, Option, Some, None, option_map, refl, ap, sym, subst, ◌∙◌, arith, Ok, Result}
use Rattle.fw_bus_engine.proofs.Common.{nat_tests, same_Some, Packet, Directory, Async, ResetEntry, Timed, Account, Action, Pass, EndSecond, Transition, at_most, IsGood, State, Machine, between}
use Rattle.fw_bus_engine.proofs.Common.{Performs, Performed, TakesAction, IsReady, StandsFor}
use Rattle.fw_order.specs.declared.limits.TheConstants.{MOST_WRITTEN_CYCLES}
use Rattle.fw_model_run.specs.Actions.{StartCycle}
use Rattle.fw_model_run.specs.Carrying.{next_cycle}
use Rattle.fw_model_run.specs.Streams.{cycle_start}
use Rattle.fw_model_run.proofs.Times.{second_ends}
use Rattle.fw_bus_engine.specs.Cycling.{Comes}
use Rattle.fw_bus_engine.proofs.OneAction.{does_silent, does_when}
use Rattle.fw_bus_engine.proofs.SecondTurns.{pass_turns, passed_by}
use Rattle.fw_bus_engine.proofs.Waits.{ready_second}

-- ---- the next cycle

-- the machine sees which action it is
next_same : (m : Machine) (s : State) → StandsFor m s → next_cycle s ≡ cond (m.reclaiming && (m.cycle + 1 == m.directory.over_at)) EndSecond (Pass 1)
next_same m s st =
    let runs = st.clock.reclaiming in
    let cycle = st.clock.cycle in
    let over_at : m.directory.over_at ≡ s.clock.over_at = ap (λ (x : Directory). x.over_at) st.directory in
    sym (λ i. cond (runs i && (cycle i + 1 == over_at i)) EndSecond (Pass 1))

comes_by : {T E : Type 0} {m now : Machine} {a b : Option (List ℕ)} {k l : ℕ} {r : Result T E} (x : Action)
    → cond (m.reclaiming && (m.cycle + 1 == m.directory.over_at)) EndSecond (Pass 1) ≡ x → Performed (Performs (x ∷ [])) m now (between a b k l) r → Performed Comes m now (between a b k l) r
comes_by {m = m} x is d = does_when (λ s t xs out g st p f.
    subst (λ y. Performs (y ∷ []) s xs out t) (sym (next_same m s st ∙ is)) p) d

-- the second is over at it
pub comes_over : {T E : Type 0} {m now : Machine} {a b : Option (List ℕ)} {k l : ℕ} {r : Result T E} → m.reclaiming ≡ true → m.cycle + 1 ≡ m.directory.over_at
    → Performed (Performs (EndSecond ∷ [])) m now (between a b k l) r → Performed Comes m now (between a b k l) r
comes_over {m = m} runs at d = comes_by EndSecond (over m.reclaiming (m.cycle + 1) m.directory.over_at runs at) d
  where
    over : (b : Bool) (x y : ℕ) → b ≡ true → x ≡ y → cond (b && (x == y)) EndSecond (Pass 1) ≡ EndSecond
    over b x y e same = grind (arith, nat_tests, e, same)

-- it is not over yet, or none runs
pub comes_alone : {T E : Type 0} (m now : Machine) (held : Option (List ℕ)) (k : ℕ) (u : T) → IsReady m → m.cycle + 1 ≤ 2 ^ 52
    → (m.reclaiming ≡ true → m.cycle + 1 ≡ m.directory.over_at → ⊥) → now ≡ passed_by m 1 → Performed {T = T} {E = E} Comes m now (between held held k k) (Ok u)
comes_alone m now held k u ready few apart is =
    comes_by (Pass 1) (passes m.reclaiming (m.cycle + 1) m.directory.over_at apart)
    (does_silent held k m.cycle u (pass_turns m now 1 few (λ runs. let before = ready_second ready runs in strictly runs before) is))
  where
    passes : (b : Bool) (x y : ℕ) → (b ≡ true → x ≡ y → ⊥) → cond (b && (x == y)) EndSecond (Pass 1) ≡ Pass 1
    passes true x y differ = grind (arith, nat_tests, differ refl)
    passes false x y differ = refl

    strictly : m.reclaiming ≡ true → m.cycle < m.directory.over_at → m.cycle + 1 < m.directory.over_at
    strictly runs before = let ne = apart runs in omega (arith, before, ne)

-- ---- what a cycle that comes leaves

pub record HasCome (s t : State) : Type 0 where
  pub cycle : t.clock.cycle ≡ s.clock.cycle + 1
  pub latest : t.account.latest ≡ s.account.latest
  pub written : t.written ≡ s.written
  pub answered : t.transaction ≡ None

pub has_come : (s t : State) (out : List Timed) → Transition s (next_cycle s) out t → HasCome s t
has_come s t out x = go (s.account.reclaiming && (s.clock.cycle + 1 == s.clock.over_at)) x
  where
    go : (b : Bool) → Transition s (cond b EndSecond (Pass 1)) out t → HasCome s t
    go true x =
        let latest = ap (λ (l : Account). l.latest) (second_ends s.account x.may.runs) in
        subst (HasCome s) (sym x.state_is) (record { cycle = refl; latest = latest; written = refl; answered = x.waits })
    go false x = subst (HasCome s) (sym x.state_is) (record { cycle = refl; latest = refl; written = refl; answered = x.waits })

-- ---- the cycle start

-- the machine after it
abbrev pub started : Machine → Machine
started m = record m { written = m.written + 1 }

pub start_turns : (m now : Machine) (root : ℕ) (packet : Packet)
    → ((s : State) → IsGood s → StandsFor m s → option_map (λ (e : ResetEntry). e.root) s.account.latest ≡ Some root)
    → m.written < MOST_WRITTEN_CYCLES → packet ≡ cycle_start root m.cycle → now ≡ started m → TakesAction StartCycle m now m.cycle (Some (Async packet))
start_turns m now root packet roots few same is = record { shown = shown_ }
  where
    entry : (o : Option ResetEntry) → option_map (λ (e : ResetEntry). e.root) o ≡ Some root → (e : ResetEntry) × (o ≡ Some e) × (e.root ≡ root)
    entry None x = let no : ⊥ = cc x in absurd no
    entry (Some e) x = (e, refl, same_Some e.root root x)

    stands : (s : State) → StandsFor m s → StandsFor (started m) (record s { written = s.written + 1 })
    stands s st = record {
      devices = st.devices;
      clock = record { cycle = st.clock.cycle; reclaiming = st.clock.reclaiming; half_steps = st.clock.half_steps; written = ap (λ k. k + 1) st.clock.written; resets = st.clock.resets };
      table = st.table;
      directory = st.directory;
      wire = st.wire;
      streams = st.streams;
      answered = st.answered;
      unsent = st.unsent;
      election = st.election;
      bids = st.bids;
      reel = st.reel;
      around = st.around;
    }

    shown_ : (s : State) → IsGood s → StandsFor m s → (t : State) × Transition s StartCycle (at_most m.cycle (Some (Async packet))) t × StandsFor now t
    shown_ s g st =
        let x = entry s.account.latest (roots s g st) in
        let cycle = st.clock.cycle in
        let written = st.clock.written in
        let root_same = sym x.2 in
        let start : packet ≡ cycle_start x.0.root s.clock.cycle = same ∙ (λ i. cycle_start (root_same i) (cycle i)) in
        let t : State = record s { written = s.written + 1 } in (
          t,
          record {
            found = x.0;
            waits = st.answered;
            may = record { few = omega (arith, few, written); latest = x.1 };
            out_is = λ i. at_most (cycle i) (Some (Async (start i)));
            state_is = refl;
          },
          subst (λ (z : Machine). StandsFor z t) (sym is) (stands s st),
        )
