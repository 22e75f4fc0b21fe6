-- Cycles that are written, one after another.
use Rattle.fw_bus_engine.proofs.Common.{◌≡◌, ℕ, zero, suc, ◌+◌, ◌-◌, ◌<◌, ◌≤◌, ◌^◌, List, [], ◌∷◌, ◌++◌, length, true, Option, Some, None, is_some, refl, ap, sym, subst, ◌∙◌, arith, append_assoc}
use Rattle.fw_bus_engine.proofs.Common.{append-nil, IsTrue, Ok, Err, IsErr, Result, ResetEntry, Timed, Action, Carries, DeskRelations, IsGood, IsLatest, State, steps_good, Machine, PerformedWithDesk}
use Rattle.fw_bus_engine.proofs.Common.{between, IsReady, StandsFor, CountsFaults, Grows-nothing}
use Rattle.fw_order.specs.declared.limits.TheConstants.{MOST_WRITTEN_CYCLES}
use Rattle.fw_order.specs.declared.order.Order.TheVariants.{Cycles}
use Rattle.fw_model_run.specs.Actions.{StartCycle}
use Rattle.fw_model_run.specs.Carrying.{next_cycle, HasCycle, HasCycles, writes_cycles}
use Rattle.fw_model_run.specs.Cycles.{MayWrite}
use Rattle.fw_model_run.specs.Streams.{talkers}
use Rattle.fw_model_run.proofs.CanWrite.{can_write}
use Rattle.fw_model_run.proofs.Counting.{packets_are}
use Rattle.fw_model_run.proofs.Runs.{carries_steps}
use Rattle.fw_bus_engine.specs.Cycling.{WritesCycle, WritesCycles}
use Rattle.fw_bus_engine.specs.Filling.{FillsBy, Gathers, Passes}
use Rattle.fw_bus_engine.proofs.Desks.{by_where, where_by, where_nothing, where_when}
use Rattle.fw_bus_engine.proofs.DeskCalls.{where_cut, where_then}
use Rattle.fw_bus_engine.proofs.Doings.{GoesOn}
use Rattle.fw_bus_engine.proofs.OneAction.{faults_then}
use Rattle.fw_bus_engine.proofs.Gathering.{fills_after, gathers_all, gathers_cut, gathers_out}
use Rattle.fw_bus_engine.proofs.BegunCycles.{begun, came, some_device}
use Rattle.fw_model_run.specs.Recording.{heard_in, with_block}

-- ---- cycles one after another

cycles_append : (i k : ℕ) (s u t : State) (xs ys : List Action) (a b : List Timed) → HasCycles i s xs a u → HasCycles k u ys b t
    → HasCycles (i + k) s (xs ++ ys) (a ++ b) t
unfolding HasCycles
cycles_append zero k s u t xs ys a b f g =
    subst (λ n. HasCycles n s (xs ++ ys) (a ++ b) t) (let e : k ≡ 0 + k = omega arith in e)
    (subst (λ z. HasCycles k s (z ++ ys) (a ++ b) t) (sym f.0) (subst (λ z. HasCycles k s ys (z ++ b) t) (sym f.1) (subst (λ z. HasCycles k z ys b t) f.2 g)))
cycles_append (suc i) k s u t xs ys a b f g =
    subst (λ n. HasCycles n s (xs ++ ys) (a ++ b) t) (let e : suc (i + k) ≡ suc i + k = omega arith in e) (
      f.0,
      f.1,
      f.2 ++ ys,
      f.3,
      f.4 ++ b,
      f.5,
      cycles_append i k f.0 u t f.2 ys f.4 b f.6 g,
      ap (λ z. z ++ ys) f.7 ∙ append_assoc f.1 f.2 ys,
      ap (λ z. z ++ b) f.8 ∙ append_assoc f.3 f.4 b,
    )

one_cycle : (s t : State) (xs : List Action) (out : List Timed) → WritesCycle s xs out t → HasCycles 1 s xs out t
unfolding HasCycles
one_cycle s t xs out f = (t, xs, [], out, [], f, (refl, refl, refl), sym (append-nil xs), sym (append-nil out))

pub cycles_none : {T E : Type 0} {D : DeskRelations} (m : Machine) (held : Option (List ℕ)) (k : ℕ) (u : T)
    → PerformedWithDesk {T = T} {E = E} D (WritesCycles 0) m m (between held held k k) (Ok u)
unfolding HasCycles
cycles_none m held k u = by_where {A = λ s. Unit {0}} (λ s good st. tt) (where_nothing m held k u (λ s g st. (refl, refl, refl)))

pub cycles_then : {T E U F : Type 0} {D : DeskRelations} (i : ℕ) {m mid now : Machine} {a b c : Option (List ℕ)} {k l n : ℕ} {u : T} {r : Result U F}
    → PerformedWithDesk {T = T} {E = E} D (WritesCycles i) m mid (between a b k l) (Ok u) → PerformedWithDesk D WritesCycle mid now (between b c l n) r
    → PerformedWithDesk D (WritesCycles (i + 1)) m now (between a c k n) r
cycles_then i {r = r} f g =
    by_where {A = λ s. Unit {0}} (λ s good st. tt)
    (where_then {B = λ s. Unit {0}} r (λ s mid t xs ys a b good st p steps q more. cycles_append i 1 s mid t xs ys a b p (one_cycle mid t ys b q))
    (λ s t xs out g st known p steps. tt) (where_by f) (where_by g))

-- ---- they are put into a room

pub gathers_none : {D : DeskRelations} {m : Machine} {held : Option (List ℕ)} {room : List ℕ} → room ≡ [] → Gathers D (WritesCycles 0) m m held held room
gathers_none {D = D} {m} {held} {room} none = record {
  before = [];
  fills = subst (λ l. FillsBy D (WritesCycles 0) m m [] l) (sym none) (cycles_none m (Some []) 0 (tt {0}));
  grew = Grows-nothing held;
}

pub gathers_then : {D : DeskRelations} (i : ℕ) {m mid now : Machine} {held after : Option (List ℕ)} {room more : List ℕ} → Gathers D (WritesCycles i) m mid held after room
    → FillsBy D WritesCycle mid now room more → Gathers D (WritesCycles (i + 1)) m now held after more
gathers_then i f g = record { before = f.before; fills = cycles_then i f.fills (fills_after f.before g); grew = f.grew }

-- ---- all of them

pub cycles_all : {T E : Type 0} {D : DeskRelations} (i n : ℕ) {m now : Machine} {a b : Option (List ℕ)} {k l : ℕ} {u : T} → i ≡ n
    → PerformedWithDesk {T = T} {E = E} D (WritesCycles i) m now (between a b k l) (Ok u) → PerformedWithDesk {T = T} {E = E} D (λ s. Carries s (Cycles n)) m now (between a b k l) (Ok u)
cycles_all i n e d =
    by_where {A = λ s. Unit {0}} (λ s good st. tt)
    (where_when (λ s t xs out g st p f. subst (λ j. Carries s (Cycles j) xs out t) e (writes_cycles p)) (where_by d))

-- ---- the limits

-- before the first device none is written
abbrev one_written : Option ResetEntry → ℕ
one_written None = 0
one_written (Some e) = 1

-- what a cycle that was written leaves
record HasWritten (s t : State) : Type 0 where
  cycle : t.clock.cycle ≡ s.clock.cycle + 1
  latest : t.account.latest ≡ s.account.latest
  written : t.written ≡ s.written + one_written s.account.latest
  answered : t.transaction ≡ None

has_written : (s t : State) (xs : List Action) (out : List Timed) → WritesCycle s xs out t → HasWritten s t
has_written s t xs out f = go s.account.latest refl f
  where
    go : (o : Option ResetEntry) → s.account.latest ≡ o → HasCycle o s xs out t → HasWritten s t
    go None none f =
        let come = came s t xs out (f.1, f.0) in
        let same = come.written in
        let off : one_written s.account.latest ≡ 0 = ap one_written none in
        record { cycle = come.cycle; latest = come.latest; written = omega (arith, same, off); answered = come.answered }
    go (Some e) is f =
        let w = f.writes in
        let x = begun s w.mid (next_cycle s ∷ StartCycle ∷ []) w.first (refl, w.comes) in
        let sent : f.sent ≡ record x.mid { written = x.mid.written + 1 } = (packets_are (talkers w.mid.account) w.mid w.packets w.last f.sent w.sends).1 ∙ x.state_is in
        let h : HasWritten s f.sent = subst (HasWritten s) (sym sent) (record {
          cycle = x.came.cycle;
          latest = x.came.latest;
          written = let same = x.came.written in let on : one_written s.account.latest ≡ 1 = ap one_written is in omega (arith, same, on);
          answered = x.came.answered;
        }) in
        let kept : t ≡ with_block f.sent (heard_in f.sent out) = f.keeps.5.1 ∙ f.keeps.3.state_is in
        subst (HasWritten s) (sym kept) (record { cycle = h.cycle; latest = h.latest; written = h.written; answered = h.answered })

writes_one : (o : Option ResetEntry) → is_some o ≡ true → one_written o ≡ 1
writes_one None on = let no : ⊥ = cc on in absurd no
writes_one (Some e) on = refl

may_after : (i k : ℕ) (s u : State) (xs : List Action) (out : List Timed) → HasCycles i s xs out u → MayWrite (i + k) s → MayWrite k u
unfolding HasCycles
may_after zero k s u xs out f may =
    let low = may.cycle in
    subst (MayWrite k) (sym f.2) (record { none = may.none; cycle = omega (arith, low); few = λ on. let few = may.few on in omega (arith, few) })
may_after (suc i) k s u xs out f may =
    let x = has_written s f.0 f.1 f.3 f.5 in
    may_after i k f.0 u f.2 f.4 f.6 (record {
      none = x.answered;
      cycle = let low = may.cycle in let same = x.cycle in omega (arith, low, same);
      few = λ on.
          let was : IsTrue (is_some s.account.latest) = ap is_some (sym x.latest) ∙ on in
          let low = may.few was in
          let same = x.written in
          let one = writes_one s.account.latest was in
          omega (arith, low, same, one);
    })

may_write : (m : Machine) (n : ℕ) (s : State) → IsGood s → StandsFor m s → m.cycle + n ≤ 2 ^ 52 → (0 < length m.devices.nodes → m.written + n ≤ MOST_WRITTEN_CYCLES)
    → MayWrite n s
may_write m n s g st cycle few = record {
  none = st.answered;
  cycle = let same = st.clock.cycle in omega (arith, same, cycle);
  few = λ on. let low = few (some_device m s g st on) in let same = st.clock.written in omega (arith, low, same);
}

-- the machine sees them
machine_may : (m : Machine) (n : ℕ) (s : State) → IsGood s → StandsFor m s → MayWrite n s
    → (m.cycle + n ≤ 2 ^ 52) × (0 < length m.devices.nodes → m.written + n ≤ MOST_WRITTEN_CYCLES)
machine_may m n s g st may = (
  let same = st.clock.cycle in let low = may.cycle in omega (arith, same, low),
  λ some. let low = may.few (there s.account.latest g.latest some) in let same = st.clock.written in omega (arith, low, same),
)
  where
    there : (o : Option ResetEntry) → IsLatest o s.declared s.account → 0 < length m.devices.nodes → is_some o ≡ true
    there None h some = let none : length s.declared.names ≡ 0 = ap length h.0 in let size = st.devices.nodes.size in absurd (omega (arith, some, none, size))
    there (Some e) h some = refl

-- another cycle may be written
pub cycles_may : {T E : Type 0} {D : DeskRelations} (i n : ℕ) {m now : Machine} {a b : Option (List ℕ)} {k l : ℕ} {u : T} → IsReady m → i < n
    → m.cycle + n ≤ 2 ^ 52
    → (0 < length m.devices.nodes → m.written + n ≤ MOST_WRITTEN_CYCLES) → PerformedWithDesk {T = T} {E = E} D (WritesCycles i) m now (between a b k l) (Ok u)
    → (now.cycle + 1 ≤ 2 ^ 52) × (0 < length now.devices.nodes → now.written < MOST_WRITTEN_CYCLES)
cycles_may i n {m} {now} ready lt cycle few d =
    let s = ready.state in
    let x = d.shown s ready.good ready.stands in
    let all : i + (n - i) ≡ n = omega (arith, lt) in
    let before : MayWrite (i + (n - i)) s = subst (λ j. MayWrite j s) (sym all) (may_write m n s ready.good ready.stands cycle few) in
    let may = may_after i (n - i) s x.state x.actions x.out x.whole.0 before in
    let y = machine_may now (n - i) x.state (steps_good s x.state x.actions x.out ready.good x.steps) x.stands may in
    (let low = y.0 in omega (arith, low, lt), λ some. let low = y.1 some in omega (arith, low, lt))

-- ---- cycles that were cut off

-- the others can be written
cycles_go_on : (m : Machine) (i n : ℕ) → i ≤ n → m.cycle + n ≤ 2 ^ 52 → (0 < length m.devices.nodes → m.written + n ≤ MOST_WRITTEN_CYCLES)
    → GoesOn m (WritesCycles i) (λ s. Carries s (Cycles n))
cycles_go_on m i n le cycle few s u xs a g st p f =
    let all : i + (n - i) ≡ n = omega (arith, le) in
    let may = may_after i (n - i) s u xs a p (subst (λ j. MayWrite j s) (sym all) (may_write m n s g st cycle few)) in
    let r = can_write (n - i) u (steps_good s u xs a g f) may in
    let rest : Carries u (Cycles (n - i)) r.actions r.out r.after = writes_cycles r.cycles in (
      r.actions,
      r.out,
      r.after,
      subst (λ j. Carries s (Cycles j) (xs ++ r.actions) (a ++ r.out) r.after) all
          (writes_cycles (cycles_append i (n - i) s u r.after xs r.actions a r.out p r.cycles)),
      carries_steps u (Cycles (n - i)) r.actions r.out r.after rest,
    )

pub cycles_cut : {U F V G : Type 0} {D : DeskRelations} (i n : ℕ)
    {m now last : Machine} {a b : Option (List ℕ)} {k l : ℕ} (q : Result U F) (r : Result V G)
    → i ≤ n → m.cycle + n ≤ 2 ^ 52 → (0 < length m.devices.nodes → m.written + n ≤ MOST_WRITTEN_CYCLES) → IsErr q → IsErr r
    → PerformedWithDesk D (WritesCycles i) m now (between a b k l) q → PerformedWithDesk D (λ s. Carries s (Cycles n)) m last (between a b k l) r
cycles_cut i n {m} q r le cycle few was is f = by_where {A = λ s. Unit {0}} (λ s good st. tt) (where_cut q r (cycles_go_on m i n le cycle few) was is (where_by f))

-- what is left in the room is written, or cut off
pub cycles_out : {T E : Type 0} {D : DeskRelations} (i n : ℕ) (r : Result T E) {m now : Machine} {held after following : Option (List ℕ)} {room : List ℕ} (rest : List ℕ) {j k l : ℕ} → i ≡ n
    → m.cycle + n ≤ 2 ^ 52 → (0 < length m.devices.nodes → m.written + n ≤ MOST_WRITTEN_CYCLES) → Gathers D (WritesCycles i) m now held after room
    → Passes after following r room rest → rest ≡ [] → j ≡ k → CountsFaults j l r → PerformedWithDesk D (λ s. Carries s (Cycles n)) m now (between held following k l) r
cycles_out i n (Ok u) rest {j} {k} {l} all cycle few f passes empty same faults = cycles_all i n all (gathers_all u (gathers_out f passes) empty (faults_then k j l (Ok u) same faults))
cycles_out i n (Err w) rest {j} {k} {l} all cycle few f passes empty same faults =
    cycles_cut i n (Err w) (Err w) (omega (arith, all)) cycle few refl refl (gathers_cut w f passes (faults_then k j l (Err w) same faults))
