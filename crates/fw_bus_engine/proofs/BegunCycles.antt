-- A cycle that comes: its cycle start is written, or cut off.
use Rattle.fw_bus_engine.proofs.Common.{◌≡◌, ℕ, ◌+◌, ◌%◌, ◌<◌, ◌==◌, ◌&&◌, cond, List, [], ◌∷◌, length, Bool, true, Option, Some, None, is_some, option_map, refl, ap, sym, subst, ◌∙◌, arith, IsTrue}
use Rattle.fw_bus_engine.proofs.Common.{false}
use Rattle.fw_bus_engine.proofs.Common.{Ok, Result, same_Some, Packet, at_plug, Async, ResetEntry, Timed, Action, Pass, EndSecond, Transition, DeskRelations, IsGood, IsLatest, State, steps_good}
use Rattle.fw_bus_engine.proofs.Common.{Machine, HadSent, Gives, between, Performs, Performed, PerformedWithDesk, IsReady, StandsFor}
use Rattle.fw_order.specs.declared.limits.TheConstants.{MOST_WRITTEN_CYCLES}
use Rattle.fw_model_run.specs.Actions.{StartCycle}
use Rattle.fw_model_run.specs.Carrying.{next_cycle}
use Rattle.fw_model_run.specs.Given.{AreGiven}
use Rattle.fw_model_run.specs.Streams.{cycle_start}
use Rattle.fw_model_run.proofs.Bounds.{few_rows}
use Rattle.fw_model_run.proofs.Counting.{counts_before}
use Rattle.fw_bus_engine.specs.Cycling.{Comes, Begins}
use Rattle.fw_bus_state.specs.Giving.{in_room, never_fails}
use Rattle.fw_bus_engine.specs.Filling.{Fills}
use Rattle.fw_bus_state.specs.Streaming.{count_at}
use Rattle.fw_bus_engine.proofs.CycleTurns.{HasCome, has_come, start_turns, started}
use Rattle.fw_bus_engine.proofs.DeskCalls.{LeadsTo}
use Rattle.fw_bus_engine.proofs.Desks.{does_given}
use Rattle.fw_bus_engine.proofs.Doings.{Follows, acts_follow, does_then}
use Rattle.fw_bus_engine.proofs.OneAction.{does_one}

-- ---- a cycle that comes

pub came : (s t : State) (xs : List Action) (out : List Timed) → Comes s xs out t → HasCome s t
came s t xs out p = subst (HasCome s) (sym p.1.5.1) (has_come s p.1.2 p.1.0 p.1.3)

-- a desk has nothing to give in it
pub given_next : (D : DeskRelations) (s : State) (xs : List Action) → AreGiven D xs → AreGiven D (next_cycle s ∷ xs)
given_next D s xs f = go (s.account.reclaiming && (s.clock.cycle + 1 == s.clock.over_at))
  where
    go : (b : Bool) → AreGiven D (cond b EndSecond (Pass 1) ∷ xs)
    go true = (tt, f)
    go false = (tt, f)

-- and then its cycle start is written
pub begin_follows : {m : Machine} → Follows m Comes (Performs (StartCycle ∷ [])) Begins
begin_follows {m} s mid t xs ys a b g st p f q h = acts_follow {m = m} (next_cycle s ∷ []) (StartCycle ∷ []) s mid t xs ys a b g st p f q h

-- what is left then
pub record HasBegun (s t : State) : Type 0 where
  pub mid : State
  pub came : HasCome s mid
  pub out : List Timed
  pub step : Transition s (next_cycle s) out mid
  pub entry : ResetEntry
  pub latest : s.account.latest ≡ Some entry
  pub state_is : t ≡ record mid { written = mid.written + 1 }

pub begun : (s t : State) (xs : List Action) (out : List Timed) → Begins s xs out t → HasBegun s t
begun s t xs out p =
    let f = p.1 in
    let x = f.5.3 in
    let come = has_come s f.2 f.0 f.3 in
    record { mid = f.2; came = come; out = f.0; step = f.3; entry = x.found; latest = sym come.latest ∙ x.may.latest; state_is = f.5.5.1 ∙ x.state_is }

pub begins_given : {T E : Type 0} {D : DeskRelations} {m now : Machine} {a b : Option (List ℕ)} {k l : ℕ} {r : Result T E} → Performed Begins m now (between a b k l) r
    → PerformedWithDesk D Begins m now (between a b k l) r
begins_given {D = D} f = does_given (λ s t xs out p. subst (AreGiven D) (sym p.0) (given_next D s (StartCycle ∷ []) (tt, tt))) f

-- ---- one cycle

-- there is a device
pub some_device : (m : Machine) (s : State) → IsGood s → StandsFor m s → IsTrue (is_some s.account.latest) → 0 < length m.devices.nodes
some_device m s g st on = go s.account.latest g.latest on
  where
    go : (o : Option ResetEntry) → IsLatest o s.declared s.account → is_some o ≡ true → 0 < length m.devices.nodes
    go None h on = let no : ⊥ = cc on in absurd no
    go (Some e) h on = let some = h.0 in let size = st.devices.nodes.size in omega (arith, some, size)

-- what the root is told by
abbrev pub root_of : Option ResetEntry → Option ℕ
root_of o = option_map (λ (e : ResetEntry). e.root) o

rooted : (o : Option ResetEntry) (root : ℕ) → root_of o ≡ Some root → (e : ResetEntry) × (o ≡ Some e) × (e.root ≡ root)
rooted None root is = let no : ⊥ = cc is in absurd no
rooted (Some e) root is = (e, refl, same_Some e.root root is)

-- it is a node
pub root_few : {m : Machine} (root : ℕ) → IsReady m → ((s : State) → IsGood s → StandsFor m s → root_of s.account.latest ≡ Some root) → root < 63
root_few {m} root r is =
    let s = r.state in
    let x = rooted s.account.latest root (is s r.good r.stands) in
    let h = subst (λ o. IsLatest o s.declared s.account) x.1 r.good.latest in
    let few = few_rows s x.0 r.good h.1 in
    let low = h.4 in
    let same = x.2 in
    omega (arith, few, low, same)

-- the limit of written cycles is not passed
begin_few : {T E : Type 0} {m mid : Machine} {a b : Option (List ℕ)} {k l : ℕ} {u : T} (root : ℕ) → IsReady m → (0 < length m.devices.nodes → m.written < MOST_WRITTEN_CYCLES)
    → Performed {T = T} {E = E} Comes m mid (between a b k l) (Ok u) → ((s : State) → IsGood s → StandsFor mid s → root_of s.account.latest ≡ Some root) → mid.written < MOST_WRITTEN_CYCLES
begin_few {m = m} {mid} root r few d is =
    let s = r.state in
    let x = d.shown s r.good r.stands in
    let come = came s x.state x.actions x.out x.whole in
    let there = rooted x.state.account.latest root (is x.state (steps_good s x.state x.actions x.out r.good x.steps) x.stands) in
    let low = few (some_device m s r.good r.stands (ap is_some (sym come.latest ∙ there.1))) in
    let before = r.stands.clock.written in
    let same = come.written in
    let after = x.stands.clock.written in
    omega (arith, low, before, same, after)

-- a cycle has come, and its cycle start was written, or cut off
pub begins : {T E U F : Type 0} {m mid : Machine} {a b c : Option (List ℕ)} {k l n : ℕ} {u : T} {r : Result U F} (root : ℕ) (packet : Packet) → IsReady m
    → (0 < length m.devices.nodes → m.written < MOST_WRITTEN_CYCLES) → Performed {T = T} {E = E} Comes m mid (between a b k l) (Ok u)
    → ((s : State) → IsGood s → StandsFor mid s → root_of s.account.latest ≡ Some root) → packet ≡ cycle_start root mid.cycle
    → Gives (started mid) (Async packet) (between b c l n) r → Performed Begins m (started mid) (between a c k n) r
begins {m = m} {mid} {r = r} root packet ready few d is same gives =
    does_then r (begin_follows {m = m}) d
    (does_one mid.cycle (Some (Async packet)) r (start_turns mid (started mid) root packet is (begin_few root ready few d is) same refl) gives.bytes gives.faults)

-- both stand in a room
pub begun_in : {m mid : Machine} {a : List ℕ} (b c : List ℕ) (root : ℕ) (packet : Packet) → IsReady m → (0 < length m.devices.nodes → m.written < MOST_WRITTEN_CYCLES) → Fills Comes m mid a b
    → ((s : State) → IsGood s → StandsFor mid s → root_of s.account.latest ≡ Some root) → packet ≡ cycle_start root mid.cycle
    → Gives (started mid) (Async packet) (in_room b c) never_fails → Fills Begins m (started mid) a c
begun_in b c root packet ready few d is same gives =
    begins {U = Unit {0}} {F = Unit {0}} {b = Some b} {c = Some c} {r = Ok (tt {0})} root packet ready few d is same gives

-- the counts before it are those that the machine kept
pub begin_leads : (m : Machine) (counts : List ℕ) → m.streams ≡ counts → LeadsTo m (λ s. Unit {0}) Begins (HadSent counts)
begin_leads m counts is s t xs out g st known p f =
    let x = begun s t xs out p in
    subst (HadSent counts) (sym x.state_is) (record {
      each = λ d on. ap (λ c. count_at c d) (sym is) ∙ (st.streams.each d ∙ ap (λ k. k % 256) (sym (counts_before s x.out x.mid (at_plug d 0) x.step on)));
    })
