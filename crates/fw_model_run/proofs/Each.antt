-- What holds of each action of an order.
use Rattle.fw_model_run.proofs.Common.{◌≡◌, ℕ, zero, suc, ◌+◌, ◌==◌, ◌&&◌, cond, List, [], ◌∷◌, ◌++◌, Bool, true, false, Option, Some, None, refl, sym, subst, ⊤}
use Rattle.fw_model_run.proofs.Common.{PlugAt, ResetEntry, Timed, Order, State, Obeyed, GivenBlock, talkers}
use Rattle.fw_model_run.proofs.Common.{living, Action, Withhold, AddDevice, AddCable, ResetBus, StartConnection, StartBreak, HalfStep}
use Rattle.fw_model_run.proofs.Common.{Rest, Unsettled, Pass, EndSecond, Die, CarryOut, Lose, TellLoss, Start}
use Rattle.fw_model_run.proofs.Common.{Ask, Answer, ShowWord, SendCommand, SendFrame, Receive, InsertTape, EjectTape, StartCycle, SendPacket, BecomeCandidate, Contend, TieReel, KeepBlock, Finish}
use Rattle.fw_model_run.proofs.Common.{times, half_steps_of, Rounds, none, round, rest, SendsAll, quiet}
use Rattle.fw_model_run.proofs.Common.{sends, next_cycle, SendsPackets, HasCycle, HasCycles, heard_in, Carries, withholds, withholds_already}
use Rattle.fw_model_run.proofs.Common.{declares, joins, resets, connects, breaks, steps, settled, waits, waits_over}
use Rattle.fw_model_run.proofs.Common.{writes_cycles, dies, dies_late, dies_idle, loses, starts, goes_on, transacts, shows, commanded}
use Rattle.fw_model_run.proofs.Common.{inserts, ejects, ejects_nothing, becomes_candidate, stays_candidate, contends, dubs, ends}
use Rattle.fw_order.specs.declared.order.Order.TheVariants as Orders
use Rattle.fw_model_run.specs.Carrying.{unsettled}

-- it holds of each of the actions
abbrev pub Each : (Action → Type 0) → List Action → Type 0
Each P [] = ⊤
Each P (a ∷ actions) = P a × Each P actions

pub each_then : (P : Action → Type 0) (xs ys : List Action) → Each P xs → Each P ys → Each P (xs ++ ys)
each_then P [] ys f g = g
each_then P (x ∷ xs) ys f g = (f.0, each_then P xs ys f.1 g)

-- ---- which order an action is part of

abbrev pub IsCommand : Order → Type 0
IsCommand (Orders.Command a b bytes) = ⊤
IsCommand _ = ⊥

abbrev pub IsCycles : Order → Type 0
IsCycles (Orders.Cycles n) = ⊤
IsCycles _ = ⊥

-- that of few orders; of the others nothing is said
abbrev pub IsPartOf : Order → Action → Type 0
IsPartOf o (Ask x) = o ≡ Orders.Transact x
IsPartOf o (Receive (Some obeyed)) = IsCommand o
IsPartOf o (SendPacket p block) = IsCycles o
IsPartOf o (KeepBlock block) = IsCycles o
IsPartOf o Finish = o ≡ Orders.End
IsPartOf o _ = ⊤

-- ---- actions that are given together

pub each_times : (P : Action → Type 0) (n : ℕ) (a : Action) → P a → Each P (times n a)
unfolding times
each_times P zero a f = tt
each_times P (suc n) a f = each_then P (times n a) (a ∷ []) (each_times P n a f) (f, tt)

each_halves : (P : Action → Type 0) (ds : List ℕ) → ((d : ℕ) → P (HalfStep d)) → Each P (half_steps_of ds)
each_halves P [] half = tt
each_halves P (d ∷ ds) half = (half d, each_halves P ds half)

each_rounds : (P : Action → Type 0) (n : ℕ) (s : State) (xs : List Action) (out : List Timed) (t : State) → ((d : ℕ) → P (HalfStep d)) → ((k : ℕ) → P (Rest k)) → Rounds n s xs out t → Each P xs
each_rounds P n s xs out t half rests none = tt
each_rounds P n s xs out t half rests (round {n = k} m more first last f g) =
    each_then P (half_steps_of (living s)) more (each_halves P (living s) half) (each_rounds P k m more last t half rests g)
each_rounds P n s xs out t half rests (rest f) = (rests _, tt)

pub each_frame : (P : Action → Type 0) (d : ℕ) (s : State) (xs : List Action) (out : List Timed) (t : State) → P (SendFrame d) → P (Receive None) → SendsAll d s xs out t → Each P xs
each_frame P d s xs out t sent received (quiet e) = tt
each_frame P d s xs out t sent received (sends m more first last f g) = (sent, (received, each_frame P d m more last t sent received g))

-- ---- cycles

-- what comes in a cycle that is written
record OfCycles (P : Action → Type 0) : Type 0 where
  ends : P EndSecond
  passes : P (Pass 1)
  begins : P StartCycle
  sends : (p : PlugAt) (block : Option GivenBlock) → P (SendPacket p block)
  keeps : (block : Option (List ℕ)) → P (KeepBlock block)

each_next : (P : Action → Type 0) (s : State) → OfCycles P → P (next_cycle s)
each_next P s h = go (s.account.reclaiming && (s.clock.cycle + 1 == s.clock.over_at))
  where
    go : (b : Bool) → P (cond b EndSecond (Pass 1))
    go true = h.ends
    go false = h.passes

each_packet : (P : Action → Type 0) (plugs : List PlugAt) (s : State) (xs : List Action) (out : List Timed) (t : State) → OfCycles P → SendsPackets plugs s xs out t → Each P xs
each_packet P [] s xs out t h f = subst (Each P) (sym f.0) tt
each_packet P (p ∷ plugs) s xs out t h f = subst (Each P) (sym f.7) (h.sends p f.0, each_packet P plugs f.1 f.2 f.4 t h f.6)

each_cycle : (P : Action → Type 0) (o : Option ResetEntry) (s : State) (xs : List Action) (out : List Timed) (t : State) → OfCycles P → HasCycle o s xs out t → Each P xs
each_cycle P None s xs out t h f = subst (Each P) (sym f.1) (each_next P s h, tt)
each_cycle P (Some e) s xs out t h f =
    let w = f.writes in
    subst (Each P) (sym f.actions_are) (each_then P f.written (KeepBlock (heard_in f.sent out) ∷ [])
    (subst (Each P) (sym w.actions_are) (each_next P s h, (h.begins, each_packet P (talkers w.mid.account) w.mid w.packets w.last f.sent h w.sends))) (h.keeps _, tt))

each_cycles : (P : Action → Type 0) (n : ℕ) (s : State) (xs : List Action) (out : List Timed) (t : State) → OfCycles P → HasCycles n s xs out t → Each P xs
unfolding HasCycles
each_cycles P zero s xs out t h f = subst (Each P) (sym f.0) tt
each_cycles P (suc n) s xs out t h f = subst (Each P) (sym f.7) (each_then P f.1 f.2 (each_cycle P s.account.latest s f.1 f.3 f.0 h f.5) (each_cycles P n f.0 f.2 f.4 t h f.6))

-- ---- orders

pub each_carried : (P : Action → Type 0) (s : State) (o : Order) (xs : List Action) (out : List Timed) (t : State) → ((a : Action) → IsPartOf o a → P a) → Carries s o xs out t → Each P xs
each_carried P s o xs out t h (withholds f) = (h Withhold tt, tt)
each_carried P s o xs out t h (withholds_already e) = tt
each_carried P s o xs out t h (declares f) = (h (AddDevice _ _ _ _) tt, tt)
each_carried P s o xs out t h (joins f) = (h (AddCable _ _) tt, tt)
each_carried P s o xs out t h (resets f) = (h (ResetBus _) tt, tt)
each_carried P s o xs out t h (connects f) = (h (StartConnection _ _) tt, tt)
each_carried P s o xs out t h (breaks f) = (h (StartBreak _ _) tt, tt)
each_carried P s o xs out t h (steps {d = d} {count = n} f) = each_times P n (HalfStep d) (h (HalfStep d) tt)
each_carried P s o xs out t h (settled {n = k} f e) = each_rounds P k s xs out t (λ d. h (HalfStep d) tt) (λ n. h (Rest n) tt) f
each_carried P s o xs out t h (unsettled {n = k} m more first last f g) =
    each_then P more (Unsettled ∷ []) (each_rounds P k s more first m (λ d. h (HalfStep d) tt) (λ n. h (Rest n) tt) f) (h Unsettled tt, tt)
each_carried P s o xs out t h (waits f) = (h (Pass _) tt, tt)
each_carried P s o xs out t h (waits_over e f) = (h (Pass _) tt, (h EndSecond tt, (h (Pass _) tt, tt)))
each_carried P s o xs out t h (writes_cycles {n = n} f) = each_cycles P n s xs out t
    (record { ends = h EndSecond tt; passes = h (Pass 1) tt; begins = h StartCycle tt; sends = λ p block. h (SendPacket p block) tt; keeps = λ block. h (KeepBlock block) tt }) f
each_carried P s o xs out t h (dies f) = (h (Die _) tt, tt)
each_carried P s o xs out t h (dies_late f) = (h (CarryOut _) tt, (h (Die _) tt, tt))
each_carried P s o xs out t h (dies_idle e f) = (h (Die _) tt, tt)
each_carried P s o xs out t h (loses f) = (h (Lose _) tt, (h (TellLoss _) tt, tt))
each_carried P s o xs out t h (starts f) = (h (Start _) tt, tt)
each_carried P s o xs out t h (goes_on e) = tt
each_carried P s o xs out t h (transacts {x = x} f) = (h (Ask x) refl, (h Answer tt, tt))
each_carried P s o xs out t h (shows f) = (h (ShowWord _ _) tt, tt)
each_carried P s o xs out t h (commanded {a = a} {b = b} {bytes = bytes} x m more first last f g) =
    (h (SendCommand a b bytes) tt, (received x, each_frame P b m more last t (h (SendFrame b) tt) (h (Receive None) tt) g))
  where
    received : (x : Option Obeyed) → P (Receive x)
    received None = h (Receive None) tt
    received (Some y) = h (Receive (Some y)) tt
each_carried P s o xs out t h (inserts {d = d} m more first last f g) = (h (InsertTape _ _ _) tt, each_frame P d m more last t (h (SendFrame d) tt) (h (Receive None) tt) g)
each_carried P s o xs out t h (ejects {d = d} m more first last f g) = (h (EjectTape _) tt, each_frame P d m more last t (h (SendFrame d) tt) (h (Receive None) tt) g)
each_carried P s o xs out t h (ejects_nothing e) = tt
each_carried P s o xs out t h (becomes_candidate f) = (h (BecomeCandidate _) tt, tt)
each_carried P s o xs out t h (stays_candidate e) = tt
each_carried P s o xs out t h (contends {d = d} {count = n} f) = each_times P n (Contend d) (h (Contend d) tt)
each_carried P s o xs out t h (dubs f) = (h (TieReel _) tt, tt)
each_carried P s o xs out t h (ends f) = (h Finish refl, tt)
