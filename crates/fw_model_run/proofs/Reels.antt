-- Each block of the reel was recorded in the course of the run.
use Rattle.fw_model_run.proofs.Common.{◌≡◌, ℕ, zero, suc, ◌+◌, ◌==◌, ◌&&◌, cond, List, [], ◌∷◌, ◌++◌, length, Bool, true, false, Option, Some, None, refl, ap, sym, subst, ◌∙◌, append_assoc, ⊤, PlugAt}
use Rattle.fw_model_run.proofs.Common.{ResetEntry, Timed, Command, Order, Action, Pass, EndSecond}
use Rattle.fw_model_run.proofs.Common.{KeepBlock, Transition, Transitions}
use Rattle.fw_model_run.proofs.Common.{next_cycle, SendsPackets, HasCycle, HasCycles, Carries}
use Rattle.fw_model_run.proofs.Common.{writes_cycles}
use Rattle.fw_model_run.proofs.Common.{DeskRelations, AreGiven, IsGood, heard_in, Run, begun, and_then, State, first_state, talkers}
use Rattle.std.specs.Prelude.{nat_lt}
use Rattle.fw_model_run.specs.Carrying.{KeepsCycle}
use Rattle.fw_model_run.specs.Recorded.{IsKeptAmong, EachOf, AreRecorded}
use Rattle.fw_model_run.specs.Recording.{reel_keeping, room_of, tape_in}
use Rattle.fw_model_run.proofs.Given.{given_append}
use Rattle.fw_model_run.proofs.Recorded.{recorded}
use Rattle.fw_model_run.proofs.Runs.{steps_then, writes_steps, cycle_steps, carries_steps, run_steps}
use Rattle.fw_model_run.proofs.Steps.{steps_good}
use Rattle.fw_model_run.proofs.Times.{first_good}
use Rattle.fw_model_run.proofs.Alterations.{Allows, Alteration, Kept, Tied, altered}
use Rattle.fw_model_run.proofs.Effects.{Effect, altering, effect, resetting}
use Rattle.fw_model_run.proofs.Each.{Each, IsCycles, IsPartOf, each_carried, each_then as actions_then}

-- ---- what actions keep

abbrev kept_by : Action → Option (List ℕ)
kept_by (KeepBlock block) = block
kept_by _ = None

abbrev HoldsOf : (List ℕ → Type 0) → Option (List ℕ) → Type 0
HoldsOf P None = ⊤
HoldsOf P (Some bytes) = P bytes

-- it holds of each block that one of the actions keeps
abbrev AllKept : (List ℕ → Type 0) → List Action → Type 0
AllKept P actions = Each (λ a. HoldsOf P (kept_by a)) actions

kept_then : (P : List ℕ → Type 0) (xs ys : List Action) → AllKept P xs → AllKept P ys → AllKept P (xs ++ ys)
kept_then P xs ys f g = actions_then (λ a. HoldsOf P (kept_by a)) xs ys f g

holds_map : (P Q : List ℕ → Type 0) → ((bytes : List ℕ) → P bytes → Q bytes) → (o : Option (List ℕ)) → HoldsOf P o → HoldsOf Q o
holds_map P Q f None h = tt
holds_map P Q f (Some bytes) h = f bytes h

kept_map : (P Q : List ℕ → Type 0) → ((bytes : List ℕ) → P bytes → Q bytes) → (xs : List Action) → AllKept P xs → AllKept Q xs
kept_map P Q f [] h = tt
kept_map P Q f (x ∷ xs) h = (holds_map P Q f (kept_by x) h.0, kept_map P Q f xs h.1)

each_map : (P Q : List ℕ → Type 0) → ((bytes : List ℕ) → P bytes → Q bytes) → (reel : List (List ℕ)) → EachOf P reel → EachOf Q reel
each_map P Q f [] h = tt
each_map P Q f (bytes ∷ reel) h = (f bytes h.0, each_map P Q f reel h.1)

-- ---- the reel after an action

each_then : (P : List ℕ → Type 0) (reel : List (List ℕ)) (bytes : List ℕ) → EachOf P reel → P bytes → EachOf P (reel ++ bytes ∷ [])
each_then P [] bytes h p = (p, tt)
each_then P (x ∷ reel) bytes h p = (h.0, each_then P reel bytes h.1 p)

keeping : (P : List ℕ → Type 0) (s : State) (d : Option ℕ) (block : Option (List ℕ)) → EachOf P s.dub.reel → HoldsOf P block → EachOf P (reel_keeping s d block)
keeping P s None block h k = h
keeping P s (Some d) None h k = h
keeping P s (Some d) (Some bytes) h k = go (nat_lt (length s.dub.reel) (room_of (tape_in s d)))
  where
    go : (b : Bool) → EachOf P (cond b (s.dub.reel ++ bytes ∷ []) s.dub.reel)
    go true = each_then P s.dub.reel bytes h k
    go false = h

reel_as : (P : List ℕ → Type 0) (s u t : State) → t ≡ u → u.dub.reel ≡ s.dub.reel → EachOf P s.dub.reel → EachOf P t.dub.reel
reel_as P s u t is same h = subst (λ (z : State). EachOf P z.dub.reel) (sym is) (subst (EachOf P) (sym same) h)

step_reel : (P : List ℕ → Type 0) (s : State) (a : Action) (out : List Timed) (t : State) → Transition s a out t → HoldsOf P (kept_by a) → EachOf P s.dub.reel → EachOf P t.dub.reel
step_reel P s a out t x k h = go (effect s a out t x)
  where
    by : (y : Alteration) → Allows s a y → EachOf P (altered s y).dub.reel
    by (Tied d) ok = tt
    by (Kept block) ok = keeping P s s.dub.tied block h (subst (λ b. HoldsOf P (kept_by b)) ok.1 k)
    by _ ok = h

    go : Effect s a out t → EachOf P t.dub.reel
    go (resetting counts half_steps n initiator free begins may r) = reel_as P s _ t r.state_is refl h
    go (altering y w out_is is ok) = subst (λ (z : State). EachOf P z.dub.reel) (sym is) (by y ok)

steps_reel : (P : List ℕ → Type 0) (s : State) (actions : List Action) (out : List Timed) (t : State) → Transitions s actions out t → AllKept P actions → EachOf P s.dub.reel → EachOf P t.dub.reel
steps_reel P s [] out t f k h = reel_as P s s t f.1 refl h
steps_reel P s (a ∷ actions) out t f k h = steps_reel P f.2 actions f.1 t f.5 k.1 (step_reel P s a f.0 f.2 f.3 k.0 h)

-- ---- actions that keep nothing

packets_kept : (P : List ℕ → Type 0) (plugs : List PlugAt) (s : State) (xs : List Action) (out : List Timed) (t : State) → SendsPackets plugs s xs out t → AllKept P xs
packets_kept P [] s xs out t f = subst (AllKept P) (sym f.0) tt
packets_kept P (p ∷ plugs) s xs out t f = subst (AllKept P) (sym f.7) (tt, packets_kept P plugs f.1 f.2 f.4 t f.6)

comes_kept : (P : List ℕ → Type 0) (s : State) → HoldsOf P (kept_by (next_cycle s))
comes_kept P s = go (s.account.reclaiming && (s.clock.cycle + 1 == s.clock.over_at))
  where
    go : (b : Bool) → HoldsOf P (kept_by (cond b EndSecond (Pass 1)))
    go true = tt
    go false = tt

-- ---- among more actions

kept_before : (D : DeskRelations) (s : State) (xs ys : List Action) (bytes : List ℕ) → IsKeptAmong D s xs bytes → IsKeptAmong D s (xs ++ ys) bytes
kept_before D s xs ys bytes k = record {
  before = k.before;
  rest = k.rest ++ ys;
  out = k.out;
  state = k.state;
  leads = k.leads;
  here = k.here;
  actions_are = ap (λ z. z ++ ys) k.actions_are ∙ append_assoc k.before (KeepBlock (Some bytes) ∷ k.rest) ys;
}

kept_following : (D : DeskRelations) (s m : State) (xs : List Action) (out : List Timed) (ys : List Action) → Transitions s xs out m → (bytes : List ℕ) → IsKeptAmong D m ys bytes
    → IsKeptAmong D s (xs ++ ys) bytes
kept_following D s m xs out ys f bytes k = record {
  before = xs ++ k.before;
  rest = k.rest;
  out = out ++ k.out;
  state = k.state;
  leads = steps_then s m k.state xs k.before out k.out f k.leads;
  here = k.here;
  actions_are = ap (λ z. xs ++ z) k.actions_are ∙ sym (append_assoc xs k.before (KeepBlock (Some bytes) ∷ k.rest));
}

-- ---- cycles

cycle_kept : (D : DeskRelations) (s : State) (actions : List Action) (out : List Timed) (t : State) → IsGood s → KeepsCycle s actions out t → AreGiven D actions
    → AllKept (IsKeptAmong D s actions) actions
cycle_kept D s actions out t g f given = subst (AllKept P) (sym f.actions_are) (kept_then P f.written (KeepBlock (heard_in f.sent out) ∷ []) written (go (heard_in f.sent out) refl, tt))
  where
    P : List ℕ → Type 0
    P = IsKeptAmong D s actions

    written : AllKept P f.written
    written = subst (AllKept P) (sym f.writes.actions_are) (comes_kept P s, (tt, packets_kept P (talkers f.writes.mid.account) f.writes.mid f.writes.packets f.writes.last f.sent f.writes.sends))

    go : (o : Option (List ℕ)) → heard_in f.sent out ≡ o → HoldsOf P o
    go None e = tt
    go (Some bytes) e = record {
      before = f.written;
      rest = [];
      out = out;
      state = f.sent;
      leads = writes_steps s f.written out f.sent f.writes;
      here = recorded D s actions out t bytes g f given e;
      actions_are = f.actions_are ∙ ap (λ z. f.written ++ KeepBlock z ∷ []) e;
    }

comes_or_keeps : (D : DeskRelations) (o : Option ResetEntry) (s : State) (actions : List Action) (out : List Timed) (t : State) → IsGood s → HasCycle o s actions out t → AreGiven D actions
    → AllKept (IsKeptAmong D s actions) actions
comes_or_keeps D None s actions out t g f given = subst (AllKept (IsKeptAmong D s actions)) (sym f.1) (comes_kept (IsKeptAmong D s actions) s, tt)
comes_or_keeps D (Some e) s actions out t g f given = cycle_kept D s actions out t g f given

cycles_kept : (D : DeskRelations) (n : ℕ) (s : State) (actions : List Action) (out : List Timed) (t : State) → IsGood s → HasCycles n s actions out t → AreGiven D actions
    → AllKept (IsKeptAmong D s actions) actions
unfolding HasCycles
cycles_kept D zero s actions out t g f given = subst (AllKept (IsKeptAmong D s actions)) (sym f.0) tt
cycles_kept D (suc n) s actions out t g f given =
    let first = cycle_steps s.account.latest s f.1 f.3 f.0 f.5 in
    let gives = given_append D f.1 f.2 (subst (AreGiven D) f.7 given) in
    let good = steps_good s f.0 f.1 f.3 g first in
    let P : List ℕ → Type 0 = IsKeptAmong D s (f.1 ++ f.2) in
    let now = kept_map (IsKeptAmong D s f.1) P (kept_before D s f.1 f.2) f.1 (comes_or_keeps D s.account.latest s f.1 f.3 f.0 g f.5 gives.0) in
    let later = kept_map (IsKeptAmong D f.0 f.2) P (kept_following D s f.0 f.1 f.3 f.2 first) f.2 (cycles_kept D n f.0 f.2 f.4 t good f.6 gives.1) in
    subst (λ xs. AllKept (IsKeptAmong D s xs) xs) (sym f.7) (kept_then P f.1 f.2 now later)

-- ---- orders

-- none but the writing of cycles keeps a block
keeps_none : (P : List ℕ → Type 0) (o : Order) → (IsCycles o → ⊥) → (a : Action) → IsPartOf o a → HoldsOf P (kept_by a)
keeps_none P o other (KeepBlock block) is = absurd (other is)
keeps_none P o other _ is = tt

carries_kept : (D : DeskRelations) (s : State) (o : Order) (actions : List Action) (out : List Timed) (t : State) → IsGood s → Carries s o actions out t → AreGiven D actions
    → AllKept (IsKeptAmong D s actions) actions
carries_kept D s o xs out t g (writes_cycles {n = n} f) given = cycles_kept D n s xs out t g f given
carries_kept D s o xs out t g f given = each_carried (λ a. HoldsOf (IsKeptAmong D s xs) (kept_by a)) s o xs out t (keeps_none (IsKeptAmong D s xs) o (λ is. is)) f

-- ---- runs

pub run_recorded : (D : DeskRelations) (commands : List Command) (actions : List Action) (log : List Timed) (s : State) → Run commands actions log s → AreGiven D actions
    → AreRecorded D first_state actions s.dub.reel
run_recorded D commands actions log s begun given = tt
run_recorded D commands actions log s (and_then {commands = cs} {actions = xs} {log = prefix} {s = mid} r c o more out t decided f) given =
    let before = run_steps cs xs prefix mid r in
    let gives = given_append D xs more given in
    let good = steps_good first_state mid xs prefix first_good before in
    let P : List ℕ → Type 0 = IsKeptAmong D first_state (xs ++ more) in
    let old = each_map (IsKeptAmong D first_state xs) P (kept_before D first_state xs more) mid.dub.reel (run_recorded D cs xs prefix mid r gives.0) in
    let new = kept_map (IsKeptAmong D mid more) P (kept_following D first_state mid xs prefix more before) more (carries_kept D mid o more out s good f gives.1) in
    steps_reel P mid more out s (carries_steps mid o more out s f) new old
