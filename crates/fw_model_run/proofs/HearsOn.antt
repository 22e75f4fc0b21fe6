-- Each action leaves the input plugs that go on hearing as its entry says, and a half step as their words say.
use Rattle.fw_model_run.proofs.Common.{◌≡◌, ℕ, ◌+◌, ◌==◌, ◌&&◌, List, [], ◌∷◌, Bool, true, false, Option, Some}
use Rattle.fw_model_run.proofs.Common.{None, refl, sym, subst, arith, nat_tests, InputPlug, word_of, Entry, Reset, Async, Iso, Event}
use Rattle.fw_model_run.proofs.Common.{Outcome, Shown, End, Timed, Action, AddCable, AddDevice, CarryOut, EndSecond, HalfStep, Lose, Pass, ResetBus, Transition, Resets, at_most, IsGood}
use Rattle.fw_model_run.proofs.Common.{DeviceKind, Topology, after_half, half, Declared, State, is_on, with_device, with_topology}
use Rattle.fw_tree.specs.declared.facts.End.{End as EndOfCable}
use Rattle.fw_model_run.specs.BusDeeds.{declaring_beside, joining_ends, with_declared}
use Rattle.fw_model_run.specs.Hearing.{HasHearing, HearActive, HearBy, HearHalf, HearThrough, HearUnchanged, NoneHears, SameHear}
use Rattle.fw_model_run.proofs.Alterations.{Allows, Alteration, Halved, IsHalf, IsTimeless, MayBegin, Over, altered}
use Rattle.fw_model_run.proofs.Done.{Done, done}
use Rattle.fw_model_run.proofs.Effects.{Effect, altering, effect, resetting}
use Rattle.fw_model_run.proofs.Hearing.{hears_by_word, off_hears}
use Rattle.fw_model_run.proofs.Lingers.{IsOfHalf, says_half}
use Rattle.fw_model_run.proofs.Resets.{declaring, numbered, resets_by}
use Rattle.fw_model_run.proofs.Taking.{Taken, listens, keeps_deaf, forces_reset, taken_as}

-- ---- bus resets

-- what heard before goes on
reset_hears : (s : State) (n : Declared) (resets half_steps initiator : ℕ) (out : List Timed) (t : State) → IsGood s → HasHearing s
    → Resets (declaring (numbered s resets half_steps) n) initiator out t → HearActive s t
reset_hears s n resets half_steps initiator out t g h r = subst (HearActive s) (sym r.state_is) (record {
  stays = λ d k on lt. sym (hears_by_word s d k g on lt);
  joins = λ d k off. off_hears s d k g h off;
})

-- that is what is written
reset_by : (s : State) (n : Declared) (resets half_steps initiator : ℕ) (out : List Timed) (t : State) → IsGood s → HasHearing s
    → Resets (declaring (numbered s resets half_steps) n) initiator out t → HearBy out s t
reset_by s n resets half_steps initiator out t g h r = subst (λ o. HearBy o s t) (sym r.out_is) (reset_hears s n resets half_steps initiator out t g h r)

-- nothing is written
silent_by : (s u : State) (out : List Timed) (t : State) → SameHear s u → out ≡ [] → t ≡ u → HearBy out s t
silent_by s u out t same said is = subst (λ o. HearBy o s t) (sym said) (subst (SameHear s) (sym is) same)

-- a device more
declared_hears : (names : List (List ℕ)) (s : State) (name : List ℕ) (kind : DeviceKind) (ports speed : ℕ) (out : List Timed) (t : State) → IsGood s → HasHearing s
    → Done (declaring_beside names s name kind ports speed) out t → HearBy out s t
declared_hears [] s name kind ports speed out t g h x =
    reset_by s (with_device s.declared name kind ports speed) 1 s.half_steps 0 out t g h (resets_by 1 s.half_steps x.may.reset x.out_is x.state_is)
declared_hears (y ∷ names) s name kind ports speed out t g h x = silent_by s (with_declared s name kind ports speed) out t (λ q. refl) x.out_is x.state_is

-- a cable more
joined_hears : (one other : Bool) (s : State) (a b : EndOfCable) (u : Topology) (out : List Timed) (t : State) → IsGood s → HasHearing s → Done (joining_ends one other s a b u) out t
    → HearBy out s t
joined_hears true false s a b u out t g h x =
    reset_by s (record s.declared { topology = u }) (s.resets + 1) s.half_steps a.device out t g h (resets_by (s.resets + 1) s.half_steps x.may.begins.reset x.out_is x.state_is)
joined_hears false true s a b u out t g h x =
    reset_by s (record s.declared { topology = u }) (s.resets + 1) s.half_steps b.device out t g h (resets_by (s.resets + 1) s.half_steps x.may.begins.reset x.out_is x.state_is)
joined_hears true true s a b u out t g h x = silent_by s (with_topology s u) out t (λ q. refl) x.out_is x.state_is
joined_hears false false s a b u out t g h x = silent_by s (with_topology s u) out t (λ q. refl) x.out_is x.state_is

-- ---- a half step

both_ways : (a b : Bool) → (a && b) ≡ (b && a)
both_ways true true = refl
both_ways true false = refl
both_ways false true = refl
both_ways false false = refl

-- a plug goes on if its word stays
half_hears : (s : State) (d : ℕ) → HearUnchanged s (after_half s d)
half_hears s d q = both_ways (s.dub.lingers q) (word_of (after_half s d).account (InputPlug q) == word_of s.account (InputPlug q))

-- if no word changes
still_hear : (s : State) → HearUnchanged s s
still_hear s q = grind (arith, nat_tests)

-- by the entry that a half step writes, which is no bus reset
unforced : (s t : State) (cycle : ℕ) (o : Option Entry) → IsOfHalf o → HearUnchanged s t → HearHalf (at_most cycle o) s t
unforced s t cycle None h f = f
unforced s t cycle (Some (Async p)) h f = f
unforced s t cycle (Some (Outcome x)) h f = f
unforced s t cycle (Some (Reset r)) h f = absurd h
unforced s t cycle (Some (Iso p)) h f = absurd h
unforced s t cycle (Some (Event x)) h f = absurd h
unforced s t cycle (Some (Shown x)) h f = absurd h
unforced s t cycle (Some End) h f = absurd h

taken_hears : (s : State) (d : ℕ) (out : List Timed) (t : State) → IsGood s → HasHearing s → Taken s d out t → HearHalf out s t
taken_hears s d out t g h (listens quiet said is) = subst (λ o. HearHalf o s t) (sym said)
    (unforced s t s.clock.cycle (half s d).says (says_half s d) (subst (HearUnchanged s) (sym is) (half_hears s d)))
taken_hears s d out t g h (keeps_deaf deaf said is) = subst (λ o. HearHalf o s t) (sym said) (subst (HearUnchanged s) (sym is) (still_hear s))
taken_hears s d out t g h (forces_reset deaf r) = subst (λ o. HearHalf o s t) (sym r.out_is) (reset_hears s s.declared s.resets (s.half_steps + 1) d out t g h r)

-- ---- each action

-- one that is no bus reset, no half step and no end of a second
leaves : (s : State) (a : Action) (out : List Timed) (t : State) → (MayBegin a → ⊥) → (IsHalf a → ⊥) → IsTimeless a → Effect s a out t → SameHear s t
leaves s a out t unbegun whole timeless (resetting resets half_steps n initiator free begins may r) = absurd (unbegun begins)
leaves s a out t unbegun whole timeless (altering y waits out_is is ok) = subst (SameHear s) (sym is) (go y ok)
  where
    go : (y : Alteration) → Allows s a y → SameHear s (altered s y)
    go (Halved d lost resets half_steps) ok = absurd (whole ok.1)
    go Over ok = absurd (subst IsTimeless ok.0 timeless)
    go _ ok = λ q. refl

pub step_hears : (s : State) (a : Action) (out : List Timed) (t : State) → IsGood s → HasHearing s → Transition s a out t → HearThrough a out s t
step_hears s (AddDevice name kind ports speed) out t g h x = declared_hears s.declared.names s name kind ports speed out t g h (done s (AddDevice name kind ports speed) out t x)
step_hears s (AddCable a b) out t g h x = joined_hears (is_on s a.device) (is_on s b.device) s a b x.found.topology out t g h
    (record { found = x.found.begun; may = x.may; out_is = x.out_is; state_is = x.state_is })
step_hears s (ResetBus d) out t g h x = reset_by s s.declared (s.resets + 1) s.half_steps d out t g h (resets_by (s.resets + 1) s.half_steps x.may.begins.reset x.out_is x.state_is)
step_hears s (HalfStep d) out t g h x = taken_hears s d out t g h (taken_as s d out t x)
step_hears s (CarryOut d) out t g h x = subst (HearUnchanged s) (sym x.state_is) (half_hears s d)
step_hears s (Lose d) out t g h x = subst (HearUnchanged s) (sym x.state_is) (half_hears s d)
step_hears s (Pass n) out t g h x = subst (SameHear s) (sym x.state_is) (λ q. refl)
step_hears s EndSecond out t g h x = let P : State → Type 0 = NoneHears in subst P (sym x.state_is) (λ q. refl)
step_hears s a out t g h x = leaves s a out t (λ no. no) (λ no. no) tt (effect s a out t x)
