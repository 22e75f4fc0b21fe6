-- A cycle that is written: what it leaves, and what a deck records of it.
use Rattle.fw_bus_engine.proofs.Common.{◌≡◌, ℕ, cond, List, [], ◌∷◌, ◌++◌, Bool, true, false, Option, Some, None, is_some, refl, ap, sym, subst, ◌∙◌, arith, append-nil, IsTrue, Ok, Result, same_Some}
use Rattle.fw_bus_engine.proofs.Common.{at_plug, ResetEntry, Timed, Action, Transitions, DeskRelations, IsGood, State, steps_good, Machine, HadSent, PerformedWhere, unheard, between, Recording}
use Rattle.fw_bus_engine.proofs.Common.{Performs, Performed, TakesAction, PerformedWithDesk, StandsFor, Grows-nothing}
use Rattle.fw_model_run.specs.Actions.{StartCycle, KeepBlock}
use Rattle.fw_model_run.specs.Recording.{block_among, block_heard, heard_by, heard_in, records, reel_keeping, reel_with, room_of, tape_in, with_block}
use Rattle.fw_dub.specs.Reels.{kept}
use Rattle.fw_model_run.specs.Carrying.{next_cycle, HasCycle, KeepsCycle}
use Rattle.fw_model_run.specs.Given.{AreGiven}
use Rattle.fw_model_run.specs.Streams.{talkers}
use Rattle.fw_model_run.proofs.Counting.{packets_are}
use Rattle.fw_model_run.proofs.Recorded.{begins_quiet}
use Rattle.fw_bus_engine.specs.Cycling.{Comes, Begins, HearsTo, HearsBlock, WritesHeard, WritesCycle, heard_among, block_in}
use Rattle.fw_bus_state.specs.Recording.{reel_after, recording_of, recording_by, recording_in}
use Rattle.fw_bus_engine.proofs.Desks.{by_where, does_given, where_by, where_when}
use Rattle.fw_bus_engine.proofs.DeskCalls.{where_then}
use Rattle.fw_bus_engine.proofs.Doings.{Follows}
use Rattle.fw_bus_engine.proofs.OneAction.{does_one, no_faults, one_step}
use Rattle.fw_bus_engine.proofs.BegunCycles.{came, given_next, begun, begins_given, root_of, begin_leads}

-- ---- what is heard of it

-- of a deck that records, the block on its channel
recorded_by : (s : State) (d : ℕ) (out : List Timed) → block_in (heard_among out (recording_of s d)) ≡ block_heard s d out
recorded_by s d out = go (records s d)
  where
    go : (b : Bool) → block_in (heard_among out (cond b (Some (record { channel = s.account.input_channel (at_plug d 0); limit = room_of (tape_in s d); block = None })) None))
        ≡ cond b (block_among (s.account.input_channel (at_plug d 0)) out) None
    go true = refl
    go false = refl

recorded_among : (s : State) (o : Option ℕ) (out : List Timed) → block_in (heard_among out (recording_by s o)) ≡ heard_by s o out
recorded_among s None out = refl
recorded_among s (Some d) out = recorded_by s d out

-- what the machine heard is what the run has heard
pub hears_here : {T E : Type 0} {A : State → Type 0} {D : DeskRelations} {m now : Machine} (old new : Option Recording) {a b : Option (List ℕ)} {k l : ℕ} {r : Result T E}
    → ((s : State) → IsGood s → StandsFor m s → old ≡ recording_in s) → PerformedWhere A D (HearsTo 64 old new) m now (between a b k l) r
    → PerformedWhere A D (HearsBlock (block_in new)) m now (between a b k l) r
hears_here old new is d = where_when (λ s t xs out g st p f.
    (p.0, ap block_in p.1 ∙ (ap (λ o. block_in (heard_among out o)) (is s g st) ∙ recorded_among s s.dub.tied out))) d

-- what comes before the packets is not heard
heard_last : (s mid : State) (a b : List Timed) → Transitions s (next_cycle s ∷ StartCycle ∷ []) a mid → heard_in mid (a ++ b) ≡ heard_in mid b
heard_last s mid a b f = go mid.dub.tied
  where
    go : (o : Option ℕ) → heard_by mid o (a ++ b) ≡ heard_by mid o b
    go None = refl
    go (Some d) = ap (λ z. cond (records mid d) z None) (begins_quiet s a mid (mid.account.input_channel (at_plug d 0)) b f)

-- a cycle that was begun, and all packets of it
cycle_heard : (s mid t : State) (block : Option (List ℕ)) (xs ys : List Action) (a b : List Timed) → Begins s xs a mid → HearsBlock block mid ys b t → WritesHeard block s (xs ++ ys) (a ++ b) t
cycle_heard s mid t block xs ys a b p q =
    let x = begun s mid xs a p in
    let stays : t ≡ mid = (packets_are (talkers mid.account) mid ys b t q.0).1 in (
      ap is_some x.latest,
      record {
        mid = mid;
        packets = ys;
        first = a;
        last = b;
        comes = p.1;
        sends = q.0;
        actions_are = ap (λ z. z ++ ys) p.0;
        out_is = refl;
      },
      q.1 ∙ (sym (heard_last s mid a b p.1) ∙ sym (ap (λ z. heard_in z (a ++ b)) stays)),
    )

-- ---- and goes onto the reel

keep_step : (u : State) (block : Option (List ℕ)) → u.transaction ≡ None → Transitions u (KeepBlock block ∷ []) [] (with_block u block)
keep_step u block quiet = one_step u (with_block u block) (KeepBlock block) [] (record { found = tt; waits = quiet; may = tt; out_is = refl; state_is = refl })

kept_is : (s u : State) (block : Option (List ℕ)) (xs : List Action) (a : List Timed) → WritesHeard block s xs a u → u.transaction ≡ None
    → WritesCycle s (xs ++ KeepBlock block ∷ []) a (with_block u block)
kept_is s u block xs a p quiet = go s.account.latest p.0
  where
    kept : KeepsCycle s (xs ++ KeepBlock block ∷ []) a (with_block u block)
    kept = record {
      sent = u;
      written = xs;
      writes = p.1;
      keeps = subst (λ z. Transitions u (KeepBlock z ∷ []) [] (with_block u block)) p.2 (keep_step u block quiet);
      actions_are = ap (λ z. xs ++ KeepBlock z ∷ []) p.2;
    }

    go : (o : Option ResetEntry) → IsTrue (is_some o) → HasCycle o s (xs ++ KeepBlock block ∷ []) a (with_block u block)
    go None there = absurd (grind (arith, there))
    go (Some e) there = kept

keep_follows : {m : Machine} (block : Option (List ℕ)) → Follows m (WritesHeard block) (Performs (KeepBlock block ∷ [])) WritesCycle
keep_follows block s mid t xs ys a b g st p f q h =
    let k = q.1 in
    let x = k.3 in
    let none : b ≡ [] = k.4 ∙ (ap (λ z. z ++ k.1) x.out_is ∙ k.5.0) in
    let is : t ≡ with_block mid block = k.5.1 ∙ x.state_is in
    let out : a ++ b ≡ a = ap (λ z. a ++ z) none ∙ append-nil a in
    subst (WritesCycle s (xs ++ ys) (a ++ b)) (sym is) (subst (λ z. WritesCycle s z (a ++ b) (with_block mid block)) (ap (λ z. xs ++ z) (sym q.0))
    (subst (λ z. WritesCycle s (xs ++ KeepBlock block ∷ []) z (with_block mid block)) (sym out) (kept_is s mid block xs a p x.waits)))

-- the reel then
reel_with_block : (s : State) (d : ℕ) (r : Recording) (reel : List (List ℕ)) → r.limit ≡ room_of (tape_in s d) → reel ≡ s.dub.reel → reel_after (Some r) reel ≡ reel_with s d r.block
reel_with_block s d r reel limit is = go r.block
  where
    go : (b : Option (List ℕ)) → elim b [ None ↦ reel | Some bytes ↦ kept r.limit bytes reel ] ≡ reel_with s d b
    go None = is
    go (Some bytes) = λ i. kept (limit i) bytes (is i)

reel_then : (s : State) (o : Option ℕ) (new : Option Recording) (reel : List (List ℕ)) → reel ≡ s.dub.reel → unheard new ≡ recording_by s o
    → reel_after new reel ≡ reel_keeping s o (block_in new)
reel_then s None None reel is same = is
reel_then s (Some d) None reel is same = is
reel_then s None (Some r) reel is same = absurd (let wrong : ⊥ = cc in wrong)
reel_then s (Some d) (Some r) reel is same = go (records s d) same
  where
    go : (b : Bool) → unheard (Some r) ≡ cond b (Some (record { channel = s.account.input_channel (at_plug d 0); limit = room_of (tape_in s d); block = None })) None
        → reel_after (Some r) reel ≡ reel_with s d r.block
    go false e = absurd (let wrong : ⊥ = cc in wrong)
    go true e = reel_with_block s d r reel (ap (λ (x : Recording). x.limit) (same_Some (record r { block = None }) _ e)) is

-- the machine whose reel has the block stands for the state whose reel has it
reel_stands : (m : Machine) (s : State) (reel : List (List ℕ)) (block : Option (List ℕ)) → IsGood s → StandsFor m s → reel ≡ reel_keeping s s.dub.tied block
    → StandsFor (record m { reel = reel }) (with_block s block)
reel_stands m s reel block g st is = record {
  devices = st.devices;
  clock = st.clock;
  table = st.table;
  directory = st.directory;
  wire = st.wire;
  streams = st.streams;
  answered = st.answered;
  unsent = st.unsent;
  election = st.election;
  bids = st.bids;
  reel = record { tied_is = st.reel.tied_is; reel_is = is };
  around = st.around;
}

keep_turns : (m : Machine) (new : Option Recording) → ((s : State) → IsGood s → StandsFor m s → unheard new ≡ recording_in s)
    → TakesAction (KeepBlock (block_in new)) m (record m { reel = reel_after new m.reel }) m.cycle None
keep_turns m new same = record {
  shown = λ s g st. (
    with_block s (block_in new),
    record { found = tt; waits = st.answered; may = tt; out_is = refl; state_is = refl },
    reel_stands m s (reel_after new m.reel) (block_in new) g st (reel_then s s.dub.tied new m.reel st.reel.reel_is (same s g st)),
  );
}

-- what was recorded before anything was written
recorded_still : (s : State) (old new : Option Recording) → unheard new ≡ unheard old → old ≡ recording_in s → unheard new ≡ recording_in s
recorded_still s old new same is = same ∙ (ap unheard is ∙ blank s.dub.tied)
  where
    blank : (o : Option ℕ) → unheard (recording_by s o) ≡ recording_by s o
    blank None = refl
    blank (Some d) = go (records s d)
      where
        go : (b : Bool) → unheard (cond b (Some (record { channel = s.account.input_channel (at_plug d 0); limit = room_of (tape_in s d); block = None })) None)
            ≡ cond b (Some (record { channel = s.account.input_channel (at_plug d 0); limit = room_of (tape_in s d); block = None })) None
        go true = refl
        go false = refl

-- a cycle that was begun, whose packets were written, or cut off
sent_heard : {T E U F : Type 0} {D : DeskRelations} (counts : List ℕ) (old new : Option Recording)
    {m mid : Machine} {a b c : Option (List ℕ)} {k l n : ℕ} {u : T} (r : Result U F) → m.streams ≡ counts
    → ((s : State) → IsGood s → StandsFor mid s → old ≡ recording_in s)
    → Performed {T = T} {E = E} Begins m mid (between a b k l) (Ok u) → PerformedWhere (HadSent counts) D (HearsTo 64 old new) mid mid (between b c l n) r
    → PerformedWhere (λ s. Unit {0}) D (WritesHeard (block_in new)) m mid (between a c k n) r
sent_heard counts old new {m} r is recorded f g =
    where_then r (λ s mid t xs ys a b good st p steps q more. cycle_heard s mid t (block_in new) xs ys a b p q) (begin_leads m counts is) (where_by (begins_given f)) (hears_here old new recorded g)

-- it is written, and what was heard goes onto the reel
pub cycle_then : {T E U F : Type 0} {D : DeskRelations} (counts : List ℕ) (old new : Option Recording)
    {m mid : Machine} {a b c : Option (List ℕ)} {k l n : ℕ} {u : T} {w : U} → m.streams ≡ counts
    → ((s : State) → IsGood s → StandsFor mid s → old ≡ recording_in s) → unheard new ≡ unheard old
    → Performed {T = T} {E = E} Begins m mid (between a b k l) (Ok u) → PerformedWhere {T = U} {E = F} (HadSent counts) D (HearsTo 64 old new) mid mid (between b c l n) (Ok w)
    → PerformedWithDesk {T = U} {E = F} D WritesCycle m (record mid { reel = reel_after new mid.reel }) (between a c k n) (Ok w)
cycle_then {F = F} {D = D} counts old new {m} {mid} {c = c} {n = n} {w = w} is recorded same f g =
    let keep : Performed {E = F} (Performs (KeepBlock (block_in new) ∷ [])) mid (record mid { reel = reel_after new mid.reel }) (between c c n n) (Ok w) =
    does_one mid.cycle None (Ok w) (keep_turns mid new (λ s good st. recorded_still s old new same (recorded s good st))) (Grows-nothing c) (no_faults n w) in
    by_where {A = λ s. Unit {0}} (λ s good st. tt)
    (where_then (Ok w) (keep_follows {m = m} (block_in new)) (λ s t xs out good st known p steps. tt {0}) (sent_heard counts old new (Ok w) is recorded f g)
    (where_by (does_given (λ s t xs out p. subst (AreGiven D) (sym p.0) (tt, tt)) keep)))

-- no deck records
pub cycle_unheard : {T E U F : Type 0} {D : DeskRelations} (counts : List ℕ) (new : Option Recording)
    {m mid : Machine} {a b c : Option (List ℕ)} {k l n : ℕ} {u : T} {w : U} → m.streams ≡ counts
    → ((s : State) → IsGood s → StandsFor mid s → None ≡ recording_in s) → unheard new ≡ None
    → Performed {T = T} {E = E} Begins m mid (between a b k l) (Ok u) → PerformedWhere {T = U} {E = F} (HadSent counts) D (HearsTo 64 None new) mid mid (between b c l n) (Ok w)
    → PerformedWithDesk {T = U} {E = F} D WritesCycle m mid (between a c k n) (Ok w)
cycle_unheard counts (Some x) is recorded none f g = absurd (let wrong : ⊥ = cc in wrong)
cycle_unheard counts None is recorded none f g = cycle_then counts None None is recorded refl f g

-- before the first device it only comes
alone_is : (s t : State) (xs : List Action) (out : List Timed) → s.account.latest ≡ None → Comes s xs out t → WritesCycle s xs out t
alone_is s t xs out none p = subst (λ o. HasCycle o s xs out t) (sym none) (p.1, p.0)

pub cycle_alone : {T E F : Type 0} {D : DeskRelations} {m now : Machine} {a b : Option (List ℕ)} {k l : ℕ} {u : T}
    → ((s : State) → IsGood s → StandsFor now s → root_of s.account.latest ≡ None) → Performed {T = T} {E = E} Comes m now (between a b k l) (Ok u)
    → PerformedWithDesk {T = T} {E = F} D WritesCycle m now (between a b k l) (Ok u)
cycle_alone {D = D} {m} none d = record {
  faults = record { cause = record { later = d.faults.cause.later; failed = tt }; same = d.faults.same };
  shown = λ s g st.
      let x = d.shown s g st in
      let good = steps_good s x.state x.actions x.out g x.steps in
      let latest = sym (came s x.state x.actions x.out x.whole).latest ∙ nothing x.state.account.latest (none x.state good x.stands) in
      record {
        actions = x.actions;
        out = x.out;
        state = x.state;
        whole = (alone_is s x.state x.actions x.out latest x.whole, subst (AreGiven D) (sym x.whole.0) (given_next D s [] tt));
        steps = x.steps;
        stands = x.stands;
        grew = x.grew;
      };
}
  where
    nothing : (o : Option ResetEntry) → root_of o ≡ None → o ≡ None
    nothing None e = refl
    nothing (Some r) e = let no : ⊥ = cc e in absurd no
