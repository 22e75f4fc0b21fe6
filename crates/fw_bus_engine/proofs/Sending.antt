-- A device sends its next frame, and then all that it has.
use Rattle.fw_bus_engine.proofs.Common.{◌≡◌, ◌≢◌, ◌⊎◌, inl, inr, ℕ, ◌+◌, ◌<◌, List, [], ◌∷◌, ◌++◌, length, slice_set}
use Rattle.fw_bus_engine.proofs.Common.{Bool, true, false, Option, Some, None, option_map, refl, ap, sym, subst, ◌∙◌, arith}
use Rattle.fw_bus_engine.proofs.Common.{append_assoc, Ok, Err, IsErr, Result, cases_eq, false≢true, get_or-set_other}
use Rattle.fw_bus_engine.proofs.Common.{get_or-set_same, length-set, Grows-nothing, Relay, Request, Timed, Frame, NodeState}
use Rattle.fw_bus_engine.proofs.Common.{
  after_request,
  first_state,
  Network,
  node_at,
  Action,
  Receive,
  Transitions,
  State,
  steps_then,
  steps_good,
  Machine,
  Execution,
  Performs,
  Performed,
  between,
  StandsFor,
}
use Rattle.fw_avc.specs.State.{UnitState}
use Rattle.fw_node.specs.Fcp as Fcp
use Rattle.fw_model_run.specs.Actions.{SendFrame}
use Rattle.fw_model_run.specs.Carrying.{SendsAll, quiet, sends}
use Rattle.fw_model_run.specs.Frames.{next_told}
use Rattle.fw_model_run.proofs.SendsAll.{can_send_all, sent_less}
use Rattle.fw_bus_engine.specs.Framing.{SendsNext, SendsFirst, frames_of}
use Rattle.fw_bus_engine.proofs.Doings.{Follows, GoesOn, does_cut, does_then}
use Rattle.fw_bus_engine.proofs.OneAction.{does_nothing, no_faults}
use Rattle.fw_bus_engine.proofs.FrameTurns.{next_is, quiet_stands, taken_of}

-- ---- results

-- what was done does not depend on the value that the call gives
pub does_ok : {T E U F : Type 0} {P : Execution} {m now : Machine} {a b : Option (List ℕ)} {k l : ℕ} {u : T} (v : U) → Performed {T = T} {E = E} P m now (between a b k l) (Ok u)
    → Performed {T = U} {E = F} P m now (between a b k l) (Ok v)
does_ok v d = record {
  faults = record { cause = record { later = d.faults.cause.later; failed = d.faults.cause.failed }; same = d.faults.same };
  shown = λ s g st. d.shown s g st;
}

-- ---- the next frame

no_frame : {A B : Type 0} (f : A → B) (o : Option A) → None ≡ option_map f o → o ≡ None
no_frame f None e = refl
no_frame f (Some x) e = let no : ⊥ = cc e in absurd no

-- there is none
pub sends_none : {A E : Type 0} (f : ℕ × Frame → A) (m : Machine) (taken : Network) (d : ℕ) (held : Option (List ℕ)) (k : ℕ) → d < length m.devices.nodes
    → None ≡ option_map f (Fcp.next_frame (node_at m.devices.nodes d)) → taken ≡ (taken_of m d).devices
    → Performed {T = Bool} {E = E} (SendsNext {E = E} d (Ok false)) m (record m { devices = taken }) (between held held k k) (Ok false)
sends_none f m taken d held k low none is = record {
  faults = no_faults k false;
  shown = λ s g st.
      let rests : next_told s d ≡ None = sym (next_is m s d st low) ∙ no_frame f (Fcp.next_frame (node_at m.devices.nodes d)) none in
      record {
        actions = [];
        out = [];
        state = s;
        whole = (rests, (refl, (refl, refl)));
        steps = (refl, refl);
        stands = subst (λ (n : Network). StandsFor (record m { devices = n }) s) (sym is) (quiet_stands m s d st low rests);
        grew = Grows-nothing held;
      };
}

-- it was sent and answered
pub sends_one : {T E F : Type 0} (d : ℕ) {m now : Machine} {a b : Option (List ℕ)} {k l : ℕ} {u : T}
    → Performed {T = T} {E = E} (Performs (SendFrame d ∷ Receive None ∷ [])) m now (between a b k l) (Ok u)
    → Performed {T = Bool} {E = F} (SendsNext {E = F} d (Ok true)) m now (between a b k l) (Ok true)
sends_one {F = F} d f = does_ok {F = F} true f

-- one of its entries was cut off
pub sends_cut : {U F E : Type 0} (d : ℕ) {m now last : Machine} {a b : Option (List ℕ)} {k l : ℕ} (q : Result U F) (r : Result Bool E) → IsErr q → IsErr r
    → Performed (Performs (SendFrame d ∷ Receive None ∷ [])) m now (between a b k l) q → Performed (SendsNext {E = E} d r) m last (between a b k l) r
sends_cut d (Ok u) r was is f = let no : ⊥ = grind (arith, was) in absurd no
sends_cut d (Err u) (Ok v) was is f = let no : ⊥ = grind (arith, is) in absurd no
sends_cut d (Err u) (Err v) was is f = record {
  faults = record { cause = record { later = f.faults.cause.later; failed = f.faults.cause.failed }; same = tt };
  shown = λ s g st. f.shown s g st;
}

-- ---- one less

frames_less : (n : NodeState) (told : ℕ × Frame) → Fcp.next_frame n ≡ Some told → frames_of (Fcp.after_frame n) + 1 ≡ frames_of n
frames_less n told e = go n.unit n.waiting e
  where
    go : (u : Option UnitState) (w : Option (ℕ × Frame)) → Fcp.next_frame (record n { unit = u; waiting = w }) ≡ Some told
        → frames_of (Fcp.after_frame (record n { unit = u; waiting = w })) + 1 ≡ frames_of (record n { unit = u; waiting = w })
    go None None e = let no : ⊥ = cc e in absurd no
    go None (Some x) e = refl
    go (Some u) None e = sent_less (record { unit = u; waiting = None }) told e
    go (Some u) (Some x) e = sent_less (record { unit = u; waiting = Some x }) told e

-- a request at a node leaves what it has to send
asked_frames : (o : Option Request) (n : NodeState) → frames_of (after_request o n) ≡ frames_of n
asked_frames None n = refl
asked_frames (Some r) n = refl

pub frames_fewer : (nodes : List NodeState) (d to : ℕ) (told : ℕ × Frame) (o : Option Request) → d < length nodes → to < length nodes
    → Fcp.next_frame (node_at nodes d) ≡ Some told
    → (let taken = slice_set nodes d (Fcp.after_frame (node_at nodes d)) in
    frames_of (node_at (slice_set taken to (after_request o (node_at taken to))) d) < frames_of (node_at nodes d))
frames_fewer nodes d to told o low there next =
    let less = frames_less (node_at nodes d) told next in
    let same = kept (cases_eq d to) in
    let here = ap frames_of (get_or-set_same nodes d (Fcp.after_frame (node_at nodes d)) (first_state Relay 0 0 false) low) in
    omega (arith, less, same, here)
  where
    taken : List NodeState
    taken = slice_set nodes d (Fcp.after_frame (node_at nodes d))

    size : to < length taken
    size = let e = length-set nodes d (Fcp.after_frame (node_at nodes d)) in omega (arith, e, there)

    kept : (d ≡ to) ⊎ (d ≢ to) → frames_of (node_at (slice_set taken to (after_request o (node_at taken to))) d) ≡ frames_of (node_at taken d)
    kept (inl e) =
        ap (λ k. frames_of (node_at (slice_set taken to (after_request o (node_at taken to))) k)) e
        ∙ (ap frames_of (get_or-set_same taken to (after_request o (node_at taken to)) (first_state Relay 0 0 false) size)
        ∙ (asked_frames o (node_at taken to) ∙ ap (λ k. frames_of (node_at taken k)) (sym e)))
    kept (inr ne) = ap frames_of (get_or-set_other taken to d (after_request o (node_at taken to)) (first_state Relay 0 0 false) ne)

-- ---- all of them

pub first_none : {T E : Type 0} (d : ℕ) (m : Machine) (held : Option (List ℕ)) (k : ℕ) (u : T) → Performed {T = T} {E = E} (SendsFirst d) m m (between held held k k) (Ok u)
first_none d m held k u = does_nothing m held k u (λ s g st. (st.answered, st.unsent, λ zs more t r. r))

-- after the answer no frame waits
sent_answered : (s u : State) (d : ℕ) (a : List Timed) → Transitions s (SendFrame d ∷ Receive None ∷ []) a u → (u.transaction ≡ None) × (u.frame ≡ None)
sent_answered s u d a f = (
  ap (λ (x : State). x.transaction) f.5.5.1 ∙ (ap (λ (x : State). x.transaction) f.5.3.state_is ∙ f.5.3.waits),
  ap (λ (x : State). x.frame) f.5.5.1 ∙ ap (λ (x : State). x.frame) f.5.3.state_is,
)

first_follows : {m : Machine} (d : ℕ) → Follows m (SendsFirst d) (Performs (SendFrame d ∷ Receive None ∷ [])) (SendsFirst d)
first_follows d s mid t xs ys a b g st p f q h =
    let done = sent_answered mid t d b q.1 in (
      done.0,
      done.1,
      λ zs more u r.
          let prefix : SendsAll d mid (ys ++ zs) (b ++ more) u = subst (λ z. SendsAll d mid (z ++ zs) (b ++ more) u) (sym q.0) (sends t zs b more q.1 r) in
          subst (λ z. SendsAll d s z ((a ++ b) ++ more) u) (sym (append_assoc xs ys zs))
          (subst (λ z. SendsAll d s (xs ++ (ys ++ zs)) z u) (sym (append_assoc a b more)) (p.2 (ys ++ zs) (b ++ more) u prefix)),
    )

pub first_then : {T E F : Type 0} (d : ℕ) {m mid now : Machine} {a b c : Option (List ℕ)} {k l n : ℕ} {u : T}
    → Performed {T = T} {E = E} (SendsFirst d) m mid (between a b k l) (Ok u) → (sent : Bool) → sent ≡ true
    → Performed {T = Bool} {E = F} (SendsNext {E = F} d (Ok sent)) mid now (between b c l n) (Ok sent) → Performed {T = T} {E = E} (SendsFirst d) m now (between a c k n) (Ok u)
first_then {E = E} d {u = u} f true is g = does_ok {F = E} u (does_then {Q = Performs (SendFrame d ∷ Receive None ∷ [])} (Ok true) (first_follows d) f g)
first_then d f false is g = absurd (false≢true is)

ends_follow : (E : Type 0) {m : Machine} (d : ℕ) → Follows m (SendsFirst d) (SendsNext {E = E} d (Ok false)) (SendsAll d)
ends_follow E d s mid t xs ys a b g st p f q h =
    subst (λ z. SendsAll d s (xs ++ ys) (a ++ b) z) (sym q.1.1.1)
    (subst (λ z. SendsAll d s (xs ++ ys) (a ++ z) mid) (sym q.1.1.0)
    (subst (λ z. SendsAll d s (xs ++ z) (a ++ []) mid) (sym q.1.0) (p.2 [] [] mid (quiet q.0))))

pub sends_all : {T E F U G : Type 0} (d : ℕ) {m mid now : Machine} {a b c : Option (List ℕ)} {k l n : ℕ} {u : T} (v : U)
    → Performed {T = T} {E = E} (SendsFirst d) m mid (between a b k l) (Ok u) → (sent : Bool) → sent ≡ false
    → Performed {T = Bool} {E = F} (SendsNext {E = F} d (Ok sent)) mid now (between b c l n) (Ok sent) → Performed {T = U} {E = G} (SendsAll d) m now (between a c k n) (Ok v)
sends_all {F = F} {G = G} d v f false is g = does_ok {F = G} v (does_then {Q = SendsNext {E = F} d (Ok false)} (Ok false) (ends_follow F d) f g)
sends_all d v f true is g = absurd (false≢true (sym is))

-- what is sent is done
pub all_steps : (d : ℕ) (s : State) (actions : List Action) (out : List Timed) (t : State) → SendsAll d s actions out t → Transitions s actions out t
all_steps d s actions out t (quiet e) = (refl, refl)
all_steps d s actions out t (sends m more first last f g) = steps_then s m t (SendFrame d ∷ Receive None ∷ []) more first last f (all_steps d m more last t g)

-- an entry was cut off: all that is left could have been sent
rest_goes : (m : Machine) (d : ℕ) → GoesOn m (SendsFirst d) (SendsAll d)
rest_goes m d s u xs a g st p f =
    let good = steps_good s u xs a g f in
    let r = can_send_all u d good p.0 p.1 in
    (r.actions, r.out, r.after, p.2 r.actions r.out r.after r.sends, all_steps d u r.actions r.out r.after r.sends)

pub all_cut : {T E F U G : Type 0} (d : ℕ) {m mid now last : Machine} {a b c : Option (List ℕ)} {k l n : ℕ} {u : T} (q : Result Bool F) (r : Result U G)
    → IsErr q → IsErr r
    → Performed {T = T} {E = E} (SendsFirst d) m mid (between a b k l) (Ok u) → Performed (SendsNext {E = F} d q) mid now (between b c l n) q → Performed (SendsAll d) m last (between a c k n) r
all_cut d (Ok x) r was is f g = let no : ⊥ = grind (arith, was) in absurd no
all_cut d {m} (Err x) r was is f g =
    does_cut (Err x) r (rest_goes m d) refl is (does_then {Q = Performs (SendFrame d ∷ Receive None ∷ [])} (Err x) (first_follows d) f g)
