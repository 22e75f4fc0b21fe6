-- What half steps leave: of the controllers all but one, and where nothing is written all but the count.
use Rattle.fw_bus_engine.proofs.Common.{◌≡◌, inl, inr, ℕ, ◌<◌, List, [], ◌∷◌, ◌++◌, length, Bool, true}
use Rattle.fw_bus_engine.proofs.Common.{false, cond, Option, Some, None, refl, ap, sym, subst, ◌∙◌, arith, IsTrue, IsFalse, Ok}
use Rattle.fw_bus_engine.proofs.Common.{Err, Result, false≢true, get_or-set_other, length-set, Pairs, without, Reply, entry_bytes}
use Rattle.fw_bus_engine.proofs.Common.{epoch_after, Entry, Reset, Timed, Two, Current, Nothing, Asking, Hearing}
use Rattle.fw_bus_engine.proofs.Common.{Overtaken, Directory, Next, Send, Access, ControllerState, IsHeard, Listening}
use Rattle.fw_bus_engine.proofs.Common.{GivesEntry, after_turn, turn_of, addressee_of, after_next, at_cycle, Gives, IsReady, looked_at}
use Rattle.fw_bus_engine.proofs.Common.{ControllerTable, Listens, states_of, Machine, state_same, GivesReset, nodes_after}
use Rattle.std.specs.Prelude.{OnOk, slice_set}
use Rattle.std.proofs.lemmas.List.{length-append, set-get_or}
use Rattle.fw_outside.specs.Outside.{Writes}
use Rattle.fw_cmp.specs.declared.current.WaitingJob.{WaitingJob}
use Rattle.fw_cmp.specs.declared.outcome.Next.TheVariants.{End, Idle, Waiting, Deaf, Force}
use Rattle.fw_cmp.specs.Controllers.{Fits}
use Rattle.fw_cmp.specs.Jobs.{ready}
use Rattle.fw_cmp.specs.Losses.{asked_by, first_listening, deaf_turn, deaf_until}
use Rattle.fw_cmp_jobs.specs.Requests.{access_of}
use Rattle.fw_cmp.specs.Turns.{answer_of, asks_or_ends, is_busy, next, rests, sending}
use Rattle.fw_cmp.proofs.Resting.{idle_stays}
use Rattle.fw_bus_state.specs.Halves.{IsHalfFrom}
use Rattle.fw_bus_state.specs.Giving.{Sides}
use Rattle.fw_bus_engine.specs.Leaving.{WhereNothing}
use Rattle.fw_bus_engine.specs.Serving.{Serves}
use Rattle.fw_bus_engine.proofs.HalfTurns.{IsSilent}

-- ---- of the controllers all but one

-- a table with another controller of a device
abbrev pub with_one : ControllerTable → ℕ → Listening → ControllerTable
with_one t d x = record t { list = slice_set t.list d x }

others_stay : (t : ControllerTable) (d : ℕ) (x : Listening) (k : ℕ) → (k ≡ d → ⊥) → states_of (with_one t d x) k ≡ states_of t k
others_stay t d x k ne = get_or-set_other t.list d k x first_listening ne

-- no request was outstanding
pub half_asks : (m : Machine) (k : ControllerTable) (w : Pairs) (d : ℕ) (x : Listening) → k ≡ with_one m.controllers d x → IsHalfFrom d true m (record m { controllers = k; wire = w })
half_asks m k w d x is = subst (λ (t : ControllerTable). IsHalfFrom d true m (record m { controllers = t; wire = w })) (sym is) (record {
  rest = refl;
  frame = refl;
  size = refl;
  flags = refl;
  same_size = length-set m.controllers.list d x;
  others = others_stay m.controllers d x;
  asked = λ asks. (refl, refl);
})

-- a request was outstanding, and was carried out
pub half_hears : (m now : Machine) (k : ControllerTable) (d : ℕ) (bytes : List ℕ) (r : Reply) (x : Listening) → Serves m now d bytes r → k ≡ with_one now.controllers d x
    → IsHalfFrom d false m (record now { controllers = k })
half_hears m now k d bytes r x s is =
    let P : Machine → Type 0 = λ v. k ≡ with_one v.controllers d x → IsHalfFrom d false m (record v { controllers = k }) in
    subst P (sym s.after) (λ is. subst (λ (t : ControllerTable). IsHalfFrom d false m (record m {
      devices = record m.devices { nodes = nodes_after m.devices.nodes s.device s.packet };
      wire = without s.own m.wire;
      streams = looked_at s.device (nodes_after m.devices.nodes s.device s.packet) m.streams;
      controllers = t;
    })) (sym is) (record {
      rest = refl;
      frame = refl;
      size = length-set m.devices.nodes s.device _;
      flags = refl;
      same_size = length-set m.controllers.list d x;
      others = others_stay m.controllers d x;
      asked = λ asks. absurd (false≢true asks);
    })) is

-- whether it asks or not
pub half_either : (d : ℕ) (asks : Bool) (old new : Machine) → IsHalfFrom d true old new → IsHalfFrom d asks old new
half_either d asks old new h = record { rest = h.rest; frame = h.frame; size = h.size; flags = h.flags; same_size = h.same_size; others = h.others; asked = λ t. h.asked refl }

-- one that does not ask
pub half_not : (d : ℕ) (asks : Bool) (old new : Machine) → (IsTrue asks → ⊥) → IsHalfFrom d false old new → IsHalfFrom d asks old new
half_not d asks old new not h = record { rest = h.rest; frame = h.frame; size = h.size; flags = h.flags; same_size = h.same_size; others = h.others; asked = λ t. absurd (not t) }

-- it is counted
pub half_counted : (d n : ℕ) (asks : Bool) (old new : Machine) → IsHalfFrom d asks old new → IsHalfFrom d asks old (record new { half_steps = n })
half_counted d n asks old new h = record {
  rest = ap (λ (m : Machine). record m { half_steps = n }) h.rest;
  frame = h.frame;
  size = h.size;
  flags = h.flags;
  same_size = h.same_size;
  others = h.others;
  asked = h.asked;
}

-- nothing else
pub half_only_counted : (d n : ℕ) (asks : Bool) (m : Machine) → IsHalfFrom d asks m (record m { half_steps = n })
half_only_counted d n asks m = record { rest = refl; frame = refl; size = refl; flags = refl; same_size = refl; others = λ k ne. refl; asked = λ t. (refl, refl) }

-- ---- if nothing is written

-- an entry that was written is not nothing
grew_not : (xs bytes : List ℕ) → 0 < length bytes → xs ≡ xs ++ bytes → ⊥
grew_not xs bytes some e = let size = ap length e ∙ length-append xs bytes in omega (arith, some, size)

wrote_not : {T E : Type 0} (held after : Option (List ℕ)) (r : Result T E) (epoch : ℕ) (t : Timed) → Writes held after r (entry_bytes Two epoch t) → OnOk r (WhereNothing held after ⊥)
wrote_not held after (Err u) epoch t w = tt
wrote_not held after (Ok u) epoch t w = go held after w
  where
    go : (h a : Option (List ℕ)) → Writes {T = Unit {0}} {E = Unit {0}} h a (Ok tt) (entry_bytes Two epoch t) → WhereNothing h a ⊥
    go None None w bytes e f = cc
    go None (Some ys) w bytes e f = cc
    go (Some xs) None w bytes e f = cc
    go (Some xs) (Some ys) w bytes e f =
        let same : ys ≡ xs = let u : ys ≡ bytes = cc in let v : xs ≡ bytes = cc in u ∙ sym v in
        grew_not xs (entry_bytes Two epoch t) (omega arith) (sym same ∙ w)

-- of an entry of the cycle
pub gave_not : {T E : Type 0} (m : Machine) (e : Entry) (sides : Sides) (r : Result T E) → Gives m e sides r → OnOk r (WhereNothing sides.held sides.after ⊥)
gave_not m e sides r g = wrote_not sides.held sides.after r (epoch_after m.devices.epoch e) (at_cycle m.cycle e) g.bytes

-- of the entry of a bus reset
pub reset_not : {T E : Type 0} (m now : Machine) (d : ℕ) (sides : Sides) (r : Result T E) → GivesReset m now d sides r → OnOk r (WhereNothing sides.held sides.after ⊥)
reset_not m now d sides r g =
    wrote_not sides.held sides.after r (epoch_after now.devices.epoch (Reset now.devices.latest)) (at_cycle m.cycle (Reset now.devices.latest)) g.gives

pub where_not : {T E : Type 0} (held after : Option (List ℕ)) (r : Result T E) (P : Type 0) → OnOk r (WhereNothing held after ⊥) → OnOk r (WhereNothing held after P)
where_not held after (Ok u) P never = λ bytes e f. absurd (never bytes e f)
where_not held after (Err u) P never = tt

-- where a turn wrote nothing it had nothing to write
pub said_nothing : {T E : Type 0} (held after : Option (List ℕ)) (r : Result T E) (cycle epoch : ℕ) (e : Option Entry) → GivesEntry held after r cycle epoch e
    → OnOk r (WhereNothing held after (e ≡ None))
said_nothing held after (Ok u) cycle epoch None g = λ bytes e f. refl
said_nothing held after (Err u) cycle epoch None g = tt
said_nothing held after r cycle epoch (Some e) g = where_not held after r _ (wrote_not held after r (epoch_after epoch e) (at_cycle cycle e) g)

-- what follows if a call was Ok
pub where_then : {T E : Type 0} (held after : Option (List ℕ)) (r : Result T E) (P Q : Type 0) → (P → Q) → OnOk r (WhereNothing held after P) → OnOk r (WhereNothing held after Q)
where_then held after (Ok u) P Q f h = λ bytes e g. f (h bytes e g)
where_then held after (Err u) P Q f h = tt

-- ---- a turn that says nothing

-- deaf, or to force a bus reset
is_lost_answer : Next → Bool
is_lost_answer (Deaf until) = true
is_lost_answer Force = true
is_lost_answer _ = false

hears_still : (now : ℕ) (told : Directory) (c : ControllerState) → is_lost_answer (answer_of now told c) ≡ false
unfolding is_lost_answer
hears_still now told c = go c.current
  where
    rest : (ts : List WaitingJob) → is_lost_answer (rests told ts) ≡ false
    rest [] = refl
    rest (t ∷ ts) = refl

    sent : (o : Option ℕ) (a : Access) → is_lost_answer (sending o a) ≡ false
    sent None a = refl
    sent (Some to) a = refl

    go : (x : Current) → is_lost_answer (answer_of now told (record c { current = x })) ≡ false
    go Nothing = rest c.waiting
    go (Hearing j s) = refl
    go (Overtaken i o) = refl
    go (Asking j s) = asking (access_of j s)
      where
        asking : (o : Option Access) → is_lost_answer (asks_or_ends now told j s o) ≡ false
        asking None = refl
        asking (Some a) = sent (addressee_of told a.target) a

silent_quiet : (x : Next) → IsSilent x → is_lost_answer x ≡ false → is_busy x ≡ false
unfolding is_lost_answer
silent_quiet x (inl e) hears = ap is_busy e
silent_quiet x (inr (inl w)) hears = ap is_busy w.1
silent_quiet x (inr (inr (inl w))) hears = let no : true ≡ false = sym (ap is_lost_answer w.1) ∙ hears in absurd (grind (arith, no))
silent_quiet x (inr (inr (inr e))) hears = let no : true ≡ false = sym (ap is_lost_answer e) ∙ hears in absurd (grind (arith, no))

asked_still : (now at : ℕ) (x : Next) → is_busy x ≡ false → asked_by now at x ≡ at
asked_still now at (Send to r) quiet = absurd (cc quiet)
asked_still now at (End i o) quiet = refl
asked_still now at Idle quiet = refl
asked_still now at (Waiting until) quiet = refl
asked_still now at (Deaf until) quiet = refl
asked_still now at Force quiet = refl

-- the turn of one that has lost no response
heard_turn : ℕ → Directory → Listening → Listening
heard_turn now told x = record x { state = after_next now told x.state; asked_at = asked_by now x.asked_at (next now told x.state) }

turn_heard : (now : ℕ) (told : Directory) (x : Listening) → IsFalse x.lost → after_turn now told x ≡ heard_turn now told x
unfolding heard_turn
turn_heard now told x quiet = ap (λ b. cond b x (record x { state = after_next now told x.state; asked_at = asked_by now x.asked_at (next now told x.state) })) quiet

pub says_heard : (now : ℕ) (told : Directory) (x : Listening) → IsFalse x.lost → turn_of now told x ≡ next now told x.state
says_heard now told x quiet = ap (λ b. cond b (deaf_turn now (deaf_until x)) (next now told x.state)) quiet

turn_stays : (now : ℕ) (told : Directory) (x : Listening) → IsFalse x.lost → Fits x.state → IsHeard x.state.current → IsSilent (turn_of now told x) → after_turn now told x ≡ x
unfolding heard_turn
turn_stays now told x quiet fits heard silent =
    let says : IsSilent (next now told x.state) = subst IsSilent (says_heard now told x quiet) silent in
    let rests : is_busy (next now told x.state) ≡ false = silent_quiet (next now told x.state) says (hears_still now told (ready now told x.state)) in
    let state : after_next now told x.state ≡ x.state = idle_stays now told x.state fits heard rests in
    let asked : asked_by now x.asked_at (next now told x.state) ≡ x.asked_at = asked_still now x.asked_at (next now told x.state) rests in
    turn_heard now told x quiet ∙ (λ i. record x { state = state i; asked_at = asked i })

-- the table is as it was
same_one : (t : ControllerTable) (d : ℕ) (x : Listening) → x ≡ states_of t d → with_one t d x ≡ t
same_one t d x is = ap (with_one t d) is ∙ ap (λ (xs : List Listening). record t { list = xs }) (set-get_or t.list d first_listening)

-- so a turn that says nothing leaves the controllers
pub turn_leaves : (m : Machine) (k : ControllerTable) (d : ℕ) → IsReady m → Listens (states_of m.controllers d) → IsSilent (turn_of m.cycle m.directory (states_of m.controllers d))
    → k ≡ with_one m.controllers d (after_turn m.cycle m.directory (states_of m.controllers d)) → k ≡ m.controllers
turn_leaves m k d r heard silent is =
    let x : Listening = states_of m.controllers d in
    let same : x.state ≡ r.state.controllers d = state_same m r.state d r.stands heard.0 in
    let fits : Fits x.state = subst Fits (sym same) (r.good.reclaims.step.fits d) in
    is ∙ same_one m.controllers d _ (turn_stays m.cycle m.directory x heard.0 fits heard.1 silent)

-- nor does one that has lost a response, and waits
pub deaf_leaves : (m : Machine) (k : ControllerTable) (d : ℕ) → IsTrue (states_of m.controllers d).lost
    → k ≡ with_one m.controllers d (after_turn m.cycle m.directory (states_of m.controllers d)) → k ≡ m.controllers
deaf_leaves m k d lost is =
    let x : Listening = states_of m.controllers d in
    is ∙ same_one m.controllers d _ (ap (λ b. cond b x (record x { state = after_next m.cycle m.directory x.state; asked_at = asked_by m.cycle x.asked_at (next m.cycle m.directory x.state) })) lost)
