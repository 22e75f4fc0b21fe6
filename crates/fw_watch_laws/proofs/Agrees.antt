-- What `watch` knows of requests and of the resource manager agrees with the account of a log without an audit fault.
use Rattle.fw_watch_laws.proofs.Common.{◌≡◌, refl, ap, sym, ◌∙◌, subst, ℕ, ◌+◌, ◌==◌, not, Bool, true, false, List, [], if◌then◌else◌, Option, Some, None, arith, ⊤, All, All-filter, same_Some}
use Rattle.fw_watch_laws.proofs.Common.{EventEntry, ResetEntry, Entry, Reset, Async, Iso, Event, Outcome, Shown, End, Timed, Fits, Account, no_account, next_account, Asked, Second, State, after_heard}
use Rattle.fw_watch_laws.proofs.Common.{answer_of, is_from, without_source, reset_state, ended_second, node_of_device, buried, after_death, no_state, with_packet, after_packet, shown_at, after_shown}
use Rattle.fw_watch_laws.proofs.Common.{after_event, after_what, packet_of, after}
use Rattle.fw_log_entry.specs.declared.codes.event.TheConstants as Events
use Rattle.fw_watch_known.specs.States.{manager_of}
use Rattle.fw_watch_laws.specs.Orderly.{IsLabelledIn}
use Rattle.fw_watch_laws.proofs.Frames.{answered_frame, word_frame, heard_frame, aside, ticked_only}
use Rattle.fw_watch_laws.proofs.Matches.{IsApart}
use Rattle.fw_watch_laws.proofs.Matching.{AllMatched}
use Rattle.fw_watch_laws.proofs.Latest.{latest_after, next_latest}
use Rattle.fw_watch_laws.proofs.Following.{none_matched, step_matched}
use Rattle.fw_watch_laws.proofs.Apart.{ids_apart, none_apart}
use Rattle.fw_watch_laws.proofs.Labels.{IsOwn, own_following}

-- ---- the locks that stand have the label of procedures

none_own : All IsOwn []
none_own k d h = absurd (omega (arith, h))

own_buried : (o : Option ℕ) (s : State) → All IsOwn s.standing → All IsOwn (buried o s).standing
unfolding without_source
own_buried None s a = a
own_buried (Some node) s a = All-filter (λ q. not (is_from (0xFFC0 + node) q)) IsOwn s.standing a

own_death : (b : Bool) (device : ℕ) (s : State) → All IsOwn s.standing → All IsOwn (if b then after_death device s else s).standing
unfolding after_death
own_death true device s a = own_buried (node_of_device device s.nodes) s a
own_death false device s a = a

own_second : (b : Bool) (second : Second) (t s : State) → All IsOwn s.standing → All IsOwn t.standing → All IsOwn (if b then record s { second = second } else t).standing
own_second true second t s a c = a
own_second false second t s a c = c

own_event : (e : EventEntry) (s : State) → All IsOwn s.standing → All IsOwn (after_event e s).standing
unfolding after_event
own_event e s a = own_second (e.code == Events.SECOND_OVER) (ended_second s.second) _ s a (own_death (e.code == Events.DIED) e.device s a)

own_what : (cycle : ℕ) (e : Entry) (s : State) → IsLabelledIn e → All IsOwn s.standing → All IsOwn (after_what cycle e s).standing
unfolding after_what reset_state after_packet after_shown after_heard
own_what cycle (Reset r) s h a = none_own
own_what cycle (Async p) s h a =
    let P : List Asked → Type 0 = λ xs. All IsOwn xs in
    subst P (sym (answered_frame (answer_of s.standing p) cycle (with_packet p s)).standing) (own_following p s.standing h a)
own_what cycle (Iso p) s h a = a
own_what cycle (Event e) s h a = own_event e s a
own_what cycle (Outcome o) s h a = a
own_what cycle (Shown w) s h a =
    let P : List Asked → Type 0 = λ xs. All IsOwn xs in
    subst P (sym (word_frame (shown_at s w) w.word s).standing) a
own_what cycle End s h a = a

-- ---- the manager of a bus reset

-- the node or none that the bus reset has found
abbrev pub IsManager : Option ResetEntry → State → Type 0
IsManager None s = ⊤
IsManager (Some r) s = s.manager ≡ manager_of r.manager

manager_kept : (o p : Option ResetEntry) (s t : State) → p ≡ o → ((x : Option ℕ) → s.manager ≡ manager_of x → t.manager ≡ manager_of x) → IsManager o s → IsManager p t
manager_kept o None s t e f m = tt
manager_kept None (Some r) s t e f m = cc
manager_kept (Some q) (Some r) s t e f m =
    let same : r ≡ q = same_Some r q e in
    f r.manager (m ∙ ap (λ (y : ResetEntry). manager_of y.manager) (sym same))

manager_buried : (o : Option ℕ) (s : State) (x : Option ℕ) → s.manager ≡ manager_of x → (buried o s).manager ≡ manager_of x
manager_buried None s x e = e
manager_buried (Some node) s x e = e

manager_death : (b : Bool) (device : ℕ) (s : State) (x : Option ℕ) → s.manager ≡ manager_of x → (if b then after_death device s else s).manager ≡ manager_of x
unfolding after_death
manager_death true device s x e = manager_buried (node_of_device device s.nodes) s x e
manager_death false device s x e = e

manager_second : (b : Bool) (second : Second) (t s : State) (x : Option ℕ) → s.manager ≡ manager_of x → t.manager ≡ manager_of x
    → (if b then record s { second = second } else t).manager ≡ manager_of x
manager_second true second t s x e f = e
manager_second false second t s x e f = f

manager_event : (e : EventEntry) (s : State) (x : Option ℕ) → s.manager ≡ manager_of x → (after_event e s).manager ≡ manager_of x
unfolding after_event
manager_event e s x m = manager_second (e.code == Events.SECOND_OVER) (ended_second s.second) _ s x m (manager_death (e.code == Events.DIED) e.device s x m)

manager_what : (cycle : ℕ) (e : Entry) (s : State) (o p : Option ResetEntry) → p ≡ latest_after e o → IsManager o s → IsManager p (after_what cycle e s)
unfolding after_what reset_state after_packet after_shown
manager_what cycle (Reset r) s o None f m = tt
manager_what cycle (Reset r) s o (Some q) f m = let same : q ≡ r = same_Some q r f in ap (λ (y : ResetEntry). manager_of y.manager) (sym same)
manager_what cycle (Async a) s o p f m = manager_kept o p s _ f (λ x e. (answered_frame (answer_of s.standing a) cycle (with_packet a s)).manager x e) m
manager_what cycle (Iso a) s o p f m = manager_kept o p s _ f (λ x e. (heard_frame s (packet_of cycle a)).manager x e) m
manager_what cycle (Event e) s o p f m = manager_kept o p s _ f (manager_event e s) m
manager_what cycle (Outcome x) s o p f m = manager_kept o p s _ f (λ x e. e) m
manager_what cycle (Shown w) s o p f m = manager_kept o p s _ f (λ x e. (word_frame (shown_at s w) w.word s).manager x e) m
manager_what cycle End s o p f m = manager_kept o p s _ f (λ x e. e) m

-- ---- all that agrees

-- the outstanding requests are those of the account, locks have the label of procedures, and the manager is that of the bus reset
pub record Agrees (s : State) (l : Account) : Type 0 where
  pub matched : AllMatched l s.standing
  pub own : All IsOwn s.standing
  pub apart : IsApart l.latest
  pub manager : IsManager l.latest s

apart_latest : (e : Entry) (o p : Option ResetEntry) → Fits e → p ≡ latest_after e o → IsApart o → IsApart p
apart_latest (Reset r) o p h e a = let P : Option ResetEntry → Type 0 = λ x. IsApart x in subst P (sym e) (ids_apart r h)
apart_latest (Async x) o p h e a = let P : Option ResetEntry → Type 0 = λ x. IsApart x in subst P (sym e) a
apart_latest (Iso x) o p h e a = let P : Option ResetEntry → Type 0 = λ x. IsApart x in subst P (sym e) a
apart_latest (Event x) o p h e a = let P : Option ResetEntry → Type 0 = λ x. IsApart x in subst P (sym e) a
apart_latest (Outcome x) o p h e a = let P : Option ResetEntry → Type 0 = λ x. IsApart x in subst P (sym e) a
apart_latest (Shown x) o p h e a = let P : Option ResetEntry → Type 0 = λ x. IsApart x in subst P (sym e) a
apart_latest End o p h e a = let P : Option ResetEntry → Type 0 = λ x. IsApart x in subst P (sym e) a

pub agrees_none : Agrees no_state no_account
agrees_none = record { matched = none_matched no_account; own = none_own; apart = none_apart; manager = tt }

own_step : (t : Timed) (s : State) → IsLabelledIn t.what → All IsOwn s.standing → All IsOwn (after s t).standing
unfolding after
own_step t s h a =
    let o = ticked_only t.cycle s in
    let P : State → Type 0 = λ x. All IsOwn (after_what t.cycle t.what x).standing in
    subst P (sym o.2) (own_what t.cycle t.what (aside s o.0 o.1) h a)

manager_step : (t : Timed) (s : State) (o p : Option ResetEntry) → p ≡ latest_after t.what o → IsManager o s → IsManager p (after s t)
unfolding after
manager_step t s o p e m =
    let x = ticked_only t.cycle s in
    let P : State → Type 0 = λ y. IsManager p (after_what t.cycle t.what y) in
    subst P (sym x.2) (manager_what t.cycle t.what (aside s x.0 x.1) o p e (manager_kept o o s (aside s x.0 x.1) refl (λ y f. f) m))

pub agrees_step : (t : Timed) (l m : Account) (s : State) → Fits t.what → IsLabelledIn t.what → next_account l t.what ≡ Some m → Agrees s l → Agrees (after s t) m
agrees_step t l m s h b n a = record {
  matched = step_matched t l m s a.apart n a.matched;
  own = own_step t s b a.own;
  apart = apart_latest t.what l.latest m.latest h (next_latest t.what l m n) a.apart;
  manager = manager_step t s l.latest m.latest (next_latest t.what l m n) a.manager;
}
