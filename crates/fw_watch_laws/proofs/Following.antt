-- Requests that are outstanding and requests that are outstanding, after an entry.
use Rattle.fw_watch_laws.proofs.Common.{◌≡◌, refl, ap, sym, ◌∙◌, subst, ℕ, ◌+◌, ◌==◌, not, Bool, true, false, List, [], if◌then◌else◌, Option, Some, None, is_some, arith, get_or, All-filter}
use Rattle.fw_watch_laws.proofs.Common.{same_Some, EventEntry, ResetEntry, Entry, Reset, Async, Iso, Event, Outcome, Shown, End, Timed, device_of_id, Account, Request, after_second, after_withholding}
use Rattle.fw_watch_laws.proofs.Common.{next_account, Asked, Channel, Second, State, after_heard, answer_of, is_from, without_source, reset_state, ended_second, node_of_device, buried, after_death}
use Rattle.fw_watch_laws.proofs.Common.{with_packet, after_packet, shown_at, after_shown, after_event, after_what, after}
use Rattle.fw_log_entry.specs.declared.codes.event.TheConstants as Events
use Rattle.fw_model_account.specs.Events.{after_death as death_in}
use Rattle.fw_model_account.specs.Fold.{after_event as event_in}
use Rattle.fw_watch_laws.proofs.Frames.{answered_frame, word_frame, aside, ticked_only}
use Rattle.fw_watch_laws.proofs.Matches.{IsApart, IsMatched}
use Rattle.fw_watch_laws.proofs.Matching.{AllMatched, packet_matched, IsEnded, ended_all}

pub none_matched : (l : Account) → AllMatched l []
none_matched l k d h = absurd (omega (arith, h))

-- if the nodes and what is outstanding are as they were
same_asks : (l m : Account) (xs : List Asked) → m.latest ≡ l.latest → m.outstanding ≡ l.outstanding → AllMatched l xs → AllMatched m xs
same_asks l m xs e f a k d n =
    λ c r label of out target.
    a k d n c r label (ap (λ (x : Option ResetEntry). device_of_id x (get_or xs k d).source) (sym e) ∙ of) (ap (λ (x : ℕ → Option Request). x c) (sym f) ∙ out) target

same_account : (l m : Account) (xs : List Asked) → Some l ≡ Some m → AllMatched l xs → AllMatched m xs
same_account l m xs e a = let P : Account → Type 0 = λ x. AllMatched x xs in subst P (same_Some l m e) a

-- ---- events

source_matched : (l : Account) (source : ℕ) (xs : List Asked) → AllMatched l xs → AllMatched l (without_source source xs)
unfolding without_source
source_matched l source xs a = All-filter (λ q. not (is_from source q)) (IsMatched l) xs a

buried_matched : (o : Option ℕ) (l : Account) (s : State) → AllMatched l s.standing → AllMatched l (buried o s).standing
buried_matched None l s a = a
buried_matched (Some node) l s a = source_matched l (0xFFC0 + node) s.standing a

second_matched : (b : Bool) (l m : Account) (xs : List Asked) → (if b then Some (after_second l) else None) ≡ Some m → AllMatched l xs → AllMatched m xs
second_matched true l m xs e a = same_account (after_second l) m xs e (same_asks l (after_second l) xs refl refl a)
second_matched false l m xs e a = cc

withheld_matched : (b c : Bool) (l m : Account) (xs : List Asked) → (if b then (if c then None else Some (after_withholding l)) else Some l) ≡ Some m → AllMatched l xs → AllMatched m xs
withheld_matched true true l m xs e a = cc
withheld_matched true false l m xs e a = same_account (after_withholding l) m xs e (same_asks l (after_withholding l) xs refl refl a)
withheld_matched false c l m xs e a = same_account l m xs e a

death_matched : (b : Bool) (e : EventEntry) (l m : Account) (s : State)
    → (if b then Some (death_in e.device l) else (if e.code == Events.WITHHELD then (if is_some l.latest then None else Some (after_withholding l)) else Some l)) ≡ Some m
    → AllMatched l s.standing → AllMatched m (if b then after_death e.device s else s).standing
unfolding after_death
death_matched true e l m s n a =
    let d : Account = death_in e.device l in
    let ended : IsEnded l d e.device = record { latest = refl; outstanding = refl } in
    buried_matched (node_of_device e.device s.nodes) m s (same_account d m s.standing n (ended_all l d e.device s.standing ended a))
death_matched false e l m s n a = withheld_matched (e.code == Events.WITHHELD) (is_some l.latest) l m s.standing n a

event_if : (b : Bool) (e : EventEntry) (l m : Account) (s : State)
    → (if b then (if l.reclaiming then Some (after_second l) else None)
    else (if e.code == Events.DIED then Some (death_in e.device l) else (if e.code == Events.WITHHELD then (if is_some l.latest then None else Some (after_withholding l)) else Some l))) ≡ Some m
    → AllMatched l s.standing
    → AllMatched m (if b then record s { second = ended_second s.second } else (if e.code == Events.DIED then after_death e.device s else s)).standing
event_if true e l m s n a = second_matched l.reclaiming l m s.standing n a
event_if false e l m s n a = death_matched (e.code == Events.DIED) e l m s n a

event_matched : (e : EventEntry) (l m : Account) (s : State) → event_in e l ≡ Some m → AllMatched l s.standing → AllMatched m (after_event e s).standing
unfolding after_event
event_matched e l m s n a = event_if (e.code == Events.SECOND_OVER) e l m s n a

-- ---- entries

what_matched : (cycle : ℕ) (e : Entry) (l m : Account) (s : State) (c : List Channel) (d : Second) → IsApart l.latest → next_account l e ≡ Some m → AllMatched l s.standing
    → AllMatched m (after_what cycle e (aside s c d)).standing
unfolding after_what reset_state after_packet after_shown after_heard
what_matched cycle (Reset r) l m s c d i n a = none_matched m
what_matched cycle (Async p) l m s c d i n a =
    let t : State = with_packet p (aside s c d) in
    let P : List Asked → Type 0 = λ xs. AllMatched m xs in
    subst P (sym (answered_frame (answer_of s.standing p) cycle t).standing) (packet_matched p l m s.standing i a n)
what_matched cycle (Iso p) l m s c d i n a = same_account l m s.standing n a
what_matched cycle (Event e) l m s c d i n a = event_matched e l m (aside s c d) n a
what_matched cycle (Outcome o) l m s c d i n a = same_account l m s.standing n a
what_matched cycle (Shown w) l m s c d i n a =
    let P : List Asked → Type 0 = λ xs. AllMatched m xs in
    subst P (sym (word_frame (shown_at (aside s c d) w) w.word (aside s c d)).standing) (same_account l m s.standing n a)
what_matched cycle End l m s c d i n a = same_account l m s.standing n a

-- they are matched after an entry, if the account goes on
pub step_matched : (t : Timed) (l m : Account) (s : State) → IsApart l.latest → next_account l t.what ≡ Some m → AllMatched l s.standing → AllMatched m (after s t).standing
unfolding after
step_matched t l m s i n a =
    let o = ticked_only t.cycle s in
    let P : State → Type 0 = λ x. AllMatched m (after_what t.cycle t.what x).standing in
    subst P (sym o.2) (what_matched t.cycle t.what l m s o.0 o.1 i n a)
