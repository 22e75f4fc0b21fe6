-- The row of a channel after an entry.
use Rattle.fw_watch_laws.proofs.Common.{◌≡◌, ◌≢◌, refl, ap, sym, ◌∙◌, subst, ℕ, zero, suc, ◌==◌, Bool, true, false, List, length, if◌then◌else◌, Option, Some, None, IfSome, EventEntry, Entry, Reset}
use Rattle.fw_watch_laws.proofs.Common.{Async, Iso, Event, Outcome, Shown, End, Timed, Known, At, all_known, Answer, Channel, Second, State, fresh, undue, channel_at, after_heard, judged, answer_of}
use Rattle.fw_watch_laws.proofs.Common.{known_of, reset_state, ended_second, node_of_device, buried, after_death, Heed, Ignore, Refuse, Follow, with_manager, after_shown_by, after_followed, heed}
use Rattle.fw_watch_laws.proofs.Common.{after_heeded, after_answer, after_answered, with_packet, after_packet, shown_at, after_word, after_shown, after_event, after_what, ticked, after, known_left}
use Rattle.fw_watch_laws.proofs.Common.{glimpse_by, answer_glimpse, word_glimpse, glimpse}
use Rattle.std.proofs.Common.{replicate}
use Rattle.std.proofs.lemmas.List.{length-replicate}
use Rattle.fw_log_entry.specs.declared.codes.event.TheConstants as Events
use Rattle.fw_watch_known.specs.declared.channels.Late.{Late}
use Rattle.fw_watch_known.specs.Channels.{late_to}
use Rattle.fw_watch.specs.Holding.{after_late, after_held}
use Rattle.fw_watch_laws.specs.TwoSenders.{found_moves, glimpse_moves, moves}
use Rattle.fw_watch_laws.proofs.Frames.{manager_only, manager_frame, manager_known, aside, ticked_only}
use Rattle.fw_watch_laws.proofs.Nodes.{IsSeen}
use Rattle.fw_watch_laws.proofs.Turns.{Turns, stay, turn_as, turn_both, set_same, set_other}
use Rattle.fw_watch_laws.proofs.Moves.{Step, judged_moves, shown_moves, same_changes}

heeded_moves : (h : Heed) (k cycle : ℕ) (a : Answer) (s : State) → IfSome (glimpse_by h a) IsSeen → length s.plugs ≡ 3906
    → Step k (glimpse_moves s (glimpse_by h a) k) s (after_heeded h cycle a s)
unfolding after_followed
heeded_moves Ignore k cycle a s p l = stay k s.channels
heeded_moves Refuse k cycle a s p l = stay k s.channels
heeded_moves Follow k cycle a s p l =
    let t : State = with_manager a.at s in
    let P : List Channel → Type 0 = λ c. Turns k (found_moves a.at.register (known_of s a.at) a.found (known_left a.found a.swap) k) c (after_shown_by a.found cycle a t).channels in
    subst P (ap (λ (x : State). x.channels) (manager_only a.at s).1)
    (turn_as k _ _ _ _ (ap (λ (x : Known). found_moves a.at.register x a.found (known_left a.found a.swap) k) (manager_known a.at a.at s))
    (shown_moves a.found k cycle a t p ((manager_frame a.at s).plugs ∙ l)))

answered_moves : (o : Option Answer) (k cycle : ℕ) (s : State) → IfSome (answer_glimpse s o) IsSeen → length s.plugs ≡ 3906
    → Step k (glimpse_moves s (answer_glimpse s o) k) s (after_answered o cycle s)
unfolding after_answer
answered_moves None k cycle s p l = stay k s.channels
answered_moves (Some a) k cycle s p l = heeded_moves (heed s a.at) k cycle a s p l

word_moves : (o : Option At) (k word : ℕ) (s : State) → Step k (glimpse_moves s (word_glimpse o word) k) s (after_word o word s)
word_moves None k word s = stay k s.channels
word_moves (Some at) k word s =
    turn_both k _ _ s.channels (judged s at word).channels _ (judged_moves k s at word)
    (turn_as k _ _ _ _ (same_changes at.register (all_known word) k) (stay k (judged s at word).channels))

-- ---- events

buried_moves : (o : Option ℕ) (k : ℕ) (s : State) → Step k false s (buried o s)
buried_moves None k s = stay k s.channels
buried_moves (Some node) k s = stay k s.channels

death_moves : (b : Bool) (device k : ℕ) (s : State) → Step k false s (if b then after_death device s else s)
unfolding after_death
death_moves true device k s = buried_moves (node_of_device device s.nodes) k s
death_moves false device k s = stay k s.channels

second_moves : (b : Bool) (second : Second) (k : ℕ) (t s : State) → Step k false s t → Step k false s (if b then record s { second = second } else t)
second_moves true second k t s e = stay k s.channels
second_moves false second k t s e = e

event_moves : (e : EventEntry) (k : ℕ) (s : State) → Step k false s (after_event e s)
unfolding after_event
event_moves e k s = second_moves (e.code == Events.SECOND_OVER) (ended_second s.second) k _ s (death_moves (e.code == Events.DIED) e.device k s)

-- ---- time

late_moves : (o : Option Late) (k : ℕ) (s : State) → Step k false s (after_late o s)
late_moves None k s = stay k s.channels
late_moves (Some late) k s = set_same k s.channels late.channel (undue (channel_at s.channels late.channel)) refl

held_moves : (n k cycle : ℕ) (s : State) → Step k false s (after_held n cycle s)
unfolding after_held
held_moves zero k cycle s = stay k s.channels
held_moves (suc n) k cycle s =
    let t : State = after_late (late_to 64 s.channels cycle) s in
    turn_both k false false s.channels t.channels _ (late_moves (late_to 64 s.channels cycle) k s) (held_moves n k cycle t)

pub ticked_moves : (k cycle : ℕ) (s : State) → Step k false s (ticked cycle s)
unfolding ticked
ticked_moves k cycle s = held_moves 64 k cycle s

-- ---- entries

-- it is no isochronous packet of this channel
abbrev pub IsOther : ℕ → Entry → Type 0
IsOther k (Iso p) = k ≢ p.channel
IsOther k (Reset r) = Unit {0}
IsOther k (Async p) = Unit {0}
IsOther k (Event e) = Unit {0}
IsOther k (Outcome o) = Unit {0}
IsOther k (Shown w) = Unit {0}
IsOther k End = Unit {0}

row_reset : (k n : ℕ) → undue (channel_at (replicate n fresh) k) ≡ fresh
row_reset k zero = refl
row_reset zero (suc n) = refl
row_reset (suc k) (suc n) = row_reset k n

what_moves : (cycle k : ℕ) (e : Entry) (s : State) (c : List Channel) (d : Second) → IsOther k e → IfSome (glimpse s e) IsSeen → length s.plugs ≡ 3906
    → Turns k (moves s e k) c (after_what cycle e (aside s c d)).channels
unfolding after_what reset_state after_packet after_shown after_heard shown_at heed known_of
what_moves cycle k (Reset r) s c d n g l = record { size = length-replicate (length c) fresh; row = row_reset k (length c) }
what_moves cycle k (Async p) s c d n g l = answered_moves (answer_of s.standing p) k cycle (with_packet p (aside s c d)) g l
what_moves cycle k (Iso p) s c d n g l = set_other k c p.channel _ n
what_moves cycle k (Event e) s c d n g l = event_moves e k (aside s c d)
what_moves cycle k (Outcome o) s c d n g l = stay k c
what_moves cycle k (Shown w) s c d n g l = word_moves (shown_at s w) k w.word (aside s c d)
what_moves cycle k End s c d n g l = stay k c

pub step_moves : (k : ℕ) (s : State) (t : Timed) → IsOther k t.what → IfSome (glimpse s t.what) IsSeen → length s.plugs ≡ 3906
    → Turns k (moves s t.what k) s.channels (after s t).channels
unfolding after
step_moves k s t n g l =
    let o = ticked_only t.cycle s in
    let P : State → Type 0 = λ x. Turns k (moves s t.what k) x.channels (after_what t.cycle t.what x).channels in
    turn_both k false (moves s t.what k) s.channels (ticked t.cycle s).channels _ (ticked_moves k t.cycle s)
    (subst P (sym o.2) (what_moves t.cycle k t.what s o.0 o.1 n g l))
