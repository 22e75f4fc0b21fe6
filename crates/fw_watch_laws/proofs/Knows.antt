-- What is known of a register after an entry.
use Rattle.fw_watch_laws.proofs.Common.{◌≡◌, refl, ap, ◌∙◌, ℕ, ◌+◌, ◌*◌, ◌==◌, ◌&&◌, not, Bool, true, false, List, length, if◌then◌else◌, Option, Some, None, IfSome, unwrap_or, arith, All, Swap}
use Rattle.fw_watch_laws.proofs.Common.{
  ResetEntry,
  EventEntry,
  register_at,
  is_managed,
  Entry,
  Reset,
  Async,
  Iso,
  Event,
  Outcome,
  Shown,
  End,
  Timed,
  Known,
  At,
  WatchedRegister,
  Bandwidth,
  ChannelsHigh,
}
use Rattle.fw_watch_laws.proofs.Common.{ChannelsLow, Output, Input, nothing_known, all_known, Answer, Channel, Second, State, after_heard, judged, judged_counts, answer_of, known_of, with_known}
use Rattle.fw_watch_laws.proofs.Common.{reset_state, ended_second, is_manager, node_of_device, buried, after_death, swapped, Heed, Ignore, Refuse, Follow, made, after_made, after_found, with_manager}
use Rattle.fw_watch_laws.proofs.Common.{after_shown_by, after_followed, heed, after_heeded, after_answer, after_answered, with_packet, after_packet, shown_at, after_word, after_shown, after_event}
use Rattle.fw_watch_laws.proofs.Common.{after_what, after, IsNumber, IsPlace, word_left, known_left, glimpse_by, answer_glimpse, word_glimpse, fixed, left}
use Rattle.std.proofs.lemmas.List.{get_or-replicate}
use Rattle.fw_log_entry.specs.declared.codes.event.TheConstants as Events
use Rattle.fw_log_entry.specs.declared.entry.ShownEntry.{ShownEntry}
use Rattle.fw_csr.specs.declared.offset.TheConstants.{REGISTER_SPACE}
use Rattle.fw_watch_remarks.specs.Knowing.{after_reset}
use Rattle.fw_watch.specs.Steps.{shown_at_node}
use Rattle.fw_watch_laws.specs.LastKnown.{is_same, left_by}
use Rattle.fw_watch_laws.proofs.Places.{known_put, put_twice, unwrap_if}
use Rattle.fw_watch_laws.proofs.Frames.{manager_frame, judged_frame, by_known, manager_known, aside, ticked_only}
use Rattle.fw_watch_laws.proofs.Numbers.{IsAt, IsOf, answer_within, register_number}

-- a word that was judged is known
known_judged : (s : State) (a at : At) (found : ℕ) → IsNumber a.register → IsPlace at → length s.plugs ≡ 3906
    → known_of (judged s a found) at ≡ (if is_same a at then all_known found else known_of s at)
unfolding judged known_of
known_judged s a at found n p l = known_put (record s { counts = judged_counts (known_of s a) found s.counts }) a at (all_known found) n p l

-- and so is the new word of a swap that was made
known_made : (cycle : ℕ) (a : Answer) (o : Option Swap) (found : ℕ) (s : State) (at : At) → IsOf a → IsPlace at → length s.plugs ≡ 3906
    → known_of (after_made cycle a o (judged s a.at found)) at ≡ (if is_same a.at at then all_known (word_left found o) else known_of s at)
unfolding after_made swapped
known_made cycle a None found s at n p l = known_judged s a.at at found n p l
known_made cycle a (Some swap) found s at n p l =
    let j : State = judged s a.at found in
    by_known a.at.register (made cycle a swap) (with_known j a.at (all_known swap.new)) at
    ∙ known_put j a.at at (all_known swap.new) n p ((judged_frame s a.at found).plugs ∙ l)
    ∙ ap (λ (k : Known). if is_same a.at at then all_known swap.new else k) (known_judged s a.at at found n p l)
    ∙ put_twice (is_same a.at at) (all_known swap.new) (all_known found) (known_of s at)

known_shown : (o : Option ℕ) (cycle : ℕ) (a : Answer) (s : State) (at : At) → IsOf a → IsPlace at → length s.plugs ≡ 3906
    → known_of (after_shown_by o cycle a s) at ≡ (if is_same a.at at then known_left o a.swap else known_of s at)
unfolding after_found
known_shown None cycle a s at n p l = known_put s a.at at nothing_known n p l
known_shown (Some found) cycle a s at n p l = known_made cycle a a.swap found s at n p l

known_heeded : (h : Heed) (cycle : ℕ) (a : Answer) (s : State) (at : At) → IsOf a → IsPlace at → length s.plugs ≡ 3906
    → known_of (after_heeded h cycle a s) at ≡ unwrap_or (left_by (glimpse_by h a) at) (known_of s at)
unfolding after_followed
known_heeded Ignore cycle a s at n p l = refl
known_heeded Refuse cycle a s at n p l = refl
known_heeded Follow cycle a s at n p l =
    known_shown a.found cycle a (with_manager a.at s) at n p ((manager_frame a.at s).plugs ∙ l)
    ∙ ap (λ (k : Known). if is_same a.at at then known_left a.found a.swap else k) (manager_known a.at at s)
    ∙ unwrap_if (is_same a.at at) (known_left a.found a.swap) (known_of s at)

known_answered : (o : Option Answer) (cycle : ℕ) (s : State) (at : At) → IfSome o IsOf → IsPlace at → length s.plugs ≡ 3906
    → known_of (after_answered o cycle s) at ≡ unwrap_or (left_by (answer_glimpse s o) at) (known_of s at)
unfolding after_answer
known_answered None cycle s at n p l = refl
known_answered (Some a) cycle s at n p l = known_heeded (heed s a.at) cycle a s at n p l

known_word : (o : Option At) (word : ℕ) (s : State) (at : At) → IfSome o (λ a. IsNumber a.register) → IsPlace at → length s.plugs ≡ 3906
    → known_of (after_word o word s) at ≡ unwrap_or (left_by (word_glimpse o word) at) (known_of s at)
known_word None word s at n p l = refl
known_word (Some a) word s at n p l = known_judged s a at word n p l ∙ unwrap_if (is_same a at) (all_known word) (known_of s at)

-- ---- entries

node_if : (b : Bool) (a : At) → IsNumber a.register → IfSome (if b then None else Some a) (λ (x : At). IsNumber x.register)
node_if true a n = tt
node_if false a n = n

at_number : (s : State) (node : Option ℕ) (o : Option WatchedRegister) → IfSome o IsNumber → IfSome (shown_at_node s node o) (λ (x : At). IsNumber x.register)
at_number s None o n = tt
at_number s (Some node) None n = tt
at_number s (Some node) (Some r) n = node_if (is_managed r && not (is_manager node s.manager)) (record { node = node; register = r }) n

pub shown_number : (s : State) (w : ShownEntry) → IfSome (shown_at s w) (λ (x : At). IsNumber x.register)
unfolding shown_at
shown_number s w = at_number s (node_of_device w.device s.nodes) (register_at (REGISTER_SPACE + w.offset)) (register_number (REGISTER_SPACE + w.offset))

-- a bus reset fixes what is known of a register
reset_by : (r : WatchedRegister) (n cycle : ℕ) (e : ResetEntry) (s : State) → IsPlace (record { node = n; register = r }) → length s.plugs ≡ 3906
    → known_of (reset_state cycle e s) (record { node = n; register = r }) ≡ fixed (record { node = n; register = r })
unfolding reset_state known_of
reset_by Bandwidth n cycle e s p l = refl
reset_by ChannelsHigh n cycle e s p l = refl
reset_by ChannelsLow n cycle e s p l = refl
reset_by (Output x) n cycle e s p l = get_or-replicate (length s.plugs) (n * 62 + x) after_reset nothing_known (omega (arith, p.node, p.number, l))
reset_by (Input x) n cycle e s p l = get_or-replicate (length s.plugs) (n * 62 + (31 + x)) after_reset nothing_known (omega (arith, p.node, p.number, l))

buried_known : (o : Option ℕ) (s : State) (at : At) → known_of (buried o s) at ≡ known_of s at
unfolding known_of
buried_known None s at = refl
buried_known (Some node) s at = refl

death_if : (b : Bool) (device : ℕ) (s : State) (at : At) → known_of (if b then after_death device s else s) at ≡ known_of s at
unfolding after_death
death_if true device s at = buried_known (node_of_device device s.nodes) s at
death_if false device s at = refl

second_if : (b : Bool) (second : Second) (t s : State) (at : At) → known_of t at ≡ known_of s at → known_of (if b then record s { second = second } else t) at ≡ known_of s at
unfolding known_of
second_if true second t s at e = refl
second_if false second t s at e = e

known_event : (e : EventEntry) (s : State) (at : At) → known_of (after_event e s) at ≡ known_of s at
unfolding after_event
known_event e s at = second_if (e.code == Events.SECOND_OVER) (ended_second s.second) _ s at (death_if (e.code == Events.DIED) e.device s at)

-- what is known after an entry: what it leaves known, or else what was known
known_what : (cycle : ℕ) (e : Entry) (s : State) (c : List Channel) (d : Second) (at : At) → All IsAt s.standing → IsPlace at → length s.plugs ≡ 3906
    → known_of (after_what cycle e (aside s c d)) at ≡ unwrap_or (left s e at) (known_of s at)
unfolding after_what after_packet after_shown shown_at known_of after_heard heed
known_what cycle (Reset r) s c d at a p l = reset_by at.register at.node cycle r (aside s c d) p l
known_what cycle (Async q) s c d at a p l =
    known_answered (answer_of s.standing q) cycle (with_packet q (aside s c d)) at (answer_within s.standing q a) p l
known_what cycle (Iso q) s c d at a p l = refl
known_what cycle (Event e) s c d at a p l = known_event e (aside s c d) at
known_what cycle (Outcome o) s c d at a p l = refl
known_what cycle (Shown w) s c d at a p l = known_word (shown_at s w) w.word (aside s c d) at (shown_number s w) p l
known_what cycle End s c d at a p l = refl

pub known_step : (s : State) (t : Timed) (at : At) → All IsAt s.standing → IsPlace at → length s.plugs ≡ 3906 → known_of (after s t) at ≡ unwrap_or (left s t.what at) (known_of s at)
unfolding after
known_step s t at a p l =
    let o = ticked_only t.cycle s in
    ap (λ (x : State). known_of (after_what t.cycle t.what x) at) o.2 ∙ known_what t.cycle t.what s o.0 o.1 at a p l
