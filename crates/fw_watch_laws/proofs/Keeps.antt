-- The state keeps what was last known of each register.
use Rattle.fw_watch_laws.proofs.Common.{◌≡◌, refl, ap, sym, ◌∙◌, subst, ℕ, ◌+◌, ◌*◌, ◌==◌, Bool, true, false, List, [], ◌∷◌, length, if◌then◌else◌, Option, Some, None, unwrap_or, arith, All}
use Rattle.fw_watch_laws.proofs.Common.{EventEntry, Entry, Reset, Async, Iso, Event, Outcome, Shown, End, Timed, Known, At, WatchedRegister, Bandwidth, ChannelsHigh, ChannelsLow, Output, Input}
use Rattle.fw_watch_laws.proofs.Common.{nothing_known, Asked, Channel, Second, State, answer_of, known_of, no_state, reset_state, ended_second, node_of_device, buried, after_death, with_packet}
use Rattle.fw_watch_laws.proofs.Common.{after_packet, shown_at, after_shown, after_event, after_what, packet_of, after, known_from, known, IsPlace, left}
use Rattle.std.proofs.lemmas.List.{get_or-replicate, length-replicate}
use Rattle.fw_log_entry.specs.declared.codes.event.TheConstants as Events
use Rattle.fw_watch_remarks.specs.Knowing.{after_reset}
use Rattle.fw_watch_laws.specs.LastKnown.{later, latest, last_known}
use Rattle.fw_watch_laws.proofs.Frames.{Frame, answered_frame, word_frame, heard_frame, aside, ticked_only}
use Rattle.fw_watch_laws.proofs.Numbers.{IsAt, standing_within, source_within}
use Rattle.fw_watch_laws.proofs.Knows.{known_step}

-- the tables are whole
pub record Whole (s : State) : Type 0 where
  pub plugs : length s.plugs ≡ 3906
  pub standing : All IsAt s.standing

framed : (s t : State) → Frame s t → Whole s → Whole t
framed s t f w =
    let P : List Asked → Type 0 = λ list. All IsAt list in
    record { plugs = f.plugs ∙ w.plugs; standing = subst P (sym f.standing) w.standing }

none_standing : All IsAt []
none_standing k d h = absurd (omega (arith, h))

pub whole_none : Whole no_state
whole_none = record { plugs = length-replicate 3906 nothing_known; standing = none_standing }

whole_buried : (o : Option ℕ) (s : State) → Whole s → Whole (buried o s)
whole_buried None s w = w
whole_buried (Some node) s w = record { plugs = w.plugs; standing = source_within (0xFFC0 + node) s.standing w.standing }

whole_death : (b : Bool) (device : ℕ) (s : State) → Whole s → Whole (if b then after_death device s else s)
unfolding after_death
whole_death true device s w = whole_buried (node_of_device device s.nodes) s w
whole_death false device s w = w

whole_second : (b : Bool) (second : Second) (t s : State) → Whole s → Whole t → Whole (if b then record s { second = second } else t)
whole_second true second t s w v = record { plugs = w.plugs; standing = w.standing }
whole_second false second t s w v = v

whole_event : (e : EventEntry) (s : State) → Whole s → Whole (after_event e s)
unfolding after_event
whole_event e s w = whole_second (e.code == Events.SECOND_OVER) (ended_second s.second) _ s w (whole_death (e.code == Events.DIED) e.device s w)

whole_what : (cycle : ℕ) (e : Entry) (s : State) → Whole s → Whole (after_what cycle e s)
unfolding after_what reset_state after_packet after_shown
whole_what cycle (Reset r) s w = record { plugs = length-replicate (length s.plugs) after_reset ∙ w.plugs; standing = none_standing }
whole_what cycle (Async p) s w =
    framed (with_packet p s) _ (answered_frame (answer_of s.standing p) cycle (with_packet p s)) (record { plugs = w.plugs; standing = standing_within p s.standing w.standing })
whole_what cycle (Iso p) s w = framed s _ (heard_frame s (packet_of cycle p)) w
whole_what cycle (Event e) s w = whole_event e s w
whole_what cycle (Outcome o) s w = w
whole_what cycle (Shown x) s w = framed s _ (word_frame (shown_at s x) x.word s) w
whole_what cycle End s w = w

whole_aside : (s : State) (c : List Channel) (d : Second) → Whole s → Whole (aside s c d)
whole_aside s c d w = record { plugs = w.plugs; standing = w.standing }

pub whole_step : (s : State) (t : Timed) → Whole s → Whole (after s t)
unfolding after
whole_step s t w =
    let o = ticked_only t.cycle s in
    let P : State → Type 0 = λ x. Whole (after_what t.cycle t.what x) in
    subst P (sym o.2) (whole_what t.cycle t.what (aside s o.0 o.1) (whole_aside s o.0 o.1 w))

pub whole_from : (s : State) (ts : List Timed) → Whole s → Whole (known_from s ts)
whole_from s [] w = w
whole_from s (t ∷ ts) w = whole_from (after s t) ts (whole_step s t w)

pub whole_known : (entries : List Timed) → Whole (known entries)
whole_known entries = whole_from no_state entries whole_none

-- ---- what was last known

later_or : (x y : Option Known) (k : Known) → unwrap_or x (unwrap_or y k) ≡ unwrap_or (later x y) k
later_or None y k = refl
later_or (Some x) y k = refl

kept_from : (s : State) (ts : List Timed) (at : At) → Whole s → IsPlace at → known_of (known_from s ts) at ≡ unwrap_or (latest s ts at) (known_of s at)
kept_from s [] at w p = refl
kept_from s (t ∷ ts) at w p =
    kept_from (after s t) ts at (whole_step s t w) p
    ∙ ap (unwrap_or (latest (after s t) ts at)) (known_step s t at w.standing p w.plugs)
    ∙ later_or (latest (after s t) ts at) (left s t.what at) (known_of s at)

none_by : (r : WatchedRegister) (n : ℕ) → IsPlace (record { node = n; register = r }) → known_of no_state (record { node = n; register = r }) ≡ nothing_known
unfolding known_of
none_by Bandwidth n p = refl
none_by ChannelsHigh n p = refl
none_by ChannelsLow n p = refl
none_by (Output x) n p = get_or-replicate 3906 (n * 62 + x) nothing_known nothing_known (omega (arith, p.node, p.number))
none_by (Input x) n p = get_or-replicate 3906 (n * 62 + (31 + x)) nothing_known nothing_known (omega (arith, p.node, p.number))

pub kept : (entries : List Timed) (at : At) → IsPlace at → known_of (known entries) at ≡ last_known entries at
unfolding last_known
kept entries at p = kept_from no_state entries at whole_none p ∙ ap (unwrap_or (latest no_state entries at)) (none_by at.register at.node p)
