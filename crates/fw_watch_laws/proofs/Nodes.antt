-- There are at most 63 nodes, so what entries show is of registers that there are.
use Rattle.fw_watch_laws.proofs.Common.{◌≡◌, refl, ap, sym, subst, ℕ, ◌+◌, ◌<◌, ◌≤◌, ◌==◌, ◌&&◌, not, nat_le, nat_lt, Bool, true, false, List, [], ◌∷◌, ◌++◌, length, if◌then◌else◌, Option, Some, None}
use Rattle.fw_watch_laws.proofs.Common.{
  IfSome,
  arith,
  All,
  NodeRow,
  EventEntry,
  Entry,
  Reset,
  Async,
  Iso,
  Event,
  Outcome,
  Shown,
  End,
  Timed,
  Fits,
  InOrder,
  At,
  WatchedRegister,
  register_at,
  is_managed,
}
use Rattle.fw_watch_laws.proofs.Common.{Answer, Channel, Second, State, answer_of, no_state, reset_state, ended_second, is_manager, manager_by, node_of_device, buried, after_death, Ignore, Refuse}
use Rattle.fw_watch_laws.proofs.Common.{Follow, heed, with_packet, after_packet, shown_at, after_shown, after_event, after_what, packet_of, after, known_from, known, IsNumber, IsPlace, Glimpse}
use Rattle.fw_watch_laws.proofs.Common.{glimpse_by, answer_glimpse, word_glimpse, glimpse}
use Rattle.std.specs.List.{position_or_len}
use Rattle.fw_csr.specs.declared.offset.TheConstants.{REGISTER_SPACE}
use Rattle.fw_log_entry.specs.declared.codes.event.TheConstants as Events
use Rattle.fw_log_entry.specs.declared.entry.ShownEntry.{ShownEntry}
use Rattle.fw_watch_known.specs.States.{is_device}
use Rattle.fw_watch.specs.Steps.{shown_at_node}
use Rattle.fw_watch_laws.proofs.Frames.{Frame, answered_frame, word_frame, heard_frame, aside, ticked_only}
use Rattle.fw_watch_laws.proofs.Numbers.{IsAt, IsOf, answer_within, register_number}

-- there are at most 63 nodes
pub record Few (s : State) : Type 0 where
  pub count : s.count ≤ 63
  pub nodes : length s.nodes ≤ 63

framed : (s t : State) → Frame s t → Few s → Few t
framed s t f w = record { count = omega (arith, f.count, w.count); nodes = omega (arith, ap (λ (rows : List NodeRow). length rows) f.nodes, w.nodes) }

few_buried : (o : Option ℕ) (s : State) → Few s → Few (buried o s)
few_buried None s w = w
few_buried (Some node) s w = record { count = w.count; nodes = w.nodes }

few_death : (b : Bool) (device : ℕ) (s : State) → Few s → Few (if b then after_death device s else s)
unfolding after_death
few_death true device s w = few_buried (node_of_device device s.nodes) s w
few_death false device s w = w

few_second : (b : Bool) (second : Second) (t s : State) → Few s → Few t → Few (if b then record s { second = second } else t)
few_second true second t s w v = record { count = w.count; nodes = w.nodes }
few_second false second t s w v = v

few_event : (e : EventEntry) (s : State) → Few s → Few (after_event e s)
unfolding after_event
few_event e s w = few_second (e.code == Events.SECOND_OVER) (ended_second s.second) _ s w (few_death (e.code == Events.DIED) e.device s w)

few_what : (cycle : ℕ) (e : Entry) (s : State) → Fits e → Few s → Few (after_what cycle e s)
unfolding after_what reset_state after_packet after_shown
few_what cycle (Reset r) s h w = record { count = h.few; nodes = h.few }
few_what cycle (Async p) s h w =
    framed (with_packet p s) _ (answered_frame (answer_of s.standing p) cycle (with_packet p s)) (record { count = w.count; nodes = w.nodes })
few_what cycle (Iso p) s h w = framed s _ (heard_frame s (packet_of cycle p)) w
few_what cycle (Event e) s h w = few_event e s w
few_what cycle (Outcome o) s h w = w
few_what cycle (Shown x) s h w = framed s _ (word_frame (shown_at s x) x.word s) w
few_what cycle End s h w = w

few_aside : (s : State) (c : List Channel) (d : Second) → Few s → Few (aside s c d)
few_aside s c d w = record { count = w.count; nodes = w.nodes }

pub few_step : (s : State) (t : Timed) → Fits t.what → Few s → Few (after s t)
unfolding after
few_step s t h w =
    let o = ticked_only t.cycle s in
    let P : State → Type 0 = λ x. Few (after_what t.cycle t.what x) in
    subst P (sym o.2) (few_what t.cycle t.what (aside s o.0 o.1) h (few_aside s o.0 o.1 w))

few_from : (last : ℕ) (s : State) (ts rest : List Timed) → InOrder last (ts ++ rest) → Few s → Few (known_from s ts)
few_from last s [] rest h w = w
few_from last s (t ∷ ts) rest h w = few_from t.cycle (after s t) ts rest h.3 (few_step s t h.1.entry w)

-- after the first entries of a log there are at most 63
pub few_known : (prefix rest : List Timed) → InOrder 0 (prefix ++ rest) → Few (known prefix)
few_known prefix rest h = few_from 0 no_state prefix rest h (record { count = omega arith; nodes = omega arith })

-- ---- what entries show

-- what is seen is of a register that there is
abbrev pub IsSeen : Glimpse → Type 0
IsSeen g = IsPlace g.at

heed_by : (b m : Bool) (a : Answer) → (b ≡ false → IsPlace a.at) → IfSome (glimpse_by (if b then Ignore else if m then Refuse else Follow) a) IsSeen
heed_by true m a p = tt
heed_by false true a p = tt
heed_by false false a p = p refl

heeded_seen : (s : State) (a : Answer) → Few s → IsOf a → IfSome (glimpse_by (heed s a.at) a) IsSeen
unfolding heed
heeded_seen s a w n =
    heed_by (nat_le s.count a.at.node) (is_managed a.at.register && not (is_manager a.at.node (manager_by a.at.node s.manager))) a
    (λ e. record { node = grind (arith, e, w.count); number = n })

answer_seen : (s : State) (o : Option Answer) → Few s → IfSome o IsOf → IfSome (answer_glimpse s o) IsSeen
answer_seen s None w n = tt
answer_seen s (Some a) w n = heeded_seen s a w n

below_if : (b : Bool) (n : ℕ) → (b ≡ true → n < 63) → IfSome (if b then Some n else None) (λ k. k < 63)
below_if true n h = h refl
below_if false n h = tt

position_below : (device : ℕ) (nodes : List NodeRow) → length nodes ≤ 63 → IfSome (node_of_device device nodes) (λ n. n < 63)
unfolding node_of_device
position_below device nodes h = below_if (nat_lt (position_or_len (is_device device) nodes) (length nodes)) (position_or_len (is_device device) nodes) (λ e. grind (arith, e, h))

place_if : (b : Bool) (a : At) → IsPlace a → IfSome (if b then None else Some a) IsPlace
place_if true a p = tt
place_if false a p = p

place_at : (s : State) (node : Option ℕ) (o : Option WatchedRegister) → IfSome node (λ n. n < 63) → IfSome o IsNumber → IfSome (shown_at_node s node o) IsPlace
place_at s None o h n = tt
place_at s (Some node) None h n = tt
place_at s (Some node) (Some r) h n =
    place_if (is_managed r && not (is_manager node s.manager)) (record { node = node; register = r }) (record { node = h; number = n })

place_shown : (s : State) (x : ShownEntry) → Few s → IfSome (shown_at s x) IsPlace
unfolding shown_at
place_shown s x w =
    place_at s (node_of_device x.device s.nodes) (register_at (REGISTER_SPACE + x.offset)) (position_below x.device s.nodes w.nodes) (register_number (REGISTER_SPACE + x.offset))

word_seen : (o : Option At) (word : ℕ) → IfSome o IsPlace → IfSome (word_glimpse o word) IsSeen
word_seen None word p = tt
word_seen (Some at) word p = p

-- what an entry shows is of a register that there is
pub glimpse_seen : (s : State) (e : Entry) → Few s → All IsAt s.standing → IfSome (glimpse s e) IsSeen
glimpse_seen s (Reset r) w a = tt
glimpse_seen s (Async p) w a = answer_seen s (answer_of s.standing p) w (answer_within s.standing p a)
glimpse_seen s (Iso p) w a = tt
glimpse_seen s (Event e) w a = tt
glimpse_seen s (Outcome o) w a = tt
glimpse_seen s (Shown x) w a = word_seen (shown_at s x) x.word (place_shown s x w)
glimpse_seen s End w a = tt
