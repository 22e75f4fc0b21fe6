-- Two senders on one channel are told.
use Rattle.fw_watch_laws.proofs.Common.{◌≡◌, ◌≢◌, refl, ap, sym, ◌∙◌, inl, inr, ◌⊎◌, ℕ, ◌<◌, ◌==◌, ◌||◌, Bool, true, false, is_some, List, [], ◌∷◌, ◌++◌, length, Option, Some, None, IfSome, arith}
use Rattle.fw_watch_laws.proofs.Common.{list_any, eq-eqb, eqb-true, cases_Bool, Fits, InOrder, Entry, Reset, Async, Iso, Event, Outcome, Shown, End, Timed, Said, Channel, State, fresh, undue}
use Rattle.fw_watch_laws.proofs.Common.{channel_at, after_heard, no_state, held_remarks, packet_of, after_what, ticked, remarks, after, known_from, glimpse}
use Rattle.std.proofs.lemmas.List.{length-replicate, length-set}
use Rattle.std.proofs.lemmas.Grind.{get_or-set_at}
use Rattle.std.proofs.lemmas.List.Folds.{list_any-append}
use Rattle.fw_cip.specs.declared.packet.IsoPacket.{IsoPacket}
use Rattle.fw_watch_known.specs.declared.hear.Packet.{Packet}
use Rattle.fw_watch_known.specs.Heard.{heard_on, heard, channel_after}
use Rattle.fw_watch.specs.Hearing.{start_remarks, two_remarks, wrong_remarks, heard_remarks}
use Rattle.fw_watch.specs.Steps.{what_remarks}
use Rattle.fw_watch_laws.specs.TwoSenders.{is_two}
use Rattle.fw_watch_laws.proofs.Keeps.{Whole, whole_step, whole_none}
use Rattle.fw_watch_laws.proofs.Nodes.{Few, few_step, IsSeen, glimpse_seen}
use Rattle.fw_watch_laws.proofs.Rows.{IsOther, ticked_moves, step_moves}

-- the tables are whole, and there are at most 63 nodes
pub record Fine (s : State) : Type 0 where
  pub whole : Whole s
  pub few : Few s
  pub rows : length s.channels ≡ 64

-- what is kept of a channel
abbrev pub row : State → ℕ → Channel
row s k = channel_at s.channels k

-- ---- an isochronous packet of the channel

-- the state in which a packet is heard, and the packet
abbrev pub iso_row : State → Timed → IsoPacket → ℕ → Channel
iso_row s t p k =
    channel_after p.cip.sid (heard_on (row (ticked t.cycle s) k) (ticked t.cycle s) (packet_of t.cycle p)) (row (ticked t.cycle s) k)

iso_what : (cycle k : ℕ) (p : IsoPacket) (s : State) → k < length s.channels → p.channel ≡ k
    → channel_at (after_what cycle (Iso p) s).channels k ≡ channel_after p.cip.sid (heard_on (row s k) s (packet_of cycle p)) (row s k)
unfolding after_what after_heard heard
iso_what cycle k p s h e =
    let v : ℕ → Channel = λ j. channel_after p.cip.sid (heard_on (row s j) s (packet_of cycle p)) (row s j) in
    get_or-set_at s.channels p.channel k (v p.channel) fresh (sym e) (omega (arith, h, e)) ∙ ap v e

iso_size : (cycle : ℕ) (p : IsoPacket) (s : State) → length (after_what cycle (Iso p) s).channels ≡ length s.channels
unfolding after_what after_heard
iso_size cycle p s = length-set s.channels p.channel _

pub iso_after : (s : State) (t : Timed) (p : IsoPacket) (k : ℕ) → Fine s → k < 64 → t.what ≡ Iso p → p.channel ≡ k → row (after s t) k ≡ iso_row s t p k
unfolding after
iso_after s t p k f h e on =
    ap (λ (x : Entry). channel_at (after_what t.cycle x (ticked t.cycle s)).channels k) e
    ∙ iso_what t.cycle k p (ticked t.cycle s) (omega (arith, h, (ticked_moves k t.cycle s).size, f.rows)) on

-- until then nothing changes but when it is due
pub ticked_row : (s : State) (cycle k : ℕ) → undue (row (ticked cycle s) k) ≡ undue (row s k)
ticked_row s cycle k = (ticked_moves k cycle s).row

-- ---- an entry

decide : (k j : ℕ) → (j ≡ k) ⊎ (k ≢ j)
decide k j = elim (cases_Bool (j == k)) [ inl y ↦ inl (eqb-true j k y) | inr n ↦ inr (λ e. cc (eq-eqb j k (sym e), n)) ]

-- an entry is a packet of the channel, or another
pub split : (k : ℕ) (e : Entry) → ((p : IsoPacket) × (e ≡ Iso p) × (p.channel ≡ k)) ⊎ IsOther k e
split k (Reset r) = inr tt
split k (Async p) = inr tt
split k (Iso p) = elim (decide k p.channel) [ inl y ↦ inl (p, refl, y) | inr n ↦ inr n ]
split k (Event e) = inr tt
split k (Outcome o) = inr tt
split k (Shown w) = inr tt
split k End = inr tt

pub seen_of : (s : State) (t : Timed) → Fine s → IfSome (glimpse s t.what) IsSeen
seen_of s t f = glimpse_seen s t.what f.few f.whole.standing

rows_iso : (s : State) (t : Timed) (p : IsoPacket) → Fine s → t.what ≡ Iso p → length (after s t).channels ≡ 64
unfolding after
rows_iso s t p f e =
    ap (λ (x : Entry). length (after_what t.cycle x (ticked t.cycle s)).channels) e ∙ iso_size t.cycle p (ticked t.cycle s) ∙ (ticked_moves 0 t.cycle s).size ∙ f.rows

rows_step : (s : State) (t : Timed) → Fine s → length (after s t).channels ≡ 64
rows_step s t f = elim (split 0 t.what) [
  | inl y ↦ rows_iso s t y.0 f y.1
  | inr n ↦ (step_moves 0 s t n (seen_of s t f) f.whole.plugs).size ∙ f.rows
]

pub fine_step : (s : State) (t : Timed) → Fits t.what → Fine s → Fine (after s t)
fine_step s t h f = record { whole = whole_step s t f.whole; few = few_step s t h f.few; rows = rows_step s t f }

pub fine_from : (last : ℕ) (s : State) (ts rest : List Timed) → InOrder last (ts ++ rest) → Fine s → Fine (known_from s ts)
fine_from last s [] rest h f = f
fine_from last s (t ∷ ts) rest h f = fine_from t.cycle (after s t) ts rest h.3 (fine_step s t h.1.entry f)

pub order_rest : (last : ℕ) (ts rest : List Timed) → InOrder last (ts ++ rest) → (l : ℕ) × InOrder l rest
order_rest last [] rest h = (last, h)
order_rest last (t ∷ ts) rest h = order_rest t.cycle ts rest h.3

pub fine_none : Fine no_state
fine_none = record { whole = whole_none; few = record { count = omega arith; nodes = omega arith }; rows = length-replicate 64 fresh }

-- ---- what is told

any_left : (k : ℕ) (xs ys : List Said) → list_any (is_two k) xs ≡ true → list_any (is_two k) (xs ++ ys) ≡ true
any_left k xs ys e = list_any-append (is_two k) xs ys ∙ ap (λ (b : Bool). b || list_any (is_two k) ys) e

pub or_true : (b : Bool) → (b || true) ≡ true
or_true true = refl
or_true false = refl

any_right : (k : ℕ) (xs ys : List Said) → list_any (is_two k) ys ≡ true → list_any (is_two k) (xs ++ ys) ≡ true
any_right k xs ys e = list_any-append (is_two k) xs ys ∙ ap (λ (b : Bool). list_any (is_two k) xs || b) e ∙ or_true (list_any (is_two k) xs)

-- the row says that it was told: it was before, or it is now
pub or_two : (b : Bool) (o : Option ℕ) (p : Packet) (k : ℕ) → p.channel ≡ k → (b || is_some o) ≡ true → (b ≡ true) ⊎ (list_any (is_two k) (two_remarks o p) ≡ true)
unfolding two_remarks
or_two true o p k e h = inl refl
or_two false None p k e h = cc
or_two false (Some first) p k e h = inr (ap (λ (b : Bool). b || false) (eq-eqb p.channel k e))

pub heard_any : (s : State) (p : Packet) (k : ℕ) → list_any (is_two k) (two_remarks (heard s p).first p) ≡ true → list_any (is_two k) (heard_remarks s p) ≡ true
unfolding heard_remarks wrong_remarks
heard_any s p k e = any_right k (start_remarks (channel_at s.channels p.channel).sender p) _ (any_left k (two_remarks (heard s p).first p) _ e)

pub entry_any : (s : State) (t : Timed) (p : IsoPacket) (k : ℕ) → t.what ≡ Iso p
    → list_any (is_two k) (heard_remarks (ticked t.cycle s) (packet_of t.cycle p)) ≡ true → list_any (is_two k) (remarks s t) ≡ true
unfolding remarks what_remarks
entry_any s t p k e h =
    any_right k (held_remarks 64 t.cycle s) (what_remarks t.cycle t.what (ticked t.cycle s))
    (ap (λ (x : Entry). list_any (is_two k) (what_remarks t.cycle x (ticked t.cycle s))) e ∙ h)
