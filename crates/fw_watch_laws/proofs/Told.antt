-- That a channel has two senders is told up to the second one.
use Rattle.fw_watch_laws.proofs.Common.{◌≡◌, ◌≢◌, refl, ap, sym, ◌∙◌, subst, inl, inr, ◌⊎◌, ℕ, ◌<◌, ◌==◌, ◌&&◌, ◌||◌, not, Bool, true, false, is_some, List, [], ◌∷◌, ◌++◌, if◌then◌else◌, Option, Some}
use Rattle.fw_watch_laws.proofs.Common.{None, list_any, eqb-true, cases_Bool, InOrder, Entry, Iso, Timed, Channel, State, fresh, undue, no_state, packet_of, ticked, remarks, after, known_from, known}
use Rattle.std.proofs.lemmas.List.{get_or-replicate, append-nil}
use Rattle.fw_cip.specs.declared.packet.IsoPacket.{IsoPacket}
use Rattle.fw_watch_known.specs.declared.hear.Packet.{Packet}
use Rattle.fw_watch_known.specs.Heard.{other_sender, heard_on, heard, sender_after, channel_after}
use Rattle.fw_watch.specs.Hearing.{heard_remarks}
use Rattle.fw_watch.proofs.WatchLaws.{known_from_more}
use Rattle.fw_watch_laws.specs.TwoSenders.{IsPacket, moves, stays, is_two, TwoTold}
use Rattle.fw_watch_laws.proofs.Rows.{step_moves}
use Rattle.fw_watch_laws.proofs.Two.{Fine, row, iso_row, iso_after, ticked_row, split, seen_of, fine_step, fine_from, fine_none, order_rest, or_two, heard_any, entry_any}

-- it was told of the channel
abbrev pub IsNoted : State → ℕ → Type 0
IsNoted s k = (row s k).noted.two ≡ true

-- it is told of an entry
abbrev pub IsTold : State → Timed → ℕ → Type 0
IsTold s t k = list_any (is_two k) (remarks s t) ≡ true

-- ---- who told it

other_two : (m : Bool) (x y : Channel) → undue y ≡ (if m then fresh else undue x) → y.noted.two ≡ true → (x.noted.two ≡ true) × (m ≡ false)
other_two true x y e h = let n : y.noted.two ≡ false = ap (λ (c : Channel). c.noted.two) e in cc
other_two false x y e h = (sym (ap (λ (c : Channel). c.noted.two) e) ∙ h, refl)

heard_two : (s : State) (p : Packet) (k : ℕ) → p.channel ≡ k
    → ((row s k).noted.two || is_some (heard_on (row s k) s p).first) ≡ true → ((row s k).noted.two ≡ true) ⊎ (list_any (is_two k) (heard_remarks s p) ≡ true)
unfolding heard
heard_two s p k e h =
    let P : ℕ → Type 0 = λ j. ((row s j).noted.two || is_some (heard_on (row s j) s p).first) ≡ true in
    elim (or_two (row s p.channel).noted.two (heard s p).first p k e (subst P (sym e) h)) [
      | inl y ↦ inl (sym (ap (λ (j : ℕ). (row s j).noted.two) e) ∙ y)
      | inr n ↦ inr (heard_any s p k n)
    ]

iso_two : (s : State) (t : Timed) (p : IsoPacket) (k : ℕ) → Fine s → k < 64 → t.what ≡ Iso p → p.channel ≡ k → IsNoted (after s t) k
    → ((IsNoted s k) × (moves s t.what k ≡ false)) ⊎ IsTold s t k
unfolding channel_after
iso_two s t p k f h e on n =
    elim (heard_two (ticked t.cycle s) (packet_of t.cycle p) k on (sym (ap (λ (c : Channel). c.noted.two) (iso_after s t p k f h e on)) ∙ n)) [
      | inl y ↦ inl (sym (ap (λ (c : Channel). c.noted.two) (ticked_row s t.cycle k)) ∙ y, ap (λ (x : Entry). moves s x k) e)
      | inr m ↦ inr (entry_any s t p k e m)
    ]

-- what was told after an entry was told before, and the entry does not move the channel; or it is told of the entry
two_step : (s : State) (t : Timed) (k : ℕ) → Fine s → k < 64 → IsNoted (after s t) k → ((IsNoted s k) × (moves s t.what k ≡ false)) ⊎ IsTold s t k
two_step s t k f h n = elim (split k t.what) [
  | inl y ↦ iso_two s t y.0 k f h y.1 y.2 n
  | inr o ↦ inl (other_two (moves s t.what k) (row s k) (row (after s t) k) (step_moves k s t o (seen_of s t f) f.whole.plugs).row n)
]

-- it was told of one of some entries, and nothing has moved the channel since
record ToldFrom (s : State) (ts : List Timed) (k : ℕ) : Type 0 where
  pub before : List Timed
  pub entry : Timed
  pub following : List Timed
  pub parts : ts ≡ before ++ entry ∷ following
  pub told : list_any (is_two k) (remarks (known_from s before) entry) ≡ true
  pub since : stays (known_from s (before ++ entry ∷ [])) following k ≡ true

told_later : (s : State) (t : Timed) (ts : List Timed) (k : ℕ) → ToldFrom (after s t) ts k → ToldFrom s (t ∷ ts) k
told_later s t ts k h = record {
  before = t ∷ h.before;
  entry = h.entry;
  following = h.following;
  parts = ap (λ (xs : List Timed). t ∷ xs) h.parts;
  told = h.told;
  since = h.since;
}

stays_more : (s : State) (t : Timed) (ts : List Timed) (k : ℕ) → moves s t.what k ≡ false → stays (after s t) ts k ≡ true → stays s (t ∷ ts) k ≡ true
stays_more s t ts k e h = rw (e, h) refl

told_from : (last : ℕ) (s : State) (ts rest : List Timed) (k : ℕ) → InOrder last (ts ++ rest) → Fine s → k < 64 → IsNoted (known_from s ts) k
    → ((IsNoted s k) × (stays s ts k ≡ true)) ⊎ ToldFrom s ts k
told_from last s [] rest k h f l n = inl (n, refl)
told_from last s (t ∷ ts) rest k h f l n = elim (told_from t.cycle (after s t) ts rest k h.3 (fine_step s t h.1.entry f) l n) [
  | inl y ↦ elim (two_step s t k f l y.0) [
    | inl z ↦ inl (z.0, stays_more s t ts k z.1 y.1)
    | inr m ↦ inr (record { before = []; entry = t; following = ts; parts = refl; told = m; since = y.1 })
  ]
  | inr m ↦ inr (told_later s t ts k m)
]

-- ---- that it is told

-- a node was seen to send, or it was told
abbrev pub IsSent : Channel → ℕ → Type 0
IsSent c a = (c.sender ≡ Some a) ⊎ (c.noted.two ≡ true)

first_if : (b : Bool) (y a : ℕ) → (y == a) ≡ b → (Some y ≡ Some a) ⊎ (is_some (if b then None else Some y) ≡ true)
first_if true y a e = inl (ap Some (eqb-true y a e))
first_if false y a e = inr refl

first_sent : (b : Bool) (o : Option ℕ) (a : ℕ) → (Some (sender_after a o) ≡ Some a) ⊎ ((b || is_some (if b then None else other_sender a o)) ≡ true)
first_sent b None a = inl refl
first_sent true (Some y) a = inr refl
first_sent false (Some y) a = first_if (y == a) y a refl

after_first : (c : Channel) (s : State) (p : Packet) → IsSent (channel_after p.sid (heard_on c s p) c) p.sid
unfolding channel_after
after_first c s p = first_sent c.noted.two c.sender p.sid

after_still : (c : Channel) (s : State) (p : Packet) (a : ℕ) → IsSent c a → IsSent (channel_after p.sid (heard_on c s p) c) a
unfolding channel_after
after_still c s p a h = elim h [
  | inl y ↦ inl (ap (λ (o : Option ℕ). Some (sender_after p.sid o)) y)
  | inr n ↦ inr (ap (λ (b : Bool). b || is_some (heard_on c s p).first) n)
]

last_two : (b : Bool) (a c : ℕ) → (a == c) ≡ false → (b || is_some (if b then None else other_sender c (Some a))) ≡ true
last_two true a c e = refl
last_two false a c e = rw e refl

following_last : (c : Channel) (s : State) (p : Packet) (a : ℕ) → (a == p.sid) ≡ false → IsSent c a → (channel_after p.sid (heard_on c s p) c).noted.two ≡ true
unfolding channel_after
following_last c s p a e h = elim h [
  | inl y ↦ ap (λ (o : Option ℕ). c.noted.two || is_some (if c.noted.two then None else other_sender p.sid o)) y ∙ last_two c.noted.two a p.sid e
  | inr n ↦ ap (λ (b : Bool). b || is_some (heard_on c s p).first) n
]

same_sent : (c d : Channel) (a : ℕ) → undue d ≡ undue c → IsSent c a → IsSent d a
same_sent c d a e h = elim h [
  | inl y ↦ inl (ap (λ (x : Channel). x.sender) e ∙ y)
  | inr n ↦ inr (ap (λ (x : Channel). x.noted.two) e ∙ n)
]

other_sent : (m : Bool) (c d : Channel) (a : ℕ) → m ≡ false → undue d ≡ (if m then fresh else undue c) → IsSent c a → IsSent d a
other_sent true c d a n e h = cc
other_sent false c d a n e h = same_sent c d a e h

sent_step : (s : State) (t : Timed) (k a : ℕ) → Fine s → k < 64 → moves s t.what k ≡ false → IsSent (row s k) a → IsSent (row (after s t) k) a
sent_step s t k a f h m x =
    let P : Channel → Type 0 = λ c. IsSent c a in
    elim (split k t.what) [
      | inl y ↦ subst P (sym (iso_after s t y.0 k f h y.1 y.2))
          (after_still (row (ticked t.cycle s) k) (ticked t.cycle s) (packet_of t.cycle y.0) a (same_sent (row s k) (row (ticked t.cycle s) k) a (ticked_row s t.cycle k) x))
      | inr o ↦ other_sent (moves s t.what k) (row s k) (row (after s t) k) a m (step_moves k s t o (seen_of s t f) f.whole.plugs).row x
    ]

no_move : (m b : Bool) → (not m && b) ≡ true → m ≡ false
no_move true b e = cc
no_move false b e = refl

no_more : (m b : Bool) → (not m && b) ≡ true → b ≡ true
no_more true b e = cc
no_more false b e = e

sent_from : (last : ℕ) (s : State) (ts rest : List Timed) (k a : ℕ) → InOrder last (ts ++ rest) → Fine s → k < 64 → stays s ts k ≡ true → IsSent (row s k) a
    → IsSent (row (known_from s ts) k) a
sent_from last s [] rest k a h f l m x = x
sent_from last s (t ∷ ts) rest k a h f l m x =
    sent_from t.cycle (after s t) ts rest k a h.3 (fine_step s t h.1.entry f) l (no_more (moves s t.what k) (stays (after s t) ts k) m)
    (sent_step s t k a f l (no_move (moves s t.what k) (stays (after s t) ts k) m) x)

packet_first : (s : State) (t : Timed) (k a : ℕ) → Fine s → k < 64 → IsPacket t k a → IsSent (row (after s t) k) a
packet_first s t k a f h p =
    let P : Channel → Type 0 = λ c. IsSent c a in
    let Q : ℕ → Type 0 = λ x. IsSent (iso_row s t p.packet k) x in
    subst P (sym (iso_after s t p.packet k f h p.iso p.on)) (subst Q p.sender (after_first (row (ticked t.cycle s) k) (ticked t.cycle s) (packet_of t.cycle p.packet)))

apart : (a b c : ℕ) → a ≢ b → c ≡ b → (a == c) ≡ false
apart a b c n e = elim (cases_Bool (a == c)) [ inl y ↦ absurd (n (eqb-true a c y ∙ e)) | inr m ↦ m ]

packet_last : (s : State) (t : Timed) (k a b : ℕ) → Fine s → k < 64 → IsPacket t k b → a ≢ b → IsSent (row s k) a → IsNoted (after s t) k
packet_last s t k a b f h p n x =
    ap (λ (c : Channel). c.noted.two) (iso_after s t p.packet k f h p.iso p.on)
    ∙ following_last (row (ticked t.cycle s) k) (ticked t.cycle s) (packet_of t.cycle p.packet) a (apart a b p.packet.cip.sid n p.sender)
    (same_sent (row s k) (row (ticked t.cycle s) k) a (ticked_row s t.cycle k) x)

none_noted : (k : ℕ) → k < 64 → (row no_state k).noted.two ≡ false
none_noted k h = ap (λ (c : Channel). c.noted.two) (get_or-replicate 64 k fresh fresh h)

-- ---- the theorem

-- after the second packet it is noted
noted_last : (l : ℕ) (s : State) (p q : Timed) (mid : List Timed) (k a b : ℕ) → InOrder l (p ∷ (mid ++ q ∷ [])) → Fine s → k < 64 → IsPacket p k a → IsPacket q k b → a ≢ b
    → stays (after s p) mid k ≡ true → IsNoted (known_from s (p ∷ (mid ++ q ∷ []))) k
noted_last l s p q mid k a b o f h x y n m =
    let g : Fine (after s p) = fine_step s p o.1.entry f in
    let sent : IsSent (row (known_from (after s p) mid) k) a = sent_from p.cycle (after s p) mid (q ∷ []) k a o.3 g h m (packet_first s p k a f h x) in
    ap (λ (z : State). (row z k).noted.two) (known_from_more (after s p) mid (q ∷ []))
    ∙ packet_last (known_from (after s p) mid) q k a b (fine_from p.cycle (after s p) mid (q ∷ []) o.3 g) h y n sent

told_of : (entries : List Timed) (k : ℕ) → k < 64 → ((IsNoted no_state k) × (stays no_state entries k ≡ true)) ⊎ ToldFrom no_state entries k → TwoTold entries k
told_of entries k h e = elim e [
  | inl y ↦ (let n = none_noted k h in cc)
  | inr t ↦ record { before = t.before; entry = t.entry; following = t.following; parts = t.parts; told = t.told; since = t.since }
]

pub two_told : (prefix mid : List Timed) (p q : Timed) (channel a b : ℕ) → InOrder 0 (prefix ++ p ∷ (mid ++ q ∷ [])) → channel < 64 → IsPacket p channel a → IsPacket q channel b
    → a ≢ b → stays (known (prefix ++ p ∷ [])) mid channel ≡ true → TwoTold (prefix ++ p ∷ (mid ++ q ∷ [])) channel
two_told prefix mid p q k a b o h x y n m =
    let more : List Timed = p ∷ (mid ++ q ∷ []) in
    let rest = order_rest 0 prefix more o in
    let still : stays (after (known prefix) p) mid k ≡ true = sym (ap (λ (s : State). stays s mid k) (known_from_more no_state prefix (p ∷ []))) ∙ m in
    let noted : IsNoted (known (prefix ++ more)) k =
    ap (λ (s : State). (row s k).noted.two) (known_from_more no_state prefix more)
    ∙ noted_last rest.0 (known prefix) p q mid k a b rest.1 (fine_from 0 no_state prefix more o fine_none) h x y n still in
    let P : List Timed → Type 0 = λ xs. InOrder 0 xs in
    told_of (prefix ++ more) k h (told_from 0 no_state (prefix ++ more) [] k (subst P (sym (append-nil (prefix ++ more))) o) fine_none h noted)
