-- What changes in the rows of channels, but for when they are due.
use Rattle.fw_watch_laws.proofs.Common.{◌≡◌, ◌≢◌, refl, ap, sym, ◌∙◌, subst, ℕ, zero, suc, ◌+◌, ◌-◌, ◌==◌, ◌&&◌, ◌||◌, not, nat_le, nat_lt, Bool, true, false, List, [], ◌∷◌, length, if◌then◌else◌}
use Rattle.fw_watch_laws.proofs.Common.{Option, Some, None, arith, eqb-true, Known, Channel, fresh, undue, channel_at}
use Rattle.std.proofs.Common.{set}
use Rattle.std.proofs.lemmas.List.{get_or-set_other, length-set}
use Rattle.fw_watch_remarks.specs.Knowing.{is_forgotten, is_channel}
use Rattle.fw_watch_known.specs.declared.channel.Due.{Due}
use Rattle.fw_watch_known.specs.Channels.{quiet, freshened_one, freshened, quieted, unused, same_channel, plug_moved, is_taken, is_to_be_used, with_due, with_dues}
use Rattle.fw_watch_laws.specs.TwoSenders.{plug_changes}

-- a channel is seen anew, or is as it was but for when it is due
pub record Turns (k : ℕ) (anew : Bool) (c d : List Channel) : Type 0 where
  pub size : length d ≡ length c
  pub row : undue (channel_at d k) ≡ (if anew then fresh else undue (channel_at c k))

pub stay : (k : ℕ) (c : List Channel) → Turns k false c c
stay k c = record { size = refl; row = refl }

pub turn_as : (k : ℕ) (a b : Bool) (c d : List Channel) → a ≡ b → Turns k a c d → Turns k b c d
turn_as k a b c d e t = let P : Bool → Type 0 = λ x. Turns k x c d in subst P e t

join : (a b : Bool) (x y z : Channel) → z ≡ (if b then fresh else y) → y ≡ (if a then fresh else x) → z ≡ (if a || b then fresh else x)
join true true x y z e f = e
join true false x y z e f = e ∙ f
join false true x y z e f = e
join false false x y z e f = e ∙ f

pub turn_both : (k : ℕ) (a b : Bool) (c d e : List Channel) → Turns k a c d → Turns k b d e → Turns k (a || b) c e
turn_both k a b c d e t u = record { size = u.size ∙ t.size; row = join a b (undue (channel_at c k)) (undue (channel_at d k)) (undue (channel_at e k)) u.row t.row }

pub or_false : (a : Bool) → (a || false) ≡ a
or_false true = refl
or_false false = refl

-- ---- one row

same_anew : (c : List Channel) (j : ℕ) (v : Channel) → undue v ≡ fresh → undue (channel_at (set c j v) j) ≡ fresh
same_anew [] j v e = refl
same_anew (x ∷ c) zero v e = e
same_anew (x ∷ c) (suc j) v e = same_anew c j v e

anew_if : (b : Bool) (c : List Channel) (j k : ℕ) (v : Channel) → (j == k) ≡ b → undue v ≡ fresh → undue (channel_at (set c j v) k) ≡ (if b then fresh else undue (channel_at c k))
anew_if true c j k v n e = ap (λ (x : ℕ). undue (channel_at (set c j v) x)) (sym (eqb-true j k n)) ∙ same_anew c j v e
anew_if false c j k v n e = ap undue (get_or-set_other c j k v fresh (λ f. grind (arith, n, f)))

anew_row : (c : List Channel) (j k : ℕ) (v : Channel) → undue v ≡ fresh → undue (channel_at (set c j v) k) ≡ (if j == k then fresh else undue (channel_at c k))
anew_row c j k v e = anew_if (j == k) c j k v refl e

pub set_anew : (k : ℕ) (c : List Channel) (j : ℕ) (v : Channel) → undue v ≡ fresh → Turns k (j == k) c (set c j v)
set_anew k c j v e = record { size = length-set c j v; row = anew_row c j k v e }

same_row : (c : List Channel) (j k : ℕ) (v : Channel) → undue v ≡ undue (channel_at c j) → undue (channel_at (set c j v) k) ≡ undue (channel_at c k)
same_row [] j k v e = refl
same_row (x ∷ c) zero zero v e = e
same_row (x ∷ c) zero (suc k) v e = refl
same_row (x ∷ c) (suc j) zero v e = refl
same_row (x ∷ c) (suc j) (suc k) v e = same_row c j k v e

pub set_same : (k : ℕ) (c : List Channel) (j : ℕ) (v : Channel) → undue v ≡ undue (channel_at c j) → Turns k false c (set c j v)
set_same k c j v e = record { size = length-set c j v; row = same_row c j k v e }

pub set_other : (k : ℕ) (c : List Channel) (j : ℕ) (v : Channel) → k ≢ j → Turns k false c (set c j v)
set_other k c j v n = record { size = length-set c j v; row = ap undue (get_or-set_other c j k v fresh n) }

-- ---- halves

at_true : (p q r x y : Bool) → p ≡ true → q ≡ false → r ≡ true → x ≡ y → ((p && q && x) || (y && true)) ≡ (p && r && x)
at_true true false true true true e f g h = refl
at_true true false true false false e f g h = refl
at_true p q r x y e f g h = cc

and_false : (y : Bool) → false ≡ (y && false)
and_false true = refl
and_false false = refl

or_and_false : (x y : Bool) → (x || (y && false)) ≡ x
or_and_false true y = refl
or_and_false false y = sym (and_false y)

at_false : (p q r x y : Bool) → (p ≡ true → q ≡ r) → ((p && q && x) || (y && false)) ≡ (p && r && x)
at_false false q r x y h = sym (and_false y)
at_false true q r x y h = or_and_false (q && x) y ∙ ap (λ (z : Bool). z && x) (h refl)

below_if : (a b : Bool) → (a ≡ true → b ≡ true) → (b ≡ true → a ≡ true) → a ≡ b
below_if true b h g = sym (h refl)
below_if false true h g = g refl
below_if false false h g = refl

below_same : (n first k : ℕ) → (first + n == k) ≡ false → nat_le first k ≡ true → nat_lt (k - first) n ≡ nat_lt (k - first) (suc n)
below_same n first k e h = below_if (nat_lt (k - first) n) (nat_lt (k - first) (suc n)) (λ f. grind (arith, f)) (λ f. grind (arith, e, h, f))

half_next : (b : Bool) (f : ℕ → Bool) (n first k : ℕ) → (first + n == k) ≡ b
    → ((nat_le first k && nat_lt (k - first) n && f (k - first)) || (f n && b)) ≡ (nat_le first k && nat_lt (k - first) (suc n) && f (k - first))
half_next true f n first k e =
    at_true (nat_le first k) (nat_lt (k - first) n) (nat_lt (k - first) (suc n)) (f (k - first)) (f n) (grind (arith, e)) (grind (arith, e)) (grind (arith, e))
    (ap f (omega (arith, eqb-true (first + n) k e)))
half_next false f n first k e =
    at_false (nat_le first k) (nat_lt (k - first) n) (nat_lt (k - first) (suc n)) (f (k - first)) (f n) (below_same n first k e)

one_anew : (b : Bool) (k channel : ℕ) (c : List Channel) → Turns k (b && (channel == k)) c (freshened_one b channel c)
one_anew true k channel c = set_anew k c channel fresh refl
one_anew false k channel c = stay k c

none_in : (a b : Bool) (n : ℕ) → false ≡ (a && nat_lt n 0 && b)
none_in a b n = grind arith

pub freshened_turns : (n k first : ℕ) (old now : Known) (c : List Channel)
    → Turns k (nat_le first k && nat_lt (k - first) n && is_forgotten old now (k - first)) c (freshened n first old now c)
unfolding freshened
freshened_turns zero k first old now c = turn_as k false _ c c (none_in (nat_le first k) (is_forgotten old now (k - first)) (k - first)) (stay k c)
freshened_turns (suc n) k first old now c =
    turn_as k _ _ c _ (half_next (first + n == k) (is_forgotten old now) n first k refl)
    (turn_both k _ _ c (freshened n first old now c) _ (freshened_turns n k first old now c) (one_anew (is_forgotten old now n) k (first + n) (freshened n first old now c)))

due_turns : (b : Bool) (k channel : ℕ) (due : Due) (c : List Channel) → Turns k false c (with_due b channel due c)
due_turns true k channel due c = set_same k c channel (record (channel_at c channel) { due = Some due }) refl
due_turns false k channel due c = stay k c

pub dues_turn : (n k first old new : ℕ) (due : Due) (plugs : List Known) (c : List Channel) → Turns k false c (with_dues n first old new due plugs c)
unfolding with_dues
dues_turn zero k first old new due plugs c = stay k c
dues_turn (suc n) k first old new due plugs c =
    turn_both k false false c (with_dues n first old new due plugs c) _ (dues_turn n k first old new due plugs c)
    (due_turns (is_to_be_used (is_taken n old new) (first + n) plugs) k (first + n) due (with_dues n first old new due plugs c))

-- ---- plugs

quieted_turns : (o : Option ℕ) (k : ℕ) (c : List Channel) → Turns k (is_channel k o) c (quieted o c)
unfolding quieted
quieted_turns None k c = stay k c
quieted_turns (Some j) k c = set_anew k c j (quiet (channel_at c j)) refl

unused_turns : (o : Option ℕ) (k : ℕ) (c : List Channel) → Turns k false c (unused o c)
unfolding unused
unused_turns None k c = stay k c
unused_turns (Some j) k c = set_same k c j (undue (channel_at c j)) refl

moved_if : (b : Bool) (old now : Option ℕ) (k : ℕ) (c : List Channel)
    → Turns k (not b && (is_channel k old || is_channel k now)) c (if b then c else quieted now (quieted old c))
moved_if true old now k c = stay k c
moved_if false old now k c = turn_both k (is_channel k old) (is_channel k now) c (quieted old c) (quieted now (quieted old c)) (quieted_turns old k c) (quieted_turns now k (quieted old c))

pub plug_turns : (old now : Option ℕ) (k : ℕ) (c : List Channel) → Turns k (plug_changes old now k) c (plug_moved old now c)
unfolding plug_moved
plug_turns old now k c =
    let m : List Channel = if same_channel old now then c else quieted now (quieted old c) in
    turn_as k _ _ c _ (or_false (plug_changes old now k)) (turn_both k (plug_changes old now k) false c m (unused now m) (moved_if (same_channel old now) old now k c) (unused_turns now k m))
