-- Which of two devices that leave towards each other wins.
use Rattle.fw_tree.proofs.Common.{◌≡◌, ℕ, ◌<◌, ◌==◌, nat_lt, ◌&&◌, not, Option, Some, None, Bool, true, false, arith, refl, nat_tests, End, Peers, peer, open_count, LeavesBy, AreCables}
use Rattle.std.specs.Prelude.{IfNone}
use Rattle.fw_tree.specs.Rounds.{WinsTie}
use Rattle.fw_tree.proofs.ForestLaws.{opened}
use Rattle.fw_tree.proofs.OpenPortLaws.{same_port, same_end}

pub leaves_by : (g : Peers) (s : ℕ → Bool) (d p : ℕ) (e : End) → s d ≡ true → open_count g s d ≡ 1 → peer g d p ≡ Some e → s e.device ≡ true → LeavesBy g s d p
leaves_by g s d p e still one is member = record { still = still; one = one; parent = opened s (peer g d p) e is member }

-- the parent leaves too: it leaves towards the device
pub wins_tie : (g : Peers) (s : ℕ → Bool) (d p : ℕ) (e : End) → AreCables g → s d ≡ true → open_count g s d ≡ 1 → peer g d p ≡ Some e → s e.device ≡ true → open_count g s e.device ≡ 1 → e.device < d
    → WinsTie g s d
wins_tie g s d p e cables still one is member other less =
    let back = cables.back d p e is in (
      e.device,
      less,
      record {
        port = p;
        other = e.port;
        first = (leaves_by g s d p e still one is member, is);
        second = (leaves_by g s e.device e.port (record { device = d; port = p }) member other back still, back);
      },
    )

-- a tie is with the device at the open port
pub tie_with : (g : Peers) (s : ℕ → Bool) (d p : ℕ) (e : End) → LeavesBy g s d p → peer g d p ≡ Some e → (w : WinsTie g s d) → (e.device < d) × (s e.device ≡ true) × (open_count g s e.device ≡ 1)
tie_with g s d p e l is w =
    let t = w.2 in
    let k : p ≡ t.port = same_port g s d p t.port l.one l.parent t.first.0.parent in
    let there : peer g d t.port ≡ Some e = rw k at is in
    let other : w.0 ≡ e.device = same_end (peer g d t.port) (record { device = w.0; port = t.other }) e t.first.1 there in
    (rw (← other) w.1, rw (← other) t.second.0.still, rw (← other) t.second.0.one)

-- what it tells that the other has left in the round, and comes first
less_of : (b u : Bool) (e d : ℕ) → (nat_lt e d && b && not u) ≡ true → e < d
less_of b u e d h = grind (arith, nat_tests)

seen_of : (c b u : Bool) → (c && b && not u) ≡ true → b ≡ true
seen_of true true u h = refl
seen_of true false u h = h
seen_of false b u h = let no : ⊥ = cc in absurd no

one_of_left : (c b u : Bool) (n : ℕ) → (c && b && not u) ≡ true → u ≡ (b && not (n == 1)) → n ≡ 1
one_of_left c b u n h e = grind (arith, nat_tests)

is_left : (b u : Bool) (n e d : ℕ) → e < d → b ≡ true → n ≡ 1 → u ≡ (b && not (n == 1)) → (nat_lt e d && b && not u) ≡ true
is_left b u n e d h k l m = grind (arith, nat_tests)

-- those before a device that leave in the round have left
abbrev pub GoneBefore : Peers → (ℕ → Bool) → (ℕ → Bool) → ℕ → Type 0
GoneBefore g s t d = (k : ℕ) → k < d → t k ≡ (s k && not (open_count g s k == 1))

-- a device leaves towards one that has left in the round: towards each other
pub left_first : (g : Peers) (s t : ℕ → Bool) (d p : ℕ) (e : End) → AreCables g → LeavesBy g s d p → peer g d p ≡ Some e → GoneBefore g s t d
    → (nat_lt e.device d && s e.device && not (t e.device)) ≡ true → WinsTie g s d
left_first g s t d p e cables l is gone h =
    let less = less_of (s e.device) (t e.device) e.device d h in
    let member = seen_of (nat_lt e.device d) (s e.device) (t e.device) h in
    let other = one_of_left (nat_lt e.device d) (s e.device) (t e.device) (open_count g s e.device) h (gone e.device less) in
    wins_tie g s d p e cables l.still l.one is member other less

-- if the other has not left, or comes later, there is no tie to win
pub none_left : (g : Peers) (s t : ℕ → Bool) (d p : ℕ) (e : End) → LeavesBy g s d p → peer g d p ≡ Some e → GoneBefore g s t d
    → (nat_lt e.device d && s e.device && not (t e.device)) ≡ false → WinsTie g s d → ⊥
none_left g s t d p e l is gone none w =
    let x = tie_with g s d p e l is w in
    let y = is_left (s e.device) (t e.device) (open_count g s e.device) e.device d x.0 x.1 x.2 (gone e.device x.0) in cc

-- if it does not have one open cable it stays
pub stays_there : {X : Type 0} (o : Option X) (b : Bool) (n m : ℕ) → n ≡ m → IfNone o (n ≡ 1 → ⊥) → IfNone o ((b && (m == 1)) ≡ false)
stays_there (Some x) b n m e h = tt
stays_there None b n m e h = other b n m e h
  where
    other : (b : Bool) (n m : ℕ) → n ≡ m → (n ≡ 1 → ⊥) → (b && (m == 1)) ≡ false
    other b n m e h = grind (arith, nat_tests)
