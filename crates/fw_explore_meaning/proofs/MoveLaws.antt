-- Move after move at a place, and what stays known of keys while more is kept.
use Rattle.fw_explore_meaning.proofs.Common.{ℕ, ◌≡◌, ◌+◌, ◌<◌, List, [], ◌∷◌, ◌++◌, Bool, true, false, get_or, length, min, inl, inr, refl, sym, ap, subst, ◌∙◌, arith, All, cases_eq, Command, Machine}
use Rattle.fw_explore_meaning.proofs.Common.{words_of, DeskRelations, most_told, Entry, IsReached, Walked, Rows, Explored, History, IsMove, LeadsAt, LeadsTo, Had, IsPlacedKey, IsWiderBy, IsGoing}
use Rattle.std.proofs.Common.{set}
use Rattle.std.proofs.lemmas.List.Elements.{All-push, All-set}
use Rattle.fw_kept_parts.proofs.WordLaws.{words_back}
use Rattle.fw_explore_levels.specs.Tables.{IsFound, IsNew}
use Rattle.fw_explore_meaning.specs.Steps.{Steps, IsPlaced}
use Rattle.fw_explore_meaning.specs.Walking.{ArePlaced, IsMoving, MovesBelow}
use Rattle.fw_explore_meaning.proofs.PlaceLaws.{leads_at, leads_wider}
use Rattle.fw_explore_meaning.proofs.WalkingLaws.{walking_on, walking_by}

-- ---- keys of places

placed_wider : (H H' : ℕ → History → Type 0) (K K' : List ℕ → Machine → Type 0) (key : List ℕ) → IsWiderBy H H' K K' → IsPlacedKey H K key → IsPlacedKey H' K' key
placed_wider H H' K K' key more k = record {
  words = k.words;
  key_is = k.key_is;
  small = k.small;
  placed = record {
    past_at = k.placed.past_at;
    half = k.placed.half;
    machine_at = k.placed.machine_at;
    words_are = k.placed.words_are;
    past = k.placed.past;
    had = more.pasts k.placed.past_at k.placed.past k.placed.had;
    machine = k.placed.machine;
    kept = more.machines k.placed.machine_at k.placed.machine k.placed.kept;
  };
}

pub all_wider : (H H' : ℕ → History → Type 0) (K K' : List ℕ → Machine → Type 0) (entries : List Entry) → IsWiderBy H H' K K' → ArePlaced H K entries → ArePlaced H' K' entries
all_wider H H' K K' entries more all k d less = placed_wider H H' K K' (get_or entries k d).key more (all k d less)

-- the numbers of a place are read back from its key
pub placed_read : (H : ℕ → History → Type 0) (K : List ℕ → Machine → Type 0) (key here : List ℕ) → words_of key ≡ here → IsPlacedKey H K key → IsPlaced H K here
placed_read H K key here read k = subst (IsPlaced H K) (sym (ap words_of k.key_is ∙ words_back k.words k.small) ∙ read) k.placed

-- one more is reached
pub placed_reached : (H : ℕ → History → Type 0) (K : List ℕ → Machine → Type 0) (old new : List Entry) (key : List ℕ) (ways : ℕ) (first : List ℕ) → IsReached old new key ways first
    → IsPlacedKey H K key
    → ArePlaced H K old → ArePlaced H K new
placed_reached H K old new key ways first (inr n) k all = subst (ArePlaced H K) (sym n.is) (All-push (λ (e : Entry). IsPlacedKey H K e.key) old (record { key = key; ways = ways; first = first }) all
    k)
placed_reached H K old new key ways first (inl f) k all =
    let changed : Entry = record { key = f.entry.key; ways = min most_told (f.entry.ways + ways); first = f.entry.first } in
    subst (ArePlaced H K) (sym f.is) (All-set (λ (e : Entry). IsPlacedKey H K e.key) old f.place changed (subst (IsPlacedKey H K) (sym f.same) k) all)

-- ---- one mover

module _ (D : DeskRelations) (script : List Command) (x : Explored) (pasts pasts1 pasts2 : List History) (K K1 K2 : List ℕ → Machine → Type 0) (older : IsWiderBy (Had pasts) (Had pasts1) K K1)
    (newer : IsWiderBy (Had pasts1) (Had pasts2) K1 K2) (key here to : List ℕ) (read : words_of key ≡ here) (p : ℕ) (b : Bool)
    (steps : (w : List ℕ) → LeadsAt D script x (Had pasts1) K1 w here → Steps D script x (Had pasts2) K2 w p to b) where
  there : (w : List ℕ) → LeadsTo D script x (Had pasts) K w key → LeadsAt D script x (Had pasts1) K1 w here
  there w l = subst (LeadsAt D script x (Had pasts1) K1 w) read
      (leads_at D script x (Had pasts1) K1 w key (leads_wider D script x (Had pasts) (Had pasts1) K K1 older.pasts older.machines w key l))

  on : b ≡ true → (w : List ℕ) → LeadsTo D script x (Had pasts) K w key → IsMove D script x w p × LeadsTo D script x (Had pasts2) K2 (w ++ p ∷ []) to
  on e w l = subst (Steps D script x (Had pasts2) K2 w p to) e (steps w (there w l))

  never : b ≡ false → (w : List ℕ) → LeadsTo D script x (Had pasts) K w key → IsMove D script x w p → ⊥
  never e w l = subst (Steps D script x (Had pasts2) K2 w p to) e (steps w (there w l))

  wide : (w k : List ℕ) → LeadsTo D script x (Had pasts1) K1 w k → LeadsTo D script x (Had pasts2) K2 w k
  wide w k l = leads_wider D script x (Had pasts1) (Had pasts2) K1 K2 newer.pasts newer.machines w k l

  module _ (n place : ℕ) (levels : Walked) (rows : Rows) (e : Entry) (within : place < length levels.level) (at : get_or levels.level place e ≡ e) (key_is : e.key ≡ key) (moved : Bool)
      (m : IsMoving D script x pasts pasts1 K K1 n place p key moved levels rows) where
    -- it moves
    pub moving_on : (levels' : Walked) → levels'.level ≡ levels.level → IsReached levels.next levels'.next to e.ways (e.first ++ p ∷ []) → b ≡ true
        → IsMoving D script x pasts pasts2 K K2 n place (p + 1) key true levels' rows
    moving_on levels' same reached moves = record {
      walks = walking_on D script x (LeadsTo D script x (Had pasts) K) n place levels e within at (LeadsTo D script x (Had pasts1) K1) (LeadsTo D script x (Had pasts2) K2) rows p to levels' same wide
          (λ w l. on moves w (subst (LeadsTo D script x (Had pasts) K w) key_is l)) reached m.walks;
      moves = λ w l. (p, (on moves w l).0);
    }

    -- or it does not
    pub moving_by : b ≡ false → IsMoving D script x pasts pasts2 K K2 n place (p + 1) key moved levels rows
    moving_by rests = record {
      walks = walking_by D script x (LeadsTo D script x (Had pasts) K) n place levels e within at (LeadsTo D script x (Had pasts1) K1) (LeadsTo D script x (Had pasts2) K2) rows p wide
          (λ w l. never rests w (subst (LeadsTo D script x (Had pasts) K w) key_is l)) m.walks;
      moves = λ w l. still moved w (m.moves w l) (never rests w l);
    }
      where
        still : (o : Bool) (w : List ℕ) → MovesBelow D script x w p o → (IsMove D script x w p → ⊥) → MovesBelow D script x w (p + 1) o
        still true w has none = has
        still false w has none = λ q less move. elim (cases_eq q p) [
          | inl here ↦ none (subst (IsMove D script x w) here move)
          | inr other ↦ has q (omega (arith, less, other)) move
        ]

-- before the first mover is tried
pub moving_first : (D : DeskRelations) (script : List Command) (x : Explored) (pasts : List History) (K : List ℕ → Machine → Type 0) (n place : ℕ) (key : List ℕ) (levels : Walked) (rows : Rows)
    → IsGoing D script x pasts K n place levels rows → IsMoving D script x pasts pasts K K n place 0 key false levels rows
moving_first D script x pasts K n place key levels rows g = record { walks = g; moves = λ w l q less move. absurd (omega (arith, less)) }
