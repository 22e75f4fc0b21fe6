-- Level after level, to the end.
use Rattle.fw_explore_meaning.proofs.Common.{ℕ, ◌≡◌, ◌+◌, ◌<◌, List, [], length, inl, inr, refl, sym, ap}
use Rattle.fw_explore_meaning.proofs.Common.{subst, Command, Machine, DeskRelations, IsFunction, Entry, Walked, Explored, Rows, History, IsMove}
use Rattle.fw_explore_meaning.proofs.Common.{LeadsTo, Explores, Had, IsGoing}
use Rattle.fw_explore_levels.specs.Schedules.{IsOfLength}
use Rattle.fw_explore_meaning.specs.Walking.{IsWalking, IsAtLevel, IsWholeSo}
use Rattle.fw_explore_meaning.proofs.FinishLaws.{comes_one}
use Rattle.fw_explore_meaning.proofs.WalkingLaws.{walking_turns, some_schedule, whole_walk}
use Rattle.fw_explore_meaning.proofs.WholeRows.{explores_of}

module _ (D : DeskRelations) (script : List Command) (x : Explored) where
  -- what is known of a walk is not of the longest length
  pub other_longest : (P Q : List ℕ → List ℕ → Type 0) (n i p longest : ℕ) (levels : Walked) (rows : Rows) → IsWalking D script x P Q n i p levels rows
      → IsWalking D script x P Q n i p levels (record { list = rows.list; ended = rows.ended; cut = rows.cut; longest = longest })
  other_longest P Q n i p longest levels rows w = record { walk = w.walk; lines = w.lines }

  module _ (pasts : List History) (K : List ℕ → Machine → Type 0) where
    pub first_level : (levels : Walked) (rows : Rows) → IsGoing D script x pasts K 0 0 levels rows → IsAtLevel D script x pasts K 0 levels rows
    first_level levels rows w = record { walks = w; longest = inl refl }

    -- all places of a level were gone on from, and the next level is the one to go on from
    pub next_level : (pasts' : List History) (K' : List ℕ → Machine → Type 0) (n : ℕ) (levels levels2 levels3 : Walked) (rows rows2 : Rows) → IsAtLevel D script x pasts K n levels rows
        → 0 < length levels.level → IsGoing D script x pasts' K' n (length levels2.level) levels2 rows2 → rows2.longest ≡ n → levels3.level ≡ levels2.next → levels3.next ≡ []
        → IsAtLevel D script x pasts' K' (n + 1) levels3 rows2
    next_level pasts' K' n levels levels2 levels3 rows rows2 l some going longest level next =
        let none : Entry = record { key = []; ways = 0; first = [] } in
        let one = some_schedule D script x (LeadsTo D script x (Had pasts) K) (LeadsTo D script x (Had pasts) K) n 0 0 levels rows l.walks none some in
        record {
          walks = walking_turns D script x (LeadsTo D script x (Had pasts') K') (LeadsTo D script x (Had pasts') K') (LeadsTo D script x (Had pasts') K') n levels2 levels3 rows2 rows2 level next refl
              refl refl going;
          longest = inr (record { size = ap (λ k. k + 1) (sym longest); some = one.0; is = subst (λ k. IsOfLength (IsMove D script x) k one.0) (sym longest) one.1 });
        }

    -- no place is left
    pub whole_level : (n : ℕ) (levels : Walked) (rows : Rows) → IsAtLevel D script x pasts K n levels rows → levels.level ≡ [] → (n ≡ 0 → ⊥) → IsWholeSo D script x rows
    whole_level n levels rows l none some = elim l.longest [
      | inl e ↦ absurd (some e)
      | inr h ↦ whole_walk D script x (LeadsTo D script x (Had pasts) K) (LeadsTo D script x (Had pasts) K) n rows.longest levels rows none h.size refl (h.some, h.is) l.walks
    ]

  -- what is told then
  pub whole_told : IsFunction D → (rows : Rows) → IsWholeSo D script x rows → Explores D script x rows.list.items rows.ended rows.cut rows.longest
  whole_told only rows w = explores_of D script x (comes_one D script only x) rows.list.items (record { ended = rows.ended; cut = rows.cut }) w.whole w.lines rows.longest w.bounded w.reached.0
      w.reached.1 w.reached.2
