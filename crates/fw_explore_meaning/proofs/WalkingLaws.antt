-- A walk that is under way goes on: at a move, by a mover that does not move, after a place with a move, after one without, and to the next level.
use Rattle.fw_explore_meaning.proofs.Common.{ℕ, suc, ◌≡◌, ◌+◌, ◌<◌, ◌≤◌, ◌++◌, List, [], ◌∷◌, Bool, true, false, Option, Some}
use Rattle.fw_explore_meaning.proofs.Common.{None, length, get_or, min, map, inl, inr, refl, sym, ap, subst, ◌∙◌, arith, All}
use Rattle.fw_explore_meaning.proofs.Common.{Command, most_told, Entry, IsReached, Walked, DeskRelations, IsFunction, Mover, Row, Rows, Explored, IsMover, IsMove, IsCutOff, Comes, HasLines, tallies}
use Rattle.std.proofs.Common.{if◌then◌else◌, ◌⊎◌}
use Rattle.std.proofs.Common.{slice_get}
use Rattle.std.proofs.lemmas.List.{length_push}
use Rattle.fw_explore_levels.specs.Counting.{Counts}
use Rattle.fw_explore_levels.specs.Schedules.{Schedule, and_then, Interleaving, IsOfLength}
use Rattle.fw_explore_levels.specs.Walks.{StandsAt, IsAt}
use Rattle.fw_explore_levels.specs.Whole.{Keyed, TwoRows, Totals, Walk}
use Rattle.fw_explore_levels.proofs.TableLaws.{HasOneKey}
use Rattle.fw_explore_levels.proofs.RowLaws.{ended_all}
use Rattle.fw_explore_levels.proofs.WholeLaws.{walk_on, walk_by, walk_leaves, walk_rests, walk_turns, walk_wider, walk_is_whole, cut_ways, cut_none, ended_ways, ended_none}
use Rattle.fw_explore_meaning.specs.Finishing.{IsCut}
use Rattle.fw_explore_meaning.specs.Walking.{IsWalking, IsWholeSo, MovesBelow}
use Rattle.std.proofs.lemmas.Option.{slice_get_within}

module _ (D : DeskRelations) (script : List Command) (x : Explored) where
  pub bound : (w : List ℕ) (q : ℕ) → IsMove D script x w q → q < length x.movers.items
  bound w q m = slice_get_within x.movers.items q m.mover m.is

  module _ (P : List ℕ → List ℕ → Type 0) (n place : ℕ) (levels : Walked) (e : Entry) (within : place < length levels.level) (at : get_or levels.level place e ≡ e) where
    stands : StandsAt levels.level place e
    stands = record { within = within; at = at }

    abbrev totals_of : Rows → Totals
    totals_of rows = record { ended = rows.ended; cut = rows.cut }

    -- a move of all schedules of the place
    pub walking_on : (Q Q' : List ℕ → List ℕ → Type 0) (rows : Rows) (p : ℕ) (key : List ℕ) (levels' : Walked) → levels'.level ≡ levels.level → ((w k : List ℕ) → Q w k → Q' w k)
        → ((w : List ℕ) → P w e.key → IsMove D script x w p × Q' (w ++ p ∷ []) key) → IsReached levels.next levels'.next key e.ways (e.first ++ p ∷ []) → IsWalking D script x P Q n place p levels rows
        → IsWalking D script x P Q' n place (p + 1) levels' rows
    walking_on Q Q' rows p key levels' same wider on reached i = record {
      walk = subst (λ l. Walk (IsMove D script x) P Q' (Comes D script x) (IsCutOff D script x) n l place (p + 1) levels'.next (tallies rows.list.items) (totals_of rows)) (sym same)
          (walk_on (IsMove D script x) P Q' (Comes D script x) (IsCutOff D script x) n levels.level place e stands (tallies rows.list.items) (totals_of rows) p key levels.next levels'.next (λ w l h.
          on w h) reached
          (walk_wider (IsMove D script x) P P Q Q' (Comes D script x) (IsCutOff D script x) n levels.level place p levels.next (tallies rows.list.items) (totals_of rows) (λ w k h. h) wider i.walk));
      lines = i.lines;
    }

    -- a move of none
    pub walking_by : (Q Q' : List ℕ → List ℕ → Type 0) (rows : Rows) (p : ℕ) → ((w k : List ℕ) → Q w k → Q' w k) → ((w : List ℕ) → P w e.key → IsMove D script x w p → ⊥)
        → IsWalking D script x P Q n place p levels rows
        → IsWalking D script x P Q' n place (p + 1) levels rows
    walking_by Q Q' rows p wider never i = record {
      walk = walk_by (IsMove D script x) P Q' (Comes D script x) (IsCutOff D script x) n levels.level place e stands (tallies rows.list.items) (totals_of rows) p levels.next (λ w l h. never w h)
          (walk_wider (IsMove D script x) P P Q Q' (Comes D script x) (IsCutOff D script x) n levels.level place p levels.next (tallies rows.list.items) (totals_of rows) (λ w k h. h) wider i.walk);
      lines = i.lines;
    }

    module _ (Q : List ℕ → List ℕ → Type 0) (rows : Rows) (i : IsWalking D script x P Q n place (length x.movers.items) levels rows) where
      -- all movers were tried, and some moved
      pub walking_leaves : ((w : List ℕ) → P w e.key → MovesBelow D script x w (length x.movers.items) true) → IsWalking D script x P Q n (place + 1) 0 levels rows
      walking_leaves has = record {
        walk = walk_leaves (IsMove D script x) P Q (Comes D script x) (IsCutOff D script x) n levels.level place e stands (tallies rows.list.items) (totals_of rows) (length x.movers.items) bound
            levels.next i.walk (λ w l h. has w h);
        lines = i.lines;
      }

      -- or none did: what ends there
      pub walking_rests : (one : HasOneKey (Comes D script x)) → ((w : List ℕ) → P w e.key → MovesBelow D script x w (length x.movers.items) false)
          → (rows' : Rows) (ending first : List ℕ) (cut : Bool)
          → ((w : List ℕ) → P w e.key → Comes D script x w ending) → ((w : List ℕ) → P w e.key → IsCut D script x w cut) → first ≡ e.first
          → IsReached (tallies rows.list.items).ended (tallies rows'.list.items).ended ending (if cut then 0 else e.ways) first
          → IsReached (tallies rows.list.items).cut (tallies rows'.list.items).cut ending (if cut then e.ways else 0) first
          → rows'.ended ≡ min most_told (rows.ended + (if cut then 0 else e.ways)) → rows'.cut ≡ min most_told (rows.cut + (if cut then e.ways else 0))
          → All (HasLines D script x) rows'.list.items → IsWalking D script x P Q n (place + 1) 0 levels rows'
      walking_rests one never rows' ending first true comes cuts firsts ended_is cut_is all_ended all_cut lines = record {
        walk = subst (λ t. Walk (IsMove D script x) P Q (Comes D script x) (IsCutOff D script x) n levels.level (place + 1) 0 levels.next (tallies rows'.list.items) t) (λ j. record {
          ended = sym
              all_ended j;
          cut = sym all_cut j;
        })
            (walk_rests (IsMove D script x) P Q (Comes D script x) (IsCutOff D script x) n levels.level place e stands (tallies rows.list.items) (totals_of rows) (length x.movers.items) bound
            levels.next i.walk one
            (λ w l h q m. never w h q (bound w q m) m) ending (λ w l h. comes w h) 0 e.ways
            (cut_none (IsMove D script x) P Q (Comes D script x) (IsCutOff D script x) n levels.level place e stands (tallies rows.list.items) (totals_of rows) (
              length x.movers.items,
              levels.next,
              i.walk,
            ) (λ w l h. cuts w h))
            (cut_ways (IsMove D script x) P Q (Comes D script x) (IsCutOff D script x) n levels.level place e stands (tallies rows.list.items) (totals_of rows) (
              length x.movers.items,
              levels.next,
              i.walk,
            ) (λ w l h. cuts w h))
            (tallies rows'.list.items) (subst (IsReached (tallies rows.list.items).ended (tallies rows'.list.items).ended ending 0) firsts ended_is)
            (subst (IsReached (tallies rows.list.items).cut (tallies rows'.list.items).cut ending e.ways) firsts cut_is));
        lines = lines;
      }
      walking_rests one never rows' ending first false comes cuts firsts ended_is cut_is all_ended all_cut lines = record {
        walk = subst (λ t. Walk (IsMove D script x) P Q (Comes D script x) (IsCutOff D script x) n levels.level (place + 1) 0 levels.next (tallies rows'.list.items) t) (λ j. record {
          ended = sym
              all_ended j;
          cut = sym all_cut j;
        })
            (walk_rests (IsMove D script x) P Q (Comes D script x) (IsCutOff D script x) n levels.level place e stands (tallies rows.list.items) (totals_of rows) (length x.movers.items) bound
            levels.next i.walk one
            (λ w l h q m. never w h q (bound w q m) m) ending (λ w l h. comes w h) e.ways 0
            (ended_ways (IsMove D script x) P Q (Comes D script x) (IsCutOff D script x) n levels.level place e stands (tallies rows.list.items) (totals_of rows) (
              length x.movers.items,
              levels.next,
              i.walk,
            ) (λ w l h. cuts w h))
            (ended_none (IsMove D script x) P Q (Comes D script x) (IsCutOff D script x) n levels.level place e stands (tallies rows.list.items) (totals_of rows) (
              length x.movers.items,
              levels.next,
              i.walk,
            ) (λ w l h. cuts w h))
            (tallies rows'.list.items) (subst (IsReached (tallies rows.list.items).ended (tallies rows'.list.items).ended ending e.ways) firsts ended_is)
            (subst (IsReached (tallies rows.list.items).cut (tallies rows'.list.items).cut ending 0) firsts cut_is));
        lines = lines;
      }

  -- what a key of the level stands for may be told in more words
  pub walking_wider : (P P' Q : List ℕ → List ℕ → Type 0) (n i p : ℕ) (levels : Walked) (rows : Rows) → ((w k : List ℕ) → P w k → P' w k) → IsWalking D script x P Q n i p levels rows
      → IsWalking D script x P' Q n i p levels rows
  walking_wider P P' Q n i p levels rows wider w = record {
    walk = walk_wider (IsMove D script x) P P' Q Q (Comes D script x) (IsCutOff D script x) n levels.level i p levels.next (tallies rows.list.items) (record { ended = rows.ended; cut = rows.cut })
        wider (λ v k h. h) w.walk;
    lines = w.lines;
  }

  -- ---- from level to level

  -- all places were gone on from: the next level is the one to go on from
  pub walking_turns : (P Q R : List ℕ → List ℕ → Type 0) (n : ℕ) (levels levels' : Walked) (rows rows' : Rows) → levels'.level ≡ levels.next → levels'.next ≡ [] → rows'.list ≡ rows.list
      → rows'.ended ≡ rows.ended
      → rows'.cut ≡ rows.cut → IsWalking D script x P Q n (length levels.level) 0 levels rows → IsWalking D script x Q R (n + 1) 0 0 levels' rows'
  walking_turns P Q R n levels levels' rows rows' level next list ended cut i = record {
    walk =
        let w = walk_turns (IsMove D script x) P Q (Comes D script x) (IsCutOff D script x) n levels.level (tallies rows.list.items) (record { ended = rows.ended; cut = rows.cut }) levels.next R
        i.walk in
        let W : List Entry → List Entry → TwoRows → Totals → Type 0 = λ l m t s. Walk (IsMove D script x) Q R (Comes D script x) (IsCutOff D script x) (n + 1) l 0 0 m t s in
        subst (λ l. W l levels'.next (tallies rows'.list.items) (record { ended = rows'.ended; cut = rows'.cut })) (sym level)
        (subst (λ m. W levels.next m (tallies rows'.list.items) (record { ended = rows'.ended; cut = rows'.cut })) (sym next)
        (subst (λ t. W levels.next [] (tallies t.items) (record { ended = rows'.ended; cut = rows'.cut })) (sym list)
        (subst (λ s. W levels.next [] (tallies rows.list.items) s) (λ j. record { ended = sym ended j; cut = sym cut j }) w)));
    lines = subst (λ t. All (HasLines D script x) t.items) (sym list) i.lines;
  }

  -- a schedule of the length of a level that has a place
  pub some_schedule : (P Q : List ℕ → List ℕ → Type 0) (n i p : ℕ) (levels : Walked) (rows : Rows) → IsWalking D script x P Q n i p levels rows → (d : Entry) → 0 < length levels.level
      → (w : List ℕ) × IsOfLength (IsMove D script x) n w
  some_schedule P Q n i p levels rows walking d some = let e = walking.walk.level_is.each 0 d some in ((get_or levels.level 0 d).first, e.is)

  -- no place is left
  pub whole_walk : (P Q : List ℕ → List ℕ → Type 0) (n longest : ℕ) (levels : Walked) (rows : Rows) → levels.level ≡ [] → n ≡ longest + 1 → rows.longest ≡ longest
      → ((w : List ℕ) × IsOfLength (IsMove D script x) longest w) → IsWalking D script x P Q n 0 0 levels rows → IsWholeSo D script x rows
  whole_walk P Q n longest levels rows none size told last i =
      let M = IsMove D script x in
      let walk : Walk M P Q (Comes D script x) (IsCutOff D script x) n [] 0 0 levels.next (tallies rows.list.items) (record { ended = rows.ended; cut = rows.cut }) =
      subst (λ l. Walk M P Q (Comes D script x) (IsCutOff D script x) n l 0 0 levels.next (tallies rows.list.items) (record { ended = rows.ended; cut = rows.cut })) none i.walk in
      let all = ended_all M (Keyed walk.keys) n walk.level_is in
      record {
        whole = walk_is_whole M P Q (Comes D script x) (IsCutOff D script x) n levels.next (tallies rows.list.items) (record { ended = rows.ended; cut = rows.cut }) walk;
        lines = i.lines;
        bounded = λ w is. elim ((all w).1 is).passed [ inl less ↦ omega (arith, less, size, told) | inr at ↦ absurd (let h = at.3 in omega (arith, h)) ];
        reached = (last.0, record { schedule = last.1.schedule; last = λ p m. longer walk last.0 last.1 p m }, last.1.size ∙ sym told);
      }
    where
      longer : Walk (IsMove D script x) P Q (Comes D script x) (IsCutOff D script x) n [] 0 0 levels.next (tallies rows.list.items) (record { ended = rows.ended; cut = rows.cut })
          → (w : List ℕ) → IsOfLength (IsMove D script x) longest w → (p : ℕ) → IsMove D script x w p → ⊥
      longer walk w is p m =
          let a = walk.level_is.whole (w ++ p ∷ []) (record { schedule = and_then is.schedule p m; size = length_push w p ∙ ap (λ k. k + 1) is.size ∙ sym size }) in
          let h = a.2 in omega (arith, h)
