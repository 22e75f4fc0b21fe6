-- A place without a move: its schedules are interleavings, and their ending is a row.
use Rattle.fw_explore_meaning.proofs.Common.{ℕ, ◌≡◌, ◌+◌, ◌<◌, List, [], ◌∷◌, ◌++◌, Bool, true, false, get_or, map, min, length, inl, inr, refl, sym, ap, subst, ◌∙◌, All, Command, Machine, words_of}
use Rattle.fw_explore_meaning.proofs.Common.{DeskRelations, IsFunction, most_told, Entry, IsReached, Walked, Explored, Line, History}
use Rattle.fw_explore_meaning.proofs.Common.{Row, Rows, tallies, IsMove, LeadsAt, LeadsTo, HasLines, Had, IsWiderBy}
use Rattle.fw_explore_meaning.proofs.Common.{IsGoing}
use Rattle.std.proofs.Common.{if◌then◌else◌}
use Rattle.std.proofs.lemmas.List.{length-map, get_or-map}
use Rattle.std.proofs.lemmas.List.Elements.{All-push, All-map}
use Rattle.fw_explore_levels.specs.Schedules.{IsOfLength}
use Rattle.fw_explore_levels.specs.Whole.{Keyed}
use Rattle.fw_explore_told.specs.Sayings.{lines_text}
use Rattle.fw_explore_endings.specs.Tallies.{Telling, telling_of, KeepsLast}
use Rattle.fw_explore_meaning.specs.Endings.{EndsWith}
use Rattle.fw_explore_meaning.specs.Finishing.{IsCut, IsFinished}
use Rattle.fw_explore_meaning.specs.Walking.{IsMoving, IsWalking}
use Rattle.fw_explore_meaning.proofs.FinishLaws.{comes_one}
use Rattle.fw_explore_meaning.proofs.PlaceLaws.{leads_at, leads_wider}
use Rattle.fw_explore_meaning.proofs.WalkingLaws.{walking_leaves, walking_rests, walking_wider}

-- ---- the lines of rows

module _ (D : DeskRelations) (script : List Command) (x : Explored) where
  record TellsSo (t : Telling) : Type 0 where
    pub kept : List Line
    pub ends : EndsWith D script x t.first t.ending kept
    pub lines : t.lines ≡ lines_text kept

  so_told : (rows : List Row) → All (HasLines D script x) rows → All TellsSo (map telling_of rows)
  so_told rows all = All-map TellsSo telling_of rows (λ k d less. let h = all k d less in record { kept = h.kept; ends = h.ends; lines = h.lines })

  so_lines : (rows : List Row) → All TellsSo (map telling_of rows) → All (HasLines D script x) rows
  so_lines rows all = λ k d less.
      let h = subst TellsSo (get_or-map telling_of rows k d (telling_of d) less) (all k (telling_of d) (subst (λ n. k < n) (sym (length-map rows telling_of)) less)) in
      record { kept = h.kept; ends = h.ends; lines = h.lines }

  -- with one more row the lines of each are told right
  pub lines_kept : (old new : List Row) (row : Row) → KeepsLast old new row → HasLines D script x row → All (HasLines D script x) old → All (HasLines D script x) new
  lines_kept old new row (inl same) h all = so_lines new (subst (All TellsSo) (sym same) (so_told old all))
  lines_kept old new row (inr more) h all =
      so_lines new (subst (All TellsSo) (sym more) (All-push TellsSo (map telling_of old) (telling_of row) (so_told old all) (record { kept = h.kept; ends = h.ends; lines = h.lines })))

-- ---- the place

module _ (D : DeskRelations) (script : List Command) (x : Explored) (pasts pasts1 : List History) (K K1 : List ℕ → Machine
    → Type 0) (older : IsWiderBy (Had pasts) (Had pasts1) K K1) (key here : List ℕ)
    (read : words_of key ≡ here) (n place : ℕ) (levels : Walked) (rows : Rows) (e : Entry) (within : place < length levels.level) (at : get_or levels.level place e ≡ e) (key_is : e.key ≡ key) where
  leads_here : (w : List ℕ) → LeadsTo D script x (Had pasts) K w e.key → LeadsAt D script x (Had pasts1) K1 w here
  leads_here w l = subst (LeadsAt D script x (Had pasts1) K1 w) read
      (leads_at D script x (Had pasts1) K1 w key (leads_wider D script x (Had pasts) (Had pasts1) K K1 older.pasts older.machines w key (subst (LeadsTo D script x (Had pasts) K w) key_is l)))

  -- the keys of the level are told by what is kept now
  now : (levels' : Walked) (rows' : Rows) → IsWalking D script x (LeadsTo D script x (Had pasts) K) (LeadsTo D script x (Had pasts1) K1) n (place + 1) 0 levels' rows'
      → IsGoing D script x pasts1 K1 n (place + 1) levels' rows'
  now levels' rows' w = walking_wider D script x (LeadsTo D script x (Had pasts) K) (LeadsTo D script x (Had pasts1) K1) (LeadsTo D script x (Had pasts1) K1) n (place + 1) 0 levels' rows'
      (λ v k l. leads_wider D script x (Had pasts) (Had pasts1) K K1 older.pasts older.machines v k l) w

  -- some mover moved
  pub leaves : IsMoving D script x pasts pasts1 K K1 n place (length x.movers.items) key true levels rows → IsGoing D script x pasts1 K1 n (place + 1) levels rows
  leaves m = now levels rows (walking_leaves D script x (LeadsTo D script x (Had pasts) K) n place levels e within at (LeadsTo D script x (Had pasts1) K1) rows m.walks
      (λ w l. m.moves w (subst (LeadsTo D script x (Had pasts) K w) key_is l)))

  -- none did: the row of its ending was reached
  module _ (only : IsFunction D) (m : IsMoving D script x pasts pasts1 K K1 n place (length x.movers.items) key false levels rows) (cut : Bool)
      (cuts : (w : List ℕ) → LeadsAt D script x (Had pasts1) K1 w here → IsCut D script x w cut) (row : Row) (finish : (w : List ℕ) → LeadsAt D script x (Had pasts1) K1 w here
      → IsFinished D script x w row.ending.items row.lines.items) (first : row.first.items ≡ e.first) where
    -- the first schedule of the place leads there
    first_leads : LeadsTo D script x (Had pasts) K e.first e.key
    first_leads =
        let h = m.walks.walk.level_is.each place e within in
        let leads = subst (λ (z : Entry). Keyed m.walks.walk.keys z.first z.key) at h.leads in
        let is = subst (λ (z : Entry). IsOfLength (IsMove D script x) n z.first) at h.is in
        m.walks.walk.right e.first e.key is leads

    pub rests : (rows' : Rows) → row.ended ≡ (if cut then 0 else e.ways) → row.cut ≡ (if cut then e.ways else 0)
        → IsReached (tallies rows.list.items).ended (tallies rows'.list.items).ended row.ending.items row.ended row.first.items
        → IsReached (tallies rows.list.items).cut (tallies rows'.list.items).cut row.ending.items row.cut row.first.items
        → KeepsLast rows.list.items rows'.list.items row → rows'.ended ≡ min most_told (rows.ended + row.ended) → rows'.cut ≡ min most_told (rows.cut + row.cut)
        → IsGoing D script x pasts1 K1 n (place + 1) levels rows'
    rests rows' ended_is cut_is reached_ended reached_cut keeps all_ended all_cut =
        now levels rows' (walking_rests D script x (LeadsTo D script x (Had pasts) K) n place levels e within at (LeadsTo D script x (Had pasts1) K1) rows m.walks (comes_one D script only x)
        (λ w l. m.moves w (subst (LeadsTo D script x (Had pasts) K w) key_is l)) rows' row.ending.items row.first.items cut
        (λ w l. let f = finish w (leads_here w l) in record { kept = f.kept; ends = f.ends }) (λ w l. cuts w (leads_here w l)) first
        (subst (λ z. IsReached (tallies rows.list.items).ended (tallies rows'.list.items).ended row.ending.items z row.first.items) ended_is reached_ended)
        (subst (λ z. IsReached (tallies rows.list.items).cut (tallies rows'.list.items).cut row.ending.items z row.first.items) cut_is reached_cut)
        (all_ended ∙ ap (λ z. min most_told (rows.ended + z)) ended_is) (all_cut ∙ ap (λ z. min most_told (rows.cut + z)) cut_is)
        (lines_kept D script x rows.list.items rows'.list.items row keeps lines m.walks.lines))
      where
        lines : HasLines D script x row
        lines =
            let f = finish e.first (leads_here e.first first_leads) in
            record { kept = f.kept; ends = subst (λ z. EndsWith D script x z row.ending.items f.kept) (sym first) f.ends; lines = f.is }
