-- The movers of a place, one after the other, and the places of a level: as they are tried.
use Rattle.fw_explore_meaning.proofs.Common.{ℕ, zero, suc, ◌≡◌, ◌+◌, ◌<◌, List, [], ◌∷◌, ◌++◌, Bool, true, false}
use Rattle.fw_explore_meaning.proofs.Common.{IsFalse, get_or, length, min, refl, sym, ap, subst, ◌∙◌, arith, Command, Machine, words_of}
use Rattle.fw_explore_meaning.proofs.Common.{DeskRelations, IsFunction, Entry, IsReached, Walked, Row, Rows, most_told, Explored, History, LeadsAt, Had, IsPlacedKey, IsWiderBy, IsGoing}
use Rattle.std.proofs.Common.{if◌then◌else◌}
use Rattle.std.proofs.lemmas.List.{get_or_default}
use Rattle.fw_explore_endings.specs.Tallies.{KeepsLast, ended_entries, cut_entries}
use Rattle.fw_explore_meaning.specs.Steps.{Steps, IsPlaced}
use Rattle.fw_explore_meaning.specs.Walking.{ArePlaced, IsMoving}
use Rattle.fw_explore_meaning.proofs.MoveLaws.{all_wider, placed_reached, moving_first, moving_on, moving_by}
use Rattle.fw_explore_meaning.specs.Finishing.{IsCut, IsFinished}
use Rattle.fw_explore_meaning.proofs.RestLaws.{rests}

pub no_entry : Entry
no_entry = record { key = []; ways = 0; first = [] }

-- what is kept is as wide as itself, and widens step by step
pub as_wide : (H : ℕ → History → Type 0) (K : List ℕ → Machine → Type 0) → IsWiderBy H H K K
as_wide H K = record { pasts = λ n past h. h; machines = λ words m k. k }

pub wider_still : (H1 H2 H3 : ℕ → History → Type 0) (K1 K2 K3 : List ℕ → Machine → Type 0) → IsWiderBy H1 H2 K1 K2 → IsWiderBy H2 H3 K2 K3 → IsWiderBy H1 H3 K1 K3
wider_still H1 H2 H3 K1 K2 K3 a b = record {
  pasts = λ n past h. b.pasts n past (a.pasts n past h);
  machines = λ words m k. b.machines words m (a.machines words m k);
}

-- a place is one still
pub place_wider : (H H' : ℕ → History → Type 0) (K K' : List ℕ → Machine → Type 0) (here here' : List ℕ) → IsWiderBy H H' K K' → here' ≡ here → IsPlaced H K here → IsPlaced H' K' here'
place_wider H H' K K' here here' more same p = record {
  past_at = p.past_at;
  half = p.half;
  machine_at = p.machine_at;
  words_are = same ∙ p.words_are;
  past = p.past;
  had = more.pasts p.past_at p.past p.had;
  machine = p.machine;
  kept = more.machines p.machine_at p.machine p.kept;
}

-- an entry of a level that is the same
pub entry_still : (level level' : List Entry) (place : ℕ) (d : Entry) → place < length level → level' ≡ level → get_or level' place (get_or level place d) ≡ get_or level place d
entry_still level level' place d less same = ap (λ l. get_or l place (get_or level place d)) same ∙ get_or_default level place (get_or level place d) d less

module _ {P : Type 0} (Kept : P → List ℕ → Machine → Type 0) where
  -- a place is told by what is kept, however that is named
  pub at_still : (D : DeskRelations) (script : List Command) (x : Explored) (pasts pasts' : List History) (places places' : P) (here here' w : List ℕ) → pasts' ≡ pasts → places' ≡ places
      → here' ≡ here
      → LeadsAt D script x (Had pasts) (Kept places) w here → LeadsAt D script x (Had pasts') (Kept places') w here'
  at_still D script x pasts pasts' places places' here here' w e f g l =
      subst (λ z. LeadsAt D script x (Had z) (Kept places') w here') (sym e)
      (subst (λ z. LeadsAt D script x (Had pasts) (Kept z) w here') (sym f) (subst (λ z. LeadsAt D script x (Had pasts) (Kept places) w z) (sym g) l))

  pub placed_still : (pasts pasts' : List History) (places places' : P) (here here' : List ℕ) → pasts' ≡ pasts → places' ≡ places → here' ≡ here
      → IsPlaced (Had pasts) (Kept places) here → IsPlaced (Had pasts') (Kept places') here'
  placed_still pasts pasts' places places' here here' e f g l =
      subst (λ z. IsPlaced (Had z) (Kept places') here') (sym e) (subst (λ z. IsPlaced (Had pasts) (Kept z) here') (sym f) (subst (λ z. IsPlaced (Had pasts) (Kept places) z) (sym g) l))

  pub all_still : (pasts pasts' : List History) (places places' : P) (entries : List Entry) → pasts' ≡ pasts → places' ≡ places
      → ArePlaced (Had pasts) (Kept places) entries → ArePlaced (Had pasts') (Kept places') entries
  all_still pasts pasts' places places' entries e f l = subst (λ z. ArePlaced (Had z) (Kept places') entries) (sym e) (subst (λ z. ArePlaced (Had pasts) (Kept z) entries) (sym f) l)

  -- ---- the movers of a place

  -- Those below p were tried: what was kept, the level and the rows before the first of them, and as they are now.
  pub record IsTrying (D : DeskRelations) (x : Explored) (place : ℕ) (pasts0 : List History) (places0 : P) (levels0 : Walked) (rows0 : Rows) (p : ℕ) (pasts : List History) (places : P) (levels :
      Walked)
      (rows : Rows) (moved : Bool) : Type 0 where
    pub level : levels.level ≡ levels0.level
    pub next : ArePlaced (Had pasts) (Kept places) levels.next
    pub wider : IsWiderBy (Had pasts0) (Had pasts) (Kept places0) (Kept places)
    pub still : IsFalse moved → (pasts ≡ pasts0) × (places ≡ places0)
    pub walks : (script : List Command) (n : ℕ) (d : Entry) → IsFunction D → IsGoing D script x pasts0 (Kept places0) n place levels0 rows0
        → IsMoving D script x pasts0 pasts (Kept places0) (Kept places) n place p (get_or levels0.level place d).key moved levels rows

  module _ (D : DeskRelations) (x : Explored) (place : ℕ) (pasts0 : List History) (places0 : P) (levels0 : Walked) (rows0 : Rows) (here : List ℕ) (within : place < length levels0.level)
      (read : (d : Entry) → words_of (get_or levels0.level place d).key ≡ here) where
    pub trying_first : ArePlaced (Had pasts0) (Kept places0) levels0.next → IsTrying D x place pasts0 places0 levels0 rows0 0 pasts0 places0 levels0 rows0 false
    trying_first next = record {
      level = refl;
      next = next;
      wider = as_wide (Had pasts0) (Kept places0);
      still = λ f. (refl, refl);
      walks = λ script n d only g. moving_first D script x pasts0 (Kept places0) n place (get_or levels0.level place d).key levels0 rows0 g;
    }

    module _ (p : ℕ) (pasts1 pasts2 : List History) (places1 places2 : P) (levels1 : Walked) (rows1 : Rows) (moved : Bool) (t : IsTrying D x place pasts0 places0 levels0 rows0 p pasts1 places1
        levels1 rows1 moved)
        (to : List ℕ) where
      inside : place < length levels1.level
      inside = subst (λ l. place < length l) (sym t.level) within

      from_at : (d : Entry) → get_or levels1.level place (get_or levels0.level place d) ≡ get_or levels0.level place d
      from_at d = entry_still levels0.level levels1.level place d within t.level

      -- the mover moves
      pub trying_on : (newer : IsWiderBy (Had pasts1) (Had pasts2) (Kept places1) (Kept places2))
          → ((script : List Command) (w : List ℕ) → IsFunction D → LeadsAt D script x (Had pasts1) (Kept places1) w here → Steps D script x (Had pasts2) (Kept places2) w p to true)
          → IsPlacedKey (Had pasts2) (Kept places2) to → (levels2 : Walked) → levels2.level ≡ levels1.level
          → ((d : Entry) → IsReached levels1.next levels2.next to (get_or levels1.level place d).ways ((get_or levels1.level place d).first ++ p ∷ []))
          → IsTrying D x place pasts0 places0 levels0 rows0 (p + 1) pasts2 places2 levels2 rows1 true
      trying_on newer steps placed levels2 same reached = record {
        level = same ∙ t.level;
        next = placed_reached (Had pasts2) (Kept places2) levels1.next levels2.next to (get_or levels1.level place no_entry).ways ((get_or levels1.level place no_entry).first ++ p ∷ []) (reached
            no_entry) placed
            (all_wider (Had pasts1) (Had pasts2) (Kept places1) (Kept places2) levels1.next newer t.next);
        wider = wider_still (Had pasts0) (Had pasts1) (Had pasts2) (Kept places0) (Kept places1) (Kept places2) t.wider newer;
        still = λ f. absurd (cc f);
        walks = λ script n d only g.
            let e = get_or levels0.level place d in
            moving_on D script x pasts0 pasts1 pasts2 (Kept places0) (Kept places1) (Kept places2) t.wider newer e.key here to (read d) p true (λ w l. steps script w only l) n place levels1 rows1 e
            inside
            (from_at d) refl moved (t.walks script n d only g) levels2 same
            (subst (λ (z : Entry). IsReached levels1.next levels2.next to z.ways (z.first ++ p ∷ [])) (from_at d) (reached e)) refl;
      }

      -- it does not
      pub trying_by : (newer : IsWiderBy (Had pasts1) (Had pasts2) (Kept places1) (Kept places2))
          → ((script : List Command) (w : List ℕ) → IsFunction D → LeadsAt D script x (Had pasts1) (Kept places1) w here → Steps D script x (Had pasts2) (Kept places2) w p to false)
          → (pasts2 ≡ pasts1) × (places2 ≡ places1) → IsTrying D x place pasts0 places0 levels0 rows0 (p + 1) pasts2 places2 levels1 rows1 moved
      trying_by newer steps same = record {
        level = t.level;
        next = all_wider (Had pasts1) (Had pasts2) (Kept places1) (Kept places2) levels1.next newer t.next;
        wider = wider_still (Had pasts0) (Had pasts1) (Had pasts2) (Kept places0) (Kept places1) (Kept places2) t.wider newer;
        still = λ f. (same.0 ∙ (t.still f).0, same.1 ∙ (t.still f).1);
        walks = λ script n d only g.
            let e = get_or levels0.level place d in
            moving_by D script x pasts0 pasts1 pasts2 (Kept places0) (Kept places1) (Kept places2) t.wider newer e.key here to (read d) p false (λ w l. steps script w only l) n place levels1 rows1 e
            inside
            (from_at d) refl moved (t.walks script n d only g) refl;
      }

  -- ---- all were tried

  -- none moved, so nothing more was kept
  pub moved_none : (D : DeskRelations) (script : List Command) (x : Explored) (pasts pasts1 : List History) (places places1 : P) (n place p : ℕ) (key : List ℕ) (levels : Walked) (rows : Rows)
      → (pasts1 ≡ pasts) × (places1 ≡ places) → IsMoving D script x pasts pasts1 (Kept places) (Kept places1) n place p key false levels rows
      → IsMoving D script x pasts1 pasts1 (Kept places1) (Kept places1) n place p key false levels rows
  moved_none D script x pasts pasts1 places places1 n place p key levels rows same m =
      subst (λ z. IsMoving D script x z pasts1 (Kept places1) (Kept places1) n place p key false levels rows) (sym same.0)
      (subst (λ z. IsMoving D script x pasts pasts1 (Kept z) (Kept places1) n place p key false levels rows) (sym same.1) m)

  -- a place without a move, whose ending was found: the row has it
  module _ (D : DeskRelations) (script : List Command) (x : Explored) (only : IsFunction D) (n place : ℕ) (d : Entry) (pasts pasts1 pasts2 : List History) (places places1 places2 : P) (here here1 :
      List ℕ)
      (levels : Walked) (rows : Rows) (within : place < length levels.level) (read : (e : Entry) → words_of (get_or levels.level place e).key ≡ here)
      (m : IsMoving D script x pasts pasts (Kept places) (Kept places) n place (length x.movers.items) (get_or levels.level place d).key false levels rows)
      (pasts_then : pasts1 ≡ pasts) (places_then : places1 ≡ places) (here_then : here1 ≡ here) (pasts_now : pasts2 ≡ pasts1) (places_now : places2 ≡ places1) where
    pub ends_so : (cut : Bool) → ((w : List ℕ) → LeadsAt D script x (Had pasts) (Kept places) w here → IsCut D script x w cut)
        → (row : Row) → ((w : List ℕ) → LeadsAt D script x (Had pasts1) (Kept places1) w here1 → IsFinished D script x w row.ending.items row.lines.items)
        → ((e : Entry) → row.first.items ≡ (get_or levels.level place e).first) → (rows' : Rows) → row.ended ≡ (if cut then 0 else (get_or levels.level place d).ways)
        → row.cut ≡ (if cut then (get_or levels.level place d).ways else 0)
        → IsReached (ended_entries rows.list.items) (ended_entries rows'.list.items) row.ending.items row.ended row.first.items
        → IsReached (cut_entries rows.list.items) (cut_entries rows'.list.items) row.ending.items row.cut row.first.items
        → KeepsLast rows.list.items rows'.list.items row → rows'.ended ≡ min most_told (rows.ended + row.ended) → rows'.cut ≡ min most_told (rows.cut + row.cut)
        → IsGoing D script x pasts2 (Kept places2) n (place + 1) levels rows'
    ends_so cut cuts row finish first rows' ended_is cut_is reached_ended reached_cut keeps all_ended all_cut =
        let e = get_or levels.level place d in
        subst (λ z. IsGoing D script x z (Kept places2) n (place + 1) levels rows') (sym (pasts_now ∙ pasts_then))
        (subst (λ z. IsGoing D script x pasts (Kept z) n (place + 1) levels rows') (sym (places_now ∙ places_then))
        (rests D script x pasts pasts (Kept places) (Kept places) (as_wide (Had pasts) (Kept places)) e.key here (read d) n place levels rows e within (get_or_default levels.level place e d within)
        refl
        only m cut cuts row (λ w l. finish w (at_still D script x pasts pasts1 places places1 here here1 w pasts_then places_then here_then l)) (first d) rows' ended_is cut_is reached_ended
        reached_cut keeps all_ended
        all_cut))
