-- A walk as it is carried out: what is known of it between two steps.
use Rattle.std.specs.Prelude.{ℕ, ◌≡◌, ◌+◌, ◌<◌, ◌≤◌, ◌⊎◌, List, Bool, true, false, length}
use Rattle.std.specs.List.{All}
use Rattle.fw_script_command.specs.declared.command.Command.{Command}
use Rattle.fw_explore_levels.specs.Schedules.{Interleaving, IsOfLength}
use Rattle.fw_explore_levels.specs.Tables.{Entry}
use Rattle.fw_explore_levels.specs.Walked.{Walked}
use Rattle.fw_explore_levels.specs.Whole.{Walk, Whole}
use Rattle.fw_bus_state.specs.declared.machine.Machine.{Machine}
use Rattle.fw_model_run.specs.Desks.{DeskRelations}
use Rattle.fw_explore_endings.specs.declared.rows.Rows.{Rows}
use Rattle.fw_explore_movers.specs.declared.mover.Explored.{Explored}
use Rattle.fw_explore_meaning.specs.Moves.{IsMove, IsCutOff}
use Rattle.fw_explore_told.specs.Histories.{History}
use Rattle.fw_explore_meaning.specs.Rows.{Comes, HasLines}
use Rattle.fw_explore_meaning.specs.Pasts.{LeadsTo}
use Rattle.fw_explore_meaning.specs.Steps.{Had, IsPlacedKey}
use Rattle.fw_explore_endings.specs.Tallies.{tallies}

-- so are those of entries
abbrev pub ArePlaced : (ℕ → History → Type 0) → (List ℕ → Machine → Type 0) → List Entry → Type 0
ArePlaced Had Kept entries = All (λ e. IsPlacedKey Had Kept e.key) entries

-- of the places below i of the level of length n all moves are taken, and of place i those below p; the rows tell what ended so far
pub record IsWalking (D : DeskRelations) (script : List Command) (x : Explored) (P Q : List ℕ → List ℕ → Type 0) (n i p : ℕ) (levels : Walked) (rows : Rows) : Type 0 where
  pub walk : Walk (IsMove D script x) P Q (Comes D script x) (IsCutOff D script x) n levels.level i p levels.next (tallies rows.list.items) (record { ended = rows.ended; cut = rows.cut })
  pub lines : All (HasLines D script x) rows.list.items

-- of each schedule that leads to a place some mover is a move, or none below p is
abbrev pub MovesBelow : DeskRelations → List Command → Explored → List ℕ → ℕ → Bool → Type 0
MovesBelow D script x w p true = (q : ℕ) × IsMove D script x w q
MovesBelow D script x w p false = (q : ℕ) → q < p → IsMove D script x w q → ⊥

-- all interleavings are in the rows
pub record IsWholeSo (D : DeskRelations) (script : List Command) (x : Explored) (rows : Rows) : Type 0 where
  pub whole : Whole (IsMove D script x) (Comes D script x) (IsCutOff D script x) (tallies rows.list.items) (record { ended = rows.ended; cut = rows.cut })
  pub lines : All (HasLines D script x) rows.list.items
  pub bounded : (w : List ℕ) → Interleaving (IsMove D script x) w → length w ≤ rows.longest
  pub reached : (w : List ℕ) × Interleaving (IsMove D script x) w × (length w ≡ rows.longest)

-- Between two moves at a place: of the movers below p each was tried, and some moved or none did. `pasts` and `Kept` are what was kept when
-- the first was tried, and by which the keys of the level are told; `pasts'` and `Kept'` what is kept now.
pub record IsMoving (D : DeskRelations) (script : List Command) (x : Explored) (pasts pasts' : List History) (Kept Kept' : List ℕ → Machine → Type 0) (n place p : ℕ) (key : List ℕ) (moved : Bool)
    (levels : Walked) (rows : Rows) : Type 0 where
  pub walks : IsWalking D script x (LeadsTo D script x (Had pasts) Kept) (LeadsTo D script x (Had pasts') Kept') n place p levels rows
  pub moves : (w : List ℕ) → LeadsTo D script x (Had pasts) Kept w key → MovesBelow D script x w p moved

-- Between two places of a level: those below i were gone on from.
abbrev pub IsGoing : DeskRelations → List Command → Explored → List History → (List ℕ → Machine → Type 0) → ℕ → ℕ → Walked → Rows → Type 0
IsGoing D script x pasts Kept n i levels rows = IsWalking D script x (LeadsTo D script x (Had pasts) Kept) (LeadsTo D script x (Had pasts) Kept) n i 0 levels rows

-- a schedule of the longest length, which is one below n
pub record HasLongest (D : DeskRelations) (script : List Command) (x : Explored) (n : ℕ) (rows : Rows) : Type 0 where
  pub size : n ≡ rows.longest + 1
  pub some : List ℕ
  pub is : IsOfLength (IsMove D script x) rows.longest some

-- Before the level of length n; each level before it had a place.
pub record IsAtLevel (D : DeskRelations) (script : List Command) (x : Explored) (pasts : List History) (Kept : List ℕ → Machine → Type 0) (n : ℕ) (levels : Walked) (rows : Rows) : Type 0 where
  pub walks : IsGoing D script x pasts Kept n 0 levels rows
  pub longest : (n ≡ 0) ⊎ HasLongest D script x n rows
