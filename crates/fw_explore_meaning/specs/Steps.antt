-- What a step from a place does.
use Rattle.std.specs.Prelude.{ℕ, ◌≡◌, ◌+◌, ◌^◌, ◌<◌, ◌≤◌, ◌⊎◌, ◌&&◌, not, List, [], ◌∷◌, ◌++◌, Bool, true, false, Option}
use Rattle.std.specs.Prelude.{Some, None, Err, slice_index, slice_index_or, slice_set, length, IsTrue, IsFalse}
use Rattle.std.specs.List.{All}
use Rattle.std.specs.Str.{bytes_eq}
use Rattle.fw_log_entry.specs.declared.entry.Timed.{Timed}
use Rattle.fw_script_command.specs.declared.command.Command.{Command}
use Rattle.fw_kept_parts.specs.Words.{bytes_of}
use Rattle.fw_bus_state.specs.declared.machine.Machine.{Machine}
use Rattle.fw_order.specs.declared.rule.RuleFault.{RuleFault}
use Rattle.fw_model_run.specs.Actions.{Action}
use Rattle.fw_model_run.specs.Desks.{DeskRelations, IsFunction}
use Rattle.fw_model_run.specs.Rules.{Decides}
use Rattle.fw_model_run.specs.State.{State}
use Rattle.fw_bus.specs.Buses.{BusView, StandsFor, ContinuesRun, IsCommand}
use Rattle.fw_explore_movers.specs.declared.mover.Mover.{Mover}
use Rattle.fw_explore_movers.specs.declared.mover.MoverKind.{MoverKind}
use Rattle.fw_explore_movers.specs.declared.mover.MoverKind.TheVariants.{HalfSteps, Once}
use Rattle.fw_explore_movers.specs.declared.mover.Explored.{Explored}
use Rattle.fw_explore_movers.specs.Explored.{IsMover}
use Rattle.fw_explore_meaning.specs.Moves.{IsMove}
use Rattle.fw_explore_told.specs.Histories.{History, first_history, told_entries}
use Rattle.fw_explore_meaning.specs.Pasts.{LeadsAt, LeadsTo}

-- ---- one command

-- the run goes on with it, and these bytes were written; or a rule refuses it
abbrev pub CarriesOn : DeskRelations → List Command → List Action → List Timed → State → Command → BusView → List ℕ → Option RuleFault → Type 0
CarriesOn D commands actions log s c now bytes None = ContinuesRun D commands actions log s c now (Some []) (Some bytes)
CarriesOn D commands actions log s c now bytes (Some rule) = Decides s c (Err rule) × StandsFor now.machine s

-- ---- which movers are there

-- a mover is a line like this one that was not carried out
abbrev pub is_waiting : Mover → Bool → List ℕ → Bool
is_waiting m done line = elim m.kind [ HalfSteps ↦ false | Once ↦ not done && bytes_eq m.line.items line ]

-- each mover before this one with its line was carried out
abbrev pub AllCame : Explored → List Bool → ℕ → Mover → Type 0
AllCame x done p m = (q : ℕ) (n : Mover) → q < p → IsMover x q n → n.kind ≡ Once → n.line.items ≡ m.line.items → IsTrue (slice_index_or done q false)

-- one of them was not
pub record HasEarlier (x : Explored) (done : List Bool) (p : ℕ) (m : Mover) : Type 0 where
  pub place : ℕ
  pub mover : Mover
  pub earlier : place < p
  pub is : IsMover x place mover
  pub once : mover.kind ≡ Once
  pub same : mover.line.items ≡ m.line.items
  pub still : IsFalse (slice_index_or done place false)

abbrev pub IsNext : Explored → List Bool → ℕ → Mover → Bool → Type 0
IsNext x done p m true = AllCame x done p m
IsNext x done p m false = HasEarlier x done p m

-- a line may come: it was not carried out, and each mover before it with the same line was
pub record MayCome (x : Explored) (done : List Bool) (p : ℕ) (m : Mover) : Type 0 where
  pub still : IsFalse (slice_index_or done p false)
  pub earlier : AllCame x done p m

-- a line may not come yet, or no more
pub record MayNotCome (x : Explored) (done : List Bool) (p : ℕ) (m : Mover) : Type 0 where
  pub once : m.kind ≡ Once
  pub why : IsTrue (slice_index_or done p false) ⊎ HasEarlier x done p m

-- each mover takes half steps, or is a line that may come; or it is one that may not
abbrev pub IsThere : Explored → List Bool → ℕ → Mover → Bool → Type 0
IsThere x done p m true = m.kind ≡ Once → MayCome x done p m
IsThere x done p m false = MayNotCome x done p m

-- ---- one step

-- a history has a number
pub record Had (pasts : List History) (n : ℕ) (past : History) : Type 0 where
  pub within : n < length pasts
  pub at : (d : History) → slice_index_or pasts n d ≡ past

-- of each schedule that leads to the place the mover is a move, which leads to this key; or of none
abbrev pub Steps : DeskRelations → List Command → Explored → (ℕ → History → Type 0) → (List ℕ → Machine → Type 0) → List ℕ → ℕ → List ℕ → Bool → Type 0
Steps D script x Had Kept w p key true = IsMove D script x w p × LeadsTo D script x Had Kept (w ++ p ∷ []) key
Steps D script x Had Kept w p key false = IsMove D script x w p → ⊥

-- what the words ensure of what they name
pub record IsExplored (x : Explored) : Type 0 where
  pub few : length x.movers.items ≤ 32
  pub commands : (p : ℕ) (m : Mover) → IsMover x p m → IsCommand m.command
  pub following : All (λ l. IsCommand l.command) x.following.items

-- a place: there is a history and a machine with these numbers
pub record IsPlaced (Had : ℕ → History → Type 0) (Kept : List ℕ → Machine → Type 0) (words : List ℕ) : Type 0 where
  pub past_at : ℕ
  pub half : ℕ
  pub machine_at : List ℕ
  pub words_are : words ≡ past_at ∷ half ∷ machine_at
  pub past : History
  pub had : Had past_at past
  pub machine : Machine
  pub kept : Kept machine_at machine

-- ---- where a mover has led

-- the first two numbers of a place
abbrev pub past_in : List ℕ → ℕ
past_in words = slice_index words 0

abbrev pub half_in : List ℕ → ℕ
half_in words = slice_index words 1

-- the half steps with this move
abbrev pub half_after : MoverKind → ℕ → ℕ
half_after HalfSteps half = half + 1
half_after Once half = half

-- a history with the line of this mover marked, if it is one
abbrev pub marked : MoverKind → ℕ → History → History
marked HalfSteps p past = past
marked Once p past = record { done = slice_set past.done p true; said = past.said }

-- the history with this move, which wrote these entries
abbrev pub history_after : MoverKind → ℕ → List Timed → History → History
history_after kind p out past = marked kind p (record { done = past.done; said = past.said ++ told_entries out })

-- the key is that of the history with this move and of the machine
pub record IsArrived (Had : ℕ → History → Type 0) (Kept : List ℕ → Machine → Type 0) (m : Machine) (past : History) (half : ℕ) (out : List Timed) (p : ℕ) (kind : MoverKind) (key : List ℕ) : Type 0
  where
    pub past_at : ℕ
    pub machine_at : List ℕ
    pub key_is : key ≡ bytes_of (past_at ∷ half_after kind half ∷ machine_at)
    pub small : (k : ℕ) → slice_index (past_at ∷ half_after kind half ∷ machine_at) k < 2 ^ 32
    pub had : Had past_at (history_after kind p out past)
    pub kept : Kept machine_at m

-- what was kept is kept still
pub record IsWiderBy (Had Had' : ℕ → History → Type 0) (Kept Kept' : List ℕ → Machine → Type 0) : Type 0 where
  pub pasts : (n : ℕ) (past : History) → Had n past → Had' n past
  pub machines : (words : List ℕ) (m : Machine) → Kept words m → Kept' words m

-- a key is that of a place, whatever leads there
pub record IsPlacedKey (Had : ℕ → History → Type 0) (Kept : List ℕ → Machine → Type 0) (key : List ℕ) : Type 0 where
  pub words : List ℕ
  pub key_is : key ≡ bytes_of words
  pub small : (k : ℕ) → slice_index words k < 2 ^ 32
  pub placed : IsPlaced Had Kept words

-- the key is that of the place from which nothing has moved yet
pub record IsFirstKey (Had : ℕ → History → Type 0) (Kept : List ℕ → Machine → Type 0) (m : Machine) (key : List ℕ) : Type 0 where
  pub past_at : ℕ
  pub machine_at : List ℕ
  pub key_is : key ≡ bytes_of (past_at ∷ 0 ∷ machine_at)
  pub small : (k : ℕ) → slice_index (past_at ∷ 0 ∷ machine_at) k < 2 ^ 32
  pub had : Had past_at first_history
  pub kept : Kept machine_at m
