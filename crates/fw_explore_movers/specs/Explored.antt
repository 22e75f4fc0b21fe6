-- What the words after `explore` name: a move is told by the place of its mover.
use Rattle.std.specs.Prelude.{ℕ, ◌≡◌, ◌<◌, List, [], Option, Some, None, slice_get}
use Rattle.std.specs.List.{All, AllPairs}
use Rattle.fw_script_command.specs.declared.command.Command.{Command}
use Rattle.fw_script_command.specs.declared.command.Command.TheVariants.{End}
use Rattle.fw_explore_movers.specs.declared.mover.Mover.{Mover}
use Rattle.fw_explore_movers.specs.declared.mover.MoverKind.TheVariants.{HalfSteps, Once}
use Rattle.fw_explore_movers.specs.declared.mover.Explored.{Explored}

-- the mover at a place
abbrev pub IsMover : Explored → ℕ → Mover → Type 0
IsMover x p m = slice_get x.movers.items p ≡ Some m

-- its line; a place without a mover has none
abbrev pub line_in : Option Mover → List ℕ
line_in None = []
line_in (Some m) = m.line.items

abbrev pub line_at : Explored → ℕ → List ℕ
line_at x p = line_in (slice_get x.movers.items p)

-- its command
abbrev pub command_in : Option Mover → Command
command_in None = End
command_in (Some m) = m.command

abbrev pub command_at : Explored → ℕ → Command
command_at x p = command_in (slice_get x.movers.items p)

-- 1 if the mover takes half steps
abbrev pub half_step_of : Option Mover → ℕ
half_step_of None = 0
half_step_of (Some m) = elim m.kind [ HalfSteps ↦ 1 | Once ↦ 0 ]

-- movers and lines come in the order of their words, the movers first
pub record AreInOrder (x : Explored) : Type 0 where
  pub movers : AllPairs (λ m n. m.word < n.word) x.movers.items
  pub lines : AllPairs (λ l k. l.word < k.word) x.following.items
  pub apart : All (λ m. All (λ l. m.word < l.word) x.following.items) x.movers.items
