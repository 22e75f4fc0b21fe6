-- What most files of proofs import.
pub use Rattle.fw_bus.specs.Buses.{ContinuesRun, BusView, StandsFor}
pub use Rattle.fw_script_command.specs.declared.command.Command.{Command}
pub use Rattle.fw_explore_endings.specs.Tallies.{tallies}
pub use Rattle.fw_explore_endings.specs.declared.rows.Row.{Row}
pub use Rattle.fw_explore_endings.specs.declared.rows.Rows.{Rows}
pub use Rattle.fw_log_entry.specs.declared.entry.Timed.{Timed}
pub use Rattle.fw_explore_meaning.specs.Moves.{Subsequent, IsCutOff, IsMove, Moves, commands_of}
pub use Rattle.fw_explore_meaning.specs.Pasts.{AreDone, Leads, LeadsAt, LeadsTo}
pub use Rattle.fw_explore_meaning.specs.Rows.{Comes, Explores, HasLines}
pub use Rattle.fw_explore_meaning.specs.Steps.{Had, IsPlacedKey, IsWiderBy}
pub use Rattle.fw_explore_meaning.specs.Walking.{IsGoing}
pub use Rattle.fw_explore_levels.specs.Counting.{most_told}
pub use Rattle.fw_explore_levels.specs.Tables.{Entry, IsReached}
pub use Rattle.fw_explore_levels.specs.Walked.{Walked}
pub use Rattle.fw_bus_state.specs.declared.machine.Machine.{Machine}
pub use Rattle.fw_explore_movers.specs.Explored.{IsMover}
pub use Rattle.fw_explore_movers.specs.declared.mover.Explored.{Explored}
pub use Rattle.fw_explore_movers.specs.declared.mover.Line.{Line}
pub use Rattle.fw_explore_movers.specs.declared.mover.Mover.{Mover}
pub use Rattle.fw_explore_movers.specs.declared.mover.MoverKind.{MoverKind}
pub use Rattle.fw_explore_movers.specs.declared.mover.MoverKind.TheVariants.{HalfSteps, Once}
pub use Rattle.fw_kept_parts.specs.Words.{words_of}
pub use Rattle.fw_model_run.specs.Desks.{DeskRelations, IsFunction}
pub use Rattle.fw_model_run.specs.Rules.{Decides}
pub use Rattle.fw_model_run.specs.State.{State}
pub use Rattle.fw_order.specs.declared.rule.RuleFault.{RuleFault}
pub use Rattle.fw_explore_told.specs.Histories.{History, told_entries}
pub use Rattle.std.proofs.Common.{Bool, Err, IsFalse, IsTrue, List, None, Option, Some, [], ap, arith, codes, drop, false, get_or, inl, inr, length, map, min, refl, subst, suc, sym, true, zero, ℕ}
pub use Rattle.std.proofs.Common.{◌++◌, ◌+◌, ◌<◌, ◌∙◌, ◌∷◌, ◌≡◌, ◌≤◌}
pub use Rattle.std.proofs.lemmas.Bool.{cases_eq}
pub use Rattle.std.proofs.lemmas.Option.{same_Some}
pub use Rattle.std.specs.List.{All, AllPairs, Contains}
