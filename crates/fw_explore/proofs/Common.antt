-- What most files of proofs import.
pub use Rattle.fw_bus.specs.Buses.{StandsFor}
pub use Rattle.fw_script_command.specs.declared.command.Command.{Command}
pub use Rattle.fw_log_entry.specs.declared.entry.Timed.{Timed}
pub use Rattle.fw_explore.specs.declared.since.Since.{Since}
pub use Rattle.fw_explore_meaning.specs.Steps.{Had}
pub use Rattle.fw_explore_meaning.specs.Walking.{ArePlaced, IsGoing}
pub use Rattle.fw_explore_levels.specs.Tables.{Entry}
pub use Rattle.fw_bus_state.specs.declared.machine.Machine.{Machine}
pub use Rattle.fw_explore_movers.specs.declared.mover.Line.{Line}
pub use Rattle.fw_explore_movers.specs.declared.mover.Mover.{Mover}
unfoldable pub use Rattle.fw_kept_parts.specs.Words.{words_of}
pub use Rattle.fw_model_run.specs.Desks.{DeskRelations, IsFunction}
pub use Rattle.fw_model_run.specs.State.{State}
pub use Rattle.fw_explore_told.specs.Histories.{History}
pub use Rattle.std.proofs.Common.{Bool, IsFalse, List, None, Ok, Option, Some, [], ap, arith, drop, false, get_or, length, refl, subst, sym, take, true, ℕ, ◌++◌, ◌-◌, ◌<◌, ◌∙◌, ◌∷◌, ◌≡◌, ◌≤◌}
