-- What most files of proofs import.
pub use Rattle.fw_script_command.specs.Form.{HasForm}
pub use Rattle.fw_script_command.specs.declared.command.Command.{Command}
pub use Rattle.fw_script_command.specs.declared.command.Command.TheVariants.{End}
pub use Rattle.fw_log_entry.specs.declared.entry.Timed.{Timed}
pub use Rattle.fw_explore_movers.specs.declared.mover.Explored.{Explored}
pub use Rattle.fw_explore_movers.specs.declared.mover.MoverKind.{MoverKind}
pub use Rattle.fw_explore_movers.specs.declared.mover.MoverKind.TheVariants.{HalfSteps, Once}
pub use Rattle.fw_model_run.specs.Actions.{Action}
pub use Rattle.fw_model_run.specs.Desks.{DeskRelations}
pub use Rattle.fw_model_run.specs.State.{State}
pub use Rattle.fw_script.specs.Script.{IsScript}
pub use Rattle.std.proofs.Common.{Bool, List, None, Ok, Option, Some, [], ap, append-nil, append_assoc, arith, codes, decimal, false, if◌then◌else◌, inl, inr, length, nat_le, not, refl, subst, suc}
pub use Rattle.std.proofs.Common.{sym, true, zero, ℕ, ◌&&◌, ◌++◌, ◌+◌, ◌<◌, ◌==◌, ◌∙◌, ◌∷◌, ◌≡◌, ◌≢◌, ◌≤◌}
pub use Rattle.std.proofs.lemmas.Bool.{and_parts}
pub use Rattle.std.proofs.lemmas.Bool.Decides.{nat_tests}
pub use Rattle.std.proofs.lemmas.Option.{same_Some}
pub use Rattle.std.specs.List.{list_all}
