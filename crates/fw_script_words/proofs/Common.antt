-- What most files of proofs import.
pub use Rattle.fw_bus.specs.Buses.{BusView, StandsFor}
pub use Rattle.fw_script_command.specs.declared.command.Command.{Command}
pub use Rattle.fw_script_command.specs.declared.command.Command.TheVariants.{End}
pub use Rattle.fw_log_entry.specs.Log.{header_bytes, latest_epoch}
pub use Rattle.fw_log_entry.specs.declared.version.Version.TheVariants.{Two}
pub use Rattle.fw_outside.specs.declared.stop.Stop.TheVariants.{NoMemory, ReadFault, TooLong, WriteFault}
pub use Rattle.fw_model_run.specs.Desks.{DeskRelations}
pub use Rattle.fw_model_run.specs.Giving.{log_bytes}
pub use Rattle.fw_model_run.specs.State.{first_state}
pub use Rattle.fw_script.specs.Reading.{Advances, Answer, GivesFirst, Reading, unread}
pub use Rattle.fw_script.specs.declared.ScriptFault.{ScriptFault}
pub use Rattle.fw_script_words.specs.Counts.{ReadCount}
pub use Rattle.fw_script_words.specs.Course.{Course}
pub use Rattle.fw_script_words.specs.Going.{Ended, Going, course_of, to_read}
pub use Rattle.fw_script_words.specs.Scripts.{IsNoRefusal, IsValid}
pub use Rattle.fw_script_words.specs.declared.ending.Refusal.TheVariants.{Rule}
pub use Rattle.fw_script_words.specs.declared.ending.RunEnding.{RunEnding}
pub use Rattle.fw_script_words.specs.declared.ending.RunEnding.TheVariants.{Done, Refused, Stopped}
pub use Rattle.std.proofs.Common.{Err, List, None, Ok, Option, Some, [], ap, append-nil, append_assoc, arith, inl, inr, length, refl, subst, sym, true, ℕ, ◌++◌, ◌+◌, ◌∙◌, ◌∷◌, ◌≡◌, ◌≢◌, ◌≤◌}
pub use Rattle.std.specs.Prelude.{IsFalse}
