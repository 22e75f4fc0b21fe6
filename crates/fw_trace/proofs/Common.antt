-- What most files of proofs import.
pub use Rattle.fw_bus.specs.Buses.{BusView}
pub use Rattle.fw_script_command.specs.declared.command.Command.{Command}
pub use Rattle.fw_script_command.specs.declared.command.Command.TheVariants.{End}
pub use Rattle.fw_log_entry.specs.Log.{LogOpens, header_bytes}
pub use Rattle.fw_log_entry.specs.declared.entry.Timed.{Timed}
pub use Rattle.fw_log_entry.specs.declared.version.Version.TheVariants.{Two}
pub use Rattle.fw_log.specs.History.{HasRead}
pub use Rattle.fw_log.specs.Reader.{State as LogState}
pub use Rattle.fw_outside.proofs.Parts.{Grows-Grows}
pub use Rattle.fw_outside.specs.Outside.{AppendsPrefix, Grows}
pub use Rattle.fw_outside.specs.declared.stop.Stop.TheVariants.{NoMemory, ReadFault, TooLong, WriteFault}
pub use Rattle.fw_model_run.specs.Desks.{DeskRelations}
pub use Rattle.fw_model_run.specs.Giving.{log_bytes}
pub use Rattle.fw_script.specs.Reading.{Advances, Reading, TakesMore, following}
pub use Rattle.fw_script.specs.declared.stage.ReaderStage.{ReaderStage}
pub use Rattle.fw_script.specs.declared.stage.ReaderStage.TheVariants.{Commands, Done}
pub use Rattle.fw_script_words.specs.Course.{Course}
pub use Rattle.fw_script_words.specs.Going.{course_of}
pub use Rattle.fw_script_words.specs.declared.ending.RunEnding.{RunEnding}
pub use Rattle.fw_script_words.specs.declared.ending.RunEnding.TheVariants.{Refused, Stopped}
pub use Rattle.fw_trace.specs.Framing.{Base}
pub use Rattle.fw_trace.specs.Parts.{AreLines, Part, PartsRun, lines_of, part_text, trace_text}
pub use Rattle.fw_trace.specs.Passed.{GrowsPrefix, WasPassed}
pub use Rattle.fw_trace.specs.Telling.{PutsEntry, Tells, TellsBy, ToldPart, fails_by}
pub use Rattle.fw_trace.specs.Traces.{TellsPrefix, Traces}
pub use Rattle.fw_trace.specs.Tracing.{Begun, HasLines, Tracing, kept_from}
pub use Rattle.fw_trace.specs.declared.lack.Lack.{Lack}
pub use Rattle.fw_trace.specs.declared.lack.Lack.TheVariants.{Memory}
pub use Rattle.fw_trace_lines.specs.Caused.{Telling, untold}
pub use Rattle.fw_trace_names.specs.CausedLines.{caused_text}
pub use Rattle.fw_trace_lines.specs.Commands.{Traced, begun, last_lines, lines_from, telling_following}
pub use Rattle.std.proofs.Common.{Bool, Err, List, None, Ok, Option, Some, [], ap, append_assoc, arith, false, inl, inr, length, refl, subst, sym, take, true, ℕ, ◌++◌, ◌+◌, ◌<◌, ◌∙◌, ◌∷◌, ◌≡◌, ◌⊎◌}
pub use Rattle.std.proofs.Math.Logic.{∥∥₁_elim}
pub use Rattle.std.proofs.lemmas.List.{append-nil, length-append}
