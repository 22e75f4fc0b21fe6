-- What most files of proofs import.
pub use Rattle.fw_async_fields.specs.Data.{AreBytes}
pub use Rattle.fw_log_entry.specs.Log.{are_ids, body, epoch_after, head_size, header_bytes, kind_of, node_quad, quads, version_of}
pub use Rattle.fw_log_entry.specs.declared.entry.Entry.{Entry}
pub use Rattle.fw_log_entry.specs.declared.entry.Entry.TheVariants.{Async, End, Event, Iso, Outcome, Reset, Shown}
pub use Rattle.fw_log_entry.specs.declared.entry.Timed.{Timed}
pub use Rattle.fw_log_entry.specs.declared.version.Version.{Version}
pub use Rattle.fw_log_entry.specs.declared.version.Version.TheVariants.{One, Two}
pub use Rattle.fw_log.specs.Bodies.{BodyRefused, IsBody}
pub use Rattle.fw_log.specs.Reader.{EndsEntry, Feeds, HoldsPending, Joins, ShowsFault, State}
pub use Rattle.fw_log.specs.Reading.{Faulty, HasEpoch, IsComplete, IsPending, Spells, WrongBody, cycle_at, cycle_fault, cycle_of, entry_fault, entry_need, epoch_fault, fault_at, head_fault}
pub use Rattle.fw_log.specs.Reading.{header_fault, is_epoch, is_kind, is_length, length_of, need, skip, tested, version_at, version_in}
pub use Rattle.fw_log.specs.Stands.{Position, position}
pub use Rattle.fw_log.specs.declared.BodyFault.{BodyFault}
pub use Rattle.fw_log.specs.declared.BodyFault.TheVariants.{Fields}
pub use Rattle.fw_log.specs.declared.LogFault.{LogFault}
pub use Rattle.fw_log.specs.declared.LogWhy.TheVariants.{AfterEnd, BadEpoch}
pub use Rattle.fw_log.specs.declared.read.LogFed.{LogFed}
pub use Rattle.fw_phy.specs.Phy.{spelling}
pub use Rattle.fw_phy.specs.declared.packet.PhyPacket.{PhyPacket}
pub use Rattle.fw_words.specs.Layout.{packed}
pub use Rattle.fw_words.specs.Quadlet.{field, quadlet_at}
pub use Rattle.std.proofs.Common.{Bool, Err, IfSome, List, None, Ok, Option, Result, Some, [], ap, append_assoc, arith, drop, false, flat_map, get_or, if◌then◌else◌, inl, inr, length, length-append}
pub use Rattle.std.proofs.Common.{length-drop, nat_le, nat_lt, refl, subst, sym, take, take-add, true, ℕ, ◌&&◌, ◌*◌, ◌++◌, ◌+◌, ◌-◌, ◌/◌, ◌<◌, ◌==◌, ◌^◌, ◌||◌, ◌∙◌, ◌∷◌, ◌≡◌, ◌≤◌}
pub use Rattle.std.proofs.lemmas.Bool.{cases_lt}
pub use Rattle.std.proofs.lemmas.Bool.Decides.{nat_tests}
pub use Rattle.std.proofs.lemmas.List.{append-nil, drop-drop, length-take-le, take-append-drop, take-append-le, take_all, take_rest}
pub use Rattle.std.specs.Int.{to_be_bytes, w32}
pub use Rattle.std.specs.List.{All}
pub use Rattle.std.specs.Option.{is_some}
