-- What most files of proofs import.
pub use Rattle.fw_async.specs.declared.packet.Head.{Head}
pub use Rattle.fw_async.specs.declared.packet.Packet.{Packet}
pub use Rattle.fw_terms.specs.Labels.{label_code}
pub use Rattle.fw_terms.specs.declared.label.Label.TheVariants.{Procedure}
pub use Rattle.fw_csr.specs.declared.reply.Reply.{Reply}
pub use Rattle.fw_log_entry.specs.declared.entry.Entry.{Entry}
pub use Rattle.fw_log_entry.specs.declared.entry.Entry.TheVariants.{Async}
pub use Rattle.fw_log_entry.specs.declared.entry.Timed.{Timed}
pub use Rattle.fw_node.specs.Packets.{packet_of}
unfoldable pub use Rattle.fw_watch_remarks.specs.Registers.{register_at}
pub use Rattle.fw_watch_remarks.specs.declared.register.WatchedRegister.{WatchedRegister}
pub use Rattle.fw_model_run.specs.Actions.{Action, Answer, Ask, Contend, HalfStep}
pub use Rattle.fw_model_run.specs.Deeds.{Transition, Transitions}
pub use Rattle.fw_model_run.specs.Giving.{at_most}
pub use Rattle.fw_model_run.specs.HalfSteps.{half}
pub use Rattle.fw_model_run.specs.Spaces.{access_request, reply_from, target_node, transaction_head}
pub use Rattle.fw_model_run.specs.State.{State, first_state}
pub use Rattle.fw_order.specs.declared.order.Access.{Access}
pub use Rattle.fw_order.specs.declared.order.Access.TheVariants.{Read, Swap}
pub use Rattle.fw_watch_laws.specs.Orderly.{IsLabelledIn, IsOrderly}
pub use Rattle.fw_watch_runs.specs.Elsewhere.{AreElsewhere, IsElsewhere}
pub use Rattle.std.proofs.Common.{Bool, IsTrue, List, None, Option, Some, [], ap, arith, false, get_or, if◌then◌else◌, is_some, length, not, option_map, refl, subst, sym, true, ℕ, ◌&&◌, ◌++◌, ◌+◌}
pub use Rattle.std.proofs.Common.{◌==◌, ◌∙◌, ◌∷◌, ◌≡◌, ◌≢◌, ◌≤◌}
pub use Rattle.std.proofs.lemmas.Bool.Decides.{nat_tests}
pub use Rattle.std.proofs.lemmas.Option.{same_Some}
pub use Rattle.std.specs.Bool.{⊤}
pub use Rattle.std.specs.List.{All}
