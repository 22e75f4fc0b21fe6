-- What most files of proofs import.
pub use Rattle.fw_model_account.specs.Account.{Account}
pub use Rattle.fw_model_account.specs.Words.{InputPlug, OutputPlug, node_of, word_of}
pub use Rattle.fw_avc.specs.State.{UnitState}
pub use Rattle.fw_terms.specs.Devices.{input_plugs_of, output_plugs_of}
pub use Rattle.fw_terms.specs.Tables.{at_plug, update}
pub use Rattle.fw_terms.specs.declared.device.DeviceKind.{DeviceKind}
pub use Rattle.fw_terms.specs.declared.device.DeviceKind.TheVariants.{Relay}
pub use Rattle.fw_terms.specs.declared.plug.PlugAt.{PlugAt}
pub use Rattle.fw_cmp.specs.Causes.{IsAtRest}
pub use Rattle.fw_cmp.specs.Controllers.{ControllerState}
pub use Rattle.fw_cmp.specs.Losses.{Listening, first_listening}
pub use Rattle.fw_cmp.specs.Turns.{next}
pub use Rattle.fw_cmp.specs.declared.current.Current.{Current}
pub use Rattle.fw_cmp.specs.declared.current.Current.TheVariants.{Asking, Hearing, Nothing, Overtaken}
pub use Rattle.fw_csr.specs.declared.request.Request.{Request}
pub use Rattle.fw_devices.specs.Decks.{passed, tape_of}
pub use Rattle.fw_devices.specs.Entries.{node_number}
pub use Rattle.fw_devices.specs.Network.{Network, kind_at, node_at}
pub use Rattle.fw_devices.specs.Resets.{IsReset, Shows, numbered}
pub use Rattle.fw_log_entry.specs.declared.entry.ResetEntry.{ResetEntry}
pub use Rattle.fw_log_entry.specs.declared.nodes.NodeRow.{NodeRow}
pub use Rattle.fw_bus_state.specs.Candidates.{candidate_in}
pub use Rattle.fw_bus_state.specs.Lingering.{HasLingering}
pub use Rattle.fw_bus_state.specs.Stands.{HasNodes, IsNodeAt, StandsFor, is_living_in}
pub use Rattle.fw_bus_state.specs.Streaming.{count_at, counted_on}
pub use Rattle.fw_bus_state.specs.Tables.{count_of, states_of}
pub use Rattle.fw_bus_state.specs.declared.machine.Machine.{Machine}
pub use Rattle.fw_node.specs.State.{HasSpace, NodeState}
pub use Rattle.fw_plug.specs.Plugs.{disconnected, is_active}
pub use Rattle.fw_model_run.specs.Afterwards.{after_reset_entry}
pub use Rattle.fw_model_run.specs.Good.{IsGood, IsLatest}
pub use Rattle.fw_model_run.specs.HalfSteps.{is_busy_at}
pub use Rattle.fw_model_run.specs.Spaces.{space_at}
pub use Rattle.fw_model_run.specs.State.{State, directory_of, is_on, number_in, with_device}
unfoldable pub use Rattle.fw_model_run.specs.State.{numbers_to}
pub use Rattle.fw_tree.specs.SelfIds.{facts_at}
pub use Rattle.fw_words.specs.Quadlet.{field}
pub use Rattle.std.proofs.Common.{Bool, IsFalse, IsTrue, List, None, Option, Some, [], add-one, ap, arith, cond, drop, false, get_or, inl, inr, is_some, length, map, nat_lt, option_map, refl}
pub use Rattle.std.proofs.Common.{replicate, rules, slice_index, slice_index_or, slice_set, subst, suc, sym, take, true, zero, ℕ, ◌&&◌, ◌++◌, ◌+◌, ◌<◌, ◌==◌, ◌||◌, ◌∙◌, ◌∷◌, ◌≡◌, ◌≢◌, ◌≤◌, ◌⊎◌}
pub use Rattle.std.proofs.lemmas.Bool.{cases_eq, cases_lt, false≢true}
pub use Rattle.std.proofs.lemmas.Bool.Decides.{nat_tests}
pub use Rattle.std.proofs.lemmas.List.{get_or-replicate, get_or-set_other, get_or-set_same, get_or_append_left, get_or_push, length-append, length-map, length-replicate, length-set}
pub use Rattle.std.proofs.lemmas.Option.{same_Some}
