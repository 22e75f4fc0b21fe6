-- What most files of proofs import.
pub use Rattle.fw_async_fields.specs.Data.{AreBytes, is_lock_size, is_reply_size, padding}
pub use Rattle.fw_async_fields.specs.Reading.{IsPending, end_of_data, fault_of, need, tcode_of}
unfoldable pub use Rattle.fw_async_fields.specs.Reading.{fault_in_padding, fault_in_quadlet_0, fault_in_quadlet_1, fault_in_quadlet_2, fault_in_quadlet_3}
pub use Rattle.fw_async_fields.specs.Tcode.{has_data}
pub use Rattle.fw_async_fields.specs.declared.PacketFault.{PacketFault}
pub use Rattle.fw_words.specs.Quadlet.{field, quadlet_at}
pub use Rattle.std.proofs.Common.{Bool, IsTrue, List, None, Option, Some, ap, arith, drop, false, get_or, if◌then◌else◌, inl, inr, length, length-append, nat_lt, refl}
pub use Rattle.std.proofs.Common.{slice_index, suc, sym, take, true, zero, ℕ, ◌%◌, ◌++◌, ◌+◌, ◌-◌, ◌/◌, ◌<◌, ◌==◌, ◌^◌, ◌||◌, ◌∙◌, ◌≡◌, ◌≢◌, ◌≤◌}
pub use Rattle.std.proofs.lemmas.Bool.{cases_lt}
pub use Rattle.std.proofs.lemmas.Bool.Decides.{nat_tests}
pub use Rattle.std.proofs.lemmas.Grind.{common_steps}
pub use Rattle.std.specs.Int.{w32}
