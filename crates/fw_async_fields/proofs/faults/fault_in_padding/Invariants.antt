use Rattle.fw_async_fields.proofs.Common.{◌≡◌, ◌-◌, length, fault_in_padding}
use Rattle.fw_async_fields.proofs.faults.fault_in_padding.Given as goal

abbrev pub invariant-loop-place : goal.invariant-loop-place
invariant-loop-place l = fault_in_padding l.bytes l.at (length l.bytes - l.at) ≡ fault_in_padding l.bytes l.place (length l.bytes - l.place)
