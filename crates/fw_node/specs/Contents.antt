-- What stands in the registers of a node that only its number, its kind and the time decide (IEEE 1394-1995, 8).
use Rattle.std.specs.Prelude.{ℕ, ◌+◌, ◌/◌, ◌%◌, [], ◌∷◌, Bool, if◌then◌else◌}
use Rattle.fw_words.specs.Layout.{packed}
pub use Rattle.fw_async_fields.specs.NodeIds.{node_id}
use Rattle.fw_terms.specs.declared.device.DeviceKind.{DeviceKind}
use Rattle.fw_terms.specs.Devices.{has_link, is_contender, is_capable}

-- NODE_IDS: node_ID, and 16 zeros
abbrev pub node_ids : ℕ → ℕ
node_ids number = packed ((16, node_id number) ∷ (16, 0) ∷ []) 0

-- CYCLE_TIME: second_count, cycle_count, cycle_offset; 8000 cycles are a second
abbrev pub cycle_time : ℕ → ℕ
cycle_time cycle = packed ((7, cycle / 8000 % 128) ∷ (13, cycle % 8000) ∷ (12, 0) ∷ []) 0

-- a field of one bit
abbrev pub bit : Bool → ℕ
bit b = if b then 1 else 0

-- irmc of a contender, cmc and isc of a device with a link, bmc of one that may be the bus manager, and 28 zeros (own)
abbrev pub capabilities : DeviceKind → ℕ
capabilities kind =
    packed ((1, bit (is_contender kind)) ∷ (1, bit (has_link kind)) ∷ (1, bit (has_link kind)) ∷ (1, bit (is_capable kind)) ∷ (28, 0) ∷ []) 0
