-- What stands in the registers that a node keeps itself fits a quadlet.
use Rattle.std.proofs.Common.{◌<◌, ◌^◌, Bool, true, false, arith}
use Rattle.fw_terms.specs.declared.device.DeviceKind.{DeviceKind}
use Rattle.fw_terms.specs.Devices.{has_link, is_contender, is_capable}
use Rattle.fw_node.specs.Contents.{bit, capabilities}

bit_below : (b : Bool) → bit b < 2
bit_below true = omega arith
bit_below false = omega arith

pub capabilities_below : (kind : DeviceKind) → capabilities kind < 2 ^ 32
capabilities_below kind = omega (arith, bit_below (is_contender kind), bit_below (has_link kind), bit_below (is_capable kind))
