-- Which plugs a reset entry says are on the bus.
use Rattle.fw_terms.specs.declared.plug.PlugAt.{PlugAt}
use Rattle.fw_log_entry.specs.Network.{speed_of, node_of_device}
use Rattle.fw_log_entry.specs.declared.entry.ResetEntry.{ResetEntry}
use Rattle.fw_log_entry.specs.declared.nodes.NodeRow.{NodeRow}
use Rattle.std.specs.Prelude.{◌==◌, nat_lt, Bool, false, ◌&&◌, Option, Some, None}
use Rattle.std.specs.List.{list_any}
use Rattle.fw_plug.specs.Words.{Settings}

-- p is an output plug of the row
abbrev pub is_output_of : PlugAt → NodeRow → Bool
is_output_of p row = (row.device == p.device) && nat_lt p.plug row.outs

-- p is an input plug of the row
abbrev pub is_input_of : PlugAt → NodeRow → Bool
is_input_of p row = (row.device == p.device) && nat_lt p.plug row.ins

-- the output plugs of a reset entry
abbrev pub is_output : Option ResetEntry → PlugAt → Bool
is_output None p = false
is_output (Some r) p = list_any (is_output_of p) r.nodes

-- the input plugs of a reset entry
abbrev pub is_input : Option ResetEntry → PlugAt → Bool
is_input None p = false
is_input (Some r) p = list_any (is_input_of p) r.nodes

-- what an output plug keeps at first: channel 63, the speed of its device as data rate, overhead_ID 0 (own)
abbrev pub declared : ResetEntry → PlugAt → Settings
declared r p = record { channel = 63; rate = speed_of (node_of_device r.nodes p.device) r.ids; overhead = 0 }
