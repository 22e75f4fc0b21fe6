-- A connection: its kind in the plug control registers (IEC 61883-1), and its plugs.
use Rattle.std.specs.Prelude.{Bool, true, false, Option, Some, None}
use Rattle.fw_terms.specs.declared.plug.ConnectionKind.{ConnectionKind}
use Rattle.fw_terms.specs.declared.plug.ConnectionKind.TheVariants.{PointToPoint, Broadcast}
use Rattle.fw_terms.specs.declared.plug.PlugAt.{PlugAt}
use Rattle.fw_cmp_jobs.specs.declared.connection.Connection.{Connection}
use Rattle.fw_cmp_jobs.specs.declared.connection.Connection.TheVariants.{PlugToPlug, BroadcastOut, BroadcastIn}

-- the kind of a connection: one count of the point-to-point counter, or the broadcast bit
abbrev pub kind_of : Connection → ConnectionKind
kind_of (PlugToPlug out into) = PointToPoint
kind_of (BroadcastOut out) = Broadcast
kind_of (BroadcastIn into) = Broadcast

-- the output plug of a connection; a broadcast-in connection has none
abbrev pub output_of : Connection → Option PlugAt
output_of (PlugToPlug out into) = Some out
output_of (BroadcastOut out) = Some out
output_of (BroadcastIn into) = None

-- the input plug of a connection; a broadcast-out connection has none
abbrev pub input_of : Connection → Option PlugAt
input_of (PlugToPlug out into) = Some into
input_of (BroadcastOut out) = None
input_of (BroadcastIn into) = Some into

-- a broadcast-in connection: it takes no channel and no units
abbrev pub is_listen : Connection → Bool
is_listen (PlugToPlug out into) = false
is_listen (BroadcastOut out) = false
is_listen (BroadcastIn into) = true

-- a point-to-point connection, between an output plug and an input plug
abbrev pub is_point_to_point : Connection → Bool
is_point_to_point (PlugToPlug out into) = true
is_point_to_point (BroadcastOut out) = false
is_point_to_point (BroadcastIn into) = false
