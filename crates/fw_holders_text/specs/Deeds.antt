-- What a controller does, as text.
use Rattle.std.specs.Prelude.{ℕ, Bool, List, [], ◌++◌, codes, decimal, if◌then◌else◌}
use Rattle.fw_terms.specs.declared.plug.ConnectionKind.{ConnectionKind}
use Rattle.fw_terms.specs.declared.plug.ConnectionKind.TheVariants.{PointToPoint, Broadcast}
use Rattle.fw_log_entry.specs.declared.nodes.NodeRow.{NodeRow}
use Rattle.fw_holders_text.specs.declared.deed.Deed.{Deed}
use Rattle.fw_holders_text.specs.declared.deed.Deed.TheVariants.{TakesChannel, TakesUnits, GivesUnits, GivesChannel, Connects, Adds, Leaves}
use Rattle.fw_holders_text.specs.Names.{count_text, who, plug_text}

-- a broadcast connection is told as one
unfoldable pub connection_text : ConnectionKind → List ℕ
connection_text PointToPoint = []
connection_text Broadcast = codes " broadcast"

-- what is taken in a reclaim second was held before
unfoldable pub takes_text : Bool → List ℕ
takes_text reclaiming = if reclaiming then codes "reclaims " else codes "takes "

-- what is done, if a reclaim second runs or not
unfoldable pub deed_text : List NodeRow → Bool → Deed → List ℕ
deed_text nodes reclaiming (TakesChannel ch) = takes_text reclaiming ++ codes "channel " ++ decimal ch
deed_text nodes reclaiming (TakesUnits u) = takes_text reclaiming ++ count_text u (codes "unit")
deed_text nodes reclaiming (GivesUnits u) = codes "gives back " ++ count_text u (codes "unit")
deed_text nodes reclaiming (GivesChannel ch) = codes "gives back channel " ++ decimal ch
deed_text nodes reclaiming (Connects side p kind) = codes "connects " ++ plug_text nodes side p ++ connection_text kind
deed_text nodes reclaiming (Adds side p kind) = codes "adds to " ++ plug_text nodes side p ++ connection_text kind
deed_text nodes reclaiming (Leaves side p kind) = codes "leaves " ++ plug_text nodes side p ++ connection_text kind

-- what a controller does
unfoldable pub done_text : List NodeRow → Bool → ℕ → Deed → List ℕ
done_text nodes reclaiming c deed = who nodes c ++ codes " " ++ deed_text nodes reclaiming deed
