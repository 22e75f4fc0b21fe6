-- The table at a log's end.
use Rattle.std.specs.Prelude.{ℕ, zero, suc, ◌==◌, ◌&&◌, Bool, List, [], ◌∷◌, ◌++◌, codes, decimal, Option, Some, None, if◌then◌else◌}
use Rattle.fw_terms.specs.declared.plug.PlugAt.{PlugAt}
use Rattle.fw_terms.specs.Tables.{at_plug}
use Rattle.fw_log_entry.specs.declared.nodes.NodeRow.{NodeRow}
use Rattle.fw_model_account.specs.Account.{Account, Connections, Owner, Of, Dead, has_connection, remainder}
use Rattle.fw_audit.specs.Unjudged.{unjudged_text}
use Rattle.fw_holders_text.specs.declared.holding.How.{How}
use Rattle.fw_holders_text.specs.declared.holding.How.TheVariants.{Pending, Connected, Orphaned, Continues, Reclaimable}
use Rattle.fw_holders_text.specs.declared.holding.Holding.{Holding}
use Rattle.fw_holders.specs.declared.judged.Judged.{Judged}
use Rattle.fw_holders_text.specs.declared.names.Side.{Side}
use Rattle.fw_holders_text.specs.declared.names.Side.TheVariants.{Output, Input}
use Rattle.fw_holders.specs.Held.{holding}
use Rattle.fw_holders_text.specs.Names.{nodes_of, count_text, who, plug_text}

-- ---- channels

-- how a channel is held
unfoldable pub how_word : How → List ℕ
how_word (Pending c) = codes " pending: "
how_word Connected = codes " connected: "
how_word Orphaned = codes " orphaned: "
how_word Continues = codes " continues: "
how_word Reclaimable = codes " reclaimable: "

-- the units that are held with a channel
unfoldable pub units_words : ℕ → List ℕ
units_words units = if units == 0 then codes ", no units" else codes ", " ++ count_text units (codes "unit")

-- the controller that has a channel
unfoldable pub by_text : List NodeRow → How → List ℕ
by_text nodes (Pending c) = codes ", by " ++ who nodes c
by_text nodes Connected = []
by_text nodes Orphaned = []
by_text nodes Continues = []
by_text nodes Reclaimable = []

-- the line of a channel, if it is held
unfoldable pub channel_line : List NodeRow → ℕ → Option Holding → List ℕ
channel_line nodes ch None = []
channel_line nodes ch (Some h) = codes "channel " ++ decimal ch ++ how_word h.how ++ plug_text nodes Output h.plug ++ units_words h.units ++ by_text nodes h.how ++ codes "\n"

-- the lines of the channels below n
unfoldable pub channel_lines : ℕ → Account → List ℕ
channel_lines zero l = []
channel_lines (suc n) l = channel_lines n l ++ channel_line (nodes_of l.latest) n (holding l n)

-- ---- plugs

-- what stands between one who has a connection and the next
unfoldable pub comma : List ℕ → List ℕ
comma [] = []
comma (c ∷ cs) = codes ", "

-- so many point-to-point connections of one, after others
unfoldable pub with_count : ℕ → List ℕ → List ℕ → List ℕ
with_count n owner before = if n == 0 then before else before ++ comma before ++ decimal n ++ codes " point-to-point of " ++ owner

-- those of the controllers below n
unfoldable pub counts_below : ℕ → List NodeRow → (ℕ → ℕ) → List ℕ
counts_below zero nodes counts = []
counts_below (suc n) nodes counts = with_count (counts n) (who nodes n) (counts_below n nodes counts)

-- the broadcast connection, after others
unfoldable pub with_broadcast : List NodeRow → Option Owner → List ℕ → List ℕ
with_broadcast nodes None before = before
with_broadcast nodes (Some (Of c)) before = before ++ comma before ++ codes "broadcast of " ++ who nodes c
with_broadcast nodes (Some Dead) before = before ++ comma before ++ codes "broadcast of the dead"

-- whose the connections of a plug are
abbrev pub owners_text : List NodeRow → Connections → List ℕ
owners_text nodes s = with_broadcast nodes s.broadcast (with_count s.orphaned (codes "the dead") (counts_below 63 nodes s.counts))

-- the line of a plug, if it has a connection
unfoldable pub plug_line : List NodeRow → Side → PlugAt → ℕ → Connections → List ℕ
plug_line nodes side p channel s =
    if has_connection s then codes "plug " ++ plug_text nodes side p ++ codes ", channel " ++ decimal channel ++ codes ": " ++ owners_text nodes s ++ codes "\n" else []

-- the line of an output plug
abbrev pub output_line : Account → PlugAt → List ℕ
output_line l p = plug_line (nodes_of l.latest) Output p (l.settings p).channel (l.outputs p)

-- the line of an input plug
abbrev pub input_line : Account → PlugAt → List ℕ
input_line l p = plug_line (nodes_of l.latest) Input p (l.input_channel p) (l.inputs p)

-- the lines of a device's plugs with numbers below n
unfoldable pub lines_below : ℕ → ℕ → (PlugAt → List ℕ) → List ℕ
lines_below zero d line = []
lines_below (suc n) d line = lines_below n d line ++ line (at_plug d n)

-- the lines of the plugs of the devices below n
unfoldable pub plug_lines : ℕ → Account → List ℕ
plug_lines zero l = []
plug_lines (suc n) l = plug_lines n l ++ lines_below 31 n (output_line l) ++ lines_below 31 n (input_line l)

-- ---- the end

-- this, if there are locks that were not judged
unfoldable pub if_unjudged : ℕ → List ℕ → List ℕ
if_unjudged unjudged text = if unjudged == 0 then [] else text

-- the units that are left; of what other labels take no account knows
unfoldable pub left_line : ℕ → ℕ → List ℕ
left_line units unjudged = codes "left " ++ decimal units ++ codes " of 4915 units" ++ if_unjudged unjudged (codes " by label 0 alone") ++ codes "\n"

-- no answer and no shown word was judged
abbrev pub is_nothing : Judged → Bool
is_nothing j = (j.reads == 0) && (j.made == 0) && (j.unmade == 0) && (j.shown == 0)

-- what was judged
unfoldable pub amount_text : Judged → List ℕ
amount_text j =
    if is_nothing j then codes "nothing: no answer with label 0 of a watched register, no shown word of one,"
    else count_text j.reads (codes "read") ++ codes ", " ++ count_text j.made (codes "swap") ++ codes " made, " ++ decimal j.unmade ++ codes " not made, " ++ count_text j.shown (codes "shown word")

-- how much was judged, and how many locks were not; if it is nothing, this log's yes says nothing
unfoldable pub judged_line : Judged → ℕ → List ℕ
judged_line j unjudged =
    codes "judged " ++ amount_text j ++ codes " in " ++ count_text j.resets (codes "bus reset") ++ unjudged_text unjudged ++ if_unjudged unjudged (codes ": see watch") ++ codes "\n"

-- the table
unfoldable pub table_text : Account → Judged → ℕ → List ℕ
table_text l j unjudged = channel_lines 64 l ++ plug_lines 63 l ++ left_line (remainder l) unjudged ++ judged_line j unjudged
