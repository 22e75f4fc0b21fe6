-- The lines of channels, by what is allocated and what is reclaimable in an account.
use Rattle.std.specs.Prelude.{ℕ, zero, suc, Bool, List, [], ◌++◌, Option, Some, None, codes, decimal, if◌then◌else◌}
use Rattle.fw_terms.specs.declared.plug.PlugAt.{PlugAt}
use Rattle.fw_log_entry.specs.declared.nodes.NodeRow.{NodeRow}
use Rattle.fw_model_account.specs.Account.{Account, Allocation, Flow, Holder, Pending, Connected, Orphaned, plug_of}
use Rattle.fw_holders_text.specs.Names.{nodes_of, who}
use Rattle.fw_holders.specs.Table.{units_words}

-- how a holder has its channel
abbrev pub how_of : Holder → List ℕ
how_of (Pending c p) = codes " pending: "
how_of (Connected p) = codes " connected: "
how_of (Orphaned p) = codes " orphaned: "

-- a controller that has it
abbrev pub by_of : List NodeRow → Holder → List ℕ
by_of nodes (Pending c p) = codes ", by " ++ who nodes c
by_of nodes (Connected p) = []
by_of nodes (Orphaned p) = []

-- an output plug
abbrev pub output_name : List NodeRow → PlugAt → List ℕ
output_name nodes p = who nodes p.device ++ codes " oPCR[" ++ decimal p.plug ++ codes "]"

-- the line of an allocated channel
abbrev pub allocated_line : List NodeRow → ℕ → Allocation → List ℕ
allocated_line nodes ch x = codes "channel " ++ decimal ch ++ how_of x.holder ++ output_name nodes (plug_of x.holder) ++ units_words x.units ++ by_of nodes x.holder ++ codes "\n"

-- that of a flow which may be allocated again, and goes on talking or not
abbrev pub flow_line : List NodeRow → ℕ → Bool → Flow → List ℕ
flow_line nodes ch goes_on f =
    codes "channel " ++ decimal ch ++ (if goes_on then codes " continues: " else codes " reclaimable: ") ++ output_name nodes f.plug ++ units_words f.units ++ codes "\n"

-- of a channel, an allocation before a flow
abbrev pub line_with : List NodeRow → ℕ → (PlugAt → Bool) → Option Allocation → Option Flow → List ℕ
line_with nodes ch continues (Some x) f = allocated_line nodes ch x
line_with nodes ch continues None (Some f) = flow_line nodes ch (continues f.plug) f
line_with nodes ch continues None None = []

-- of the channels below n
unfoldable pub account_lines : ℕ → Account → List ℕ
account_lines zero l = []
account_lines (suc n) l = account_lines n l ++ line_with (nodes_of l.latest) n l.continues (l.allocations n) (l.reclaimable n)
