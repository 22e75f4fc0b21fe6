-- Which channels are held, how and by whom.
use Rattle.std.specs.Prelude.{ℕ, zero, suc, Bool, List, [], ◌∷◌, ◌++◌, codes, Option, Some, None, if◌then◌else◌}
use Rattle.fw_terms.specs.declared.plug.PlugAt.{PlugAt}
use Rattle.fw_log_entry.specs.declared.nodes.NodeRow.{NodeRow}
use Rattle.fw_model_account.specs.Account.{Holder, Pending, Connected, Orphaned, Allocation, Flow, Account}
use Rattle.fw_holders_text.specs.declared.holding.How.{How}
use Rattle.fw_holders_text.specs.declared.holding.How.TheVariants.{Pending as IsPending, Connected as IsConnected, Orphaned as IsOrphaned, Continues, Reclaimable}
use Rattle.fw_holders_text.specs.declared.holding.Holding.{Holding}
use Rattle.fw_holders_text.specs.Holdings.{holding_text}
use Rattle.fw_holders_text.specs.Names.{nodes_of}

-- how an allocated channel is held
abbrev pub how_allocated : Holder → How
how_allocated (Pending c p) = IsPending c
how_allocated (Connected p) = IsConnected
how_allocated (Orphaned p) = IsOrphaned

-- for which plug
abbrev pub plug_allocated : Holder → PlugAt
plug_allocated (Pending c p) = p
plug_allocated (Connected p) = p
plug_allocated (Orphaned p) = p

-- what an allocation holds
abbrev pub allocated : Allocation → Holding
allocated x = record { how = how_allocated x.holder; plug = plug_allocated x.holder; units = x.units }

-- what nobody else can have in the reclaim second: the flow of a plug that goes on talking, or of one that does not
abbrev pub reclaimed : (PlugAt → Bool) → Flow → Holding
reclaimed continues f = record { how = (if continues f.plug then Continues else Reclaimable); plug = f.plug; units = f.units }

-- of a channel that is not allocated
abbrev pub unallocated : (PlugAt → Bool) → Option Flow → Option Holding
unallocated continues None = None
unallocated continues (Some f) = Some (reclaimed continues f)

-- of a channel
abbrev pub holding_of : Option Allocation → Option Holding → Option Holding
holding_of None other = other
holding_of (Some x) other = Some (allocated x)

-- what is held with a channel, if it is held
abbrev pub holding : Account → ℕ → Option Holding
holding l ch = holding_of (l.allocations ch) (unallocated l.continues (l.reclaimable ch))

-- ---- as text

-- what stands before a channel, by what was told before it
unfoldable pub separator : List ℕ → List ℕ
separator [] = codes ": "
separator (c ∷ cs) = codes ", "

-- channels that were told, and what separates them from the next
abbrev pub listed : List ℕ → List ℕ
listed told = told ++ separator told

-- one channel more, if it is held
abbrev pub with_holding : List NodeRow → ℕ → Option Holding → List ℕ → List ℕ
with_holding nodes ch None before = before
with_holding nodes ch (Some h) before = before ++ separator before ++ holding_text nodes ch h

-- the channels below n that are held
unfoldable pub held_below : ℕ → Account → List ℕ
held_below zero l = []
held_below (suc n) l = with_holding (nodes_of l.latest) n (holding l n) (held_below n l)

-- all channels that are held
abbrev pub held_text : Account → List ℕ
held_text l = held_below 64 l
