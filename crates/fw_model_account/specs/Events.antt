-- What a reset, the end of a reclaim second, a controller's death and the withholding of channel 31 do to the account.
use Rattle.fw_terms.specs.declared.plug.PlugAt.{PlugAt}
use Rattle.fw_log_entry.specs.declared.entry.ResetEntry.{ResetEntry}
use Rattle.std.specs.Prelude.{ℕ, ◌+◌, ◌==◌, true, false, ◌&&◌, if◌then◌else◌, Option, Some, None, is_some}
use Rattle.fw_terms.specs.Tables.{update, find_plug}
use Rattle.fw_model_account.specs.Account.{Holder, Pending, Connected, Orphaned, Allocation, Owner, Of, Dead, Connections, Flow, Account, talks}
use Rattle.fw_model_account.specs.Network.{is_output, is_input, declared}
use Rattle.fw_plug.specs.Words.{Settings, units_of}

-- a plug with no connection
abbrev pub no_connections : Connections
no_connections = record { counts = λ c. 0; orphaned = 0; broadcast = None }

-- the flow of the plug that was found, with the units that its settings take
abbrev pub flow_of : (PlugAt → Settings) → Option PlugAt → Option Flow
flow_of settings None = None
flow_of settings (Some p) = Some (record { plug = p; units = units_of (settings p) })

-- the flow that talks on a channel
abbrev pub talker_at : Account → ℕ → Option Flow
talker_at l ch = flow_of l.settings (find_plug (λ p. talks l p && ((l.settings p).channel == ch)))

-- The bus reset of an entry. The flows that talked may be allocated again in the reclaim second that now runs, and their
-- plugs, if they are still there, go on talking; if a second ran, it is the flows from before that one. The first
-- reset begins no second.
abbrev pub after_reset : ResetEntry → Account → Account
after_reset r l = record {
  latest = Some r;
  withheld = l.withheld;
  reclaiming = is_some l.latest;
  allocations = λ ch. None;
  outputs = λ p. no_connections;
  inputs = λ p. no_connections;
  settings = λ p. if is_output l.latest p then l.settings p else declared r p;
  input_channel = λ p. if is_input l.latest p then l.input_channel p else 63;
  continues = λ p. talks l p && is_output (Some r) p;
  reclaimable = if l.reclaiming then l.reclaimable else talker_at l;
  addressed = l.addressed;
  outstanding = λ c. None;
}

-- the reclaim second is over
abbrev pub after_second : Account → Account
after_second l = record l { reclaiming = false; continues = λ p. false; reclaimable = λ ch. None }

-- channel 31 is withheld from now on
abbrev pub after_withholding : Account → Account
after_withholding l = record l { withheld = true }

-- ---- controller c died

-- the holder after the death of controller c
abbrev pub orphaned_holder : ℕ → Holder → Holder
orphaned_holder c (Pending d p) = if c == d then Orphaned p else Pending d p
orphaned_holder c (Connected p) = Connected p
orphaned_holder c (Orphaned p) = Orphaned p

-- the allocation after the death
abbrev pub orphaned_allocation : ℕ → Option Allocation → Option Allocation
orphaned_allocation c None = None
orphaned_allocation c (Some x) = Some (record { holder = orphaned_holder c x.holder; units = x.units })

-- the broadcast connection after the death
abbrev pub orphaned_owner : ℕ → Option Owner → Option Owner
orphaned_owner c None = None
orphaned_owner c (Some (Of d)) = Some (if c == d then Dead else Of d)
orphaned_owner c (Some Dead) = Some Dead

-- a plug's connections after the death
abbrev pub orphaned_connections : ℕ → Connections → Connections
orphaned_connections c s = record { counts = update s.counts c 0; orphaned = s.orphaned + s.counts c; broadcast = orphaned_owner c s.broadcast }

-- Its Pending allocation and its connections stay, and are nobody's; its outstanding request is dropped.
abbrev pub after_death : ℕ → Account → Account
after_death c l = record l {
  allocations = λ ch. orphaned_allocation c (l.allocations ch);
  outputs = λ p. orphaned_connections c (l.outputs p);
  inputs = λ p. orphaned_connections c (l.inputs p);
  outstanding = update l.outstanding c None;
}
