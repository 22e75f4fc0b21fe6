-- A sound account, and what follows for those who talk.
use Rattle.fw_terms.specs.declared.plug.PlugAt.{PlugAt}
use Rattle.fw_terms.specs.Tables.{sum_plugs}
use Rattle.std.specs.Prelude.{◌≡◌, ◌<◌, ◌≤◌, ◌⊎◌, ℕ, true, if◌then◌else◌, Some, None, IsTrue, IsFalse}
use Rattle.fw_model_account.specs.Account.{Pending, Connected, Allocation, Flow, Account, total, reclaimable_total, counter, has_connection, is_pending, plug_of, talks, is_withheld}
use Rattle.fw_log_entry.specs.Network.{HasRange}
use Rattle.fw_model_account.specs.Network.{is_output, is_input}
use Rattle.fw_plug.specs.Words.{units_of, FitsRegister}

-- nothing is allocated, connected, reclaimable or outstanding
pub record IsEmpty (l : Account) : Type 0 where
  pub no_second : IsFalse l.reclaiming
  pub allocations : (ch : ℕ) → l.allocations ch ≡ None
  pub outputs : (p : PlugAt) → IsFalse (has_connection (l.outputs p))
  pub inputs : (p : PlugAt) → IsFalse (has_connection (l.inputs p))
  pub continues : (p : PlugAt) → IsFalse (l.continues p)
  pub addressed : (c : ℕ) → l.addressed c ≡ None
  pub outstanding : (c : ℕ) → l.outstanding c ≡ None

-- The account is keyed: a channel has one allocation, so allocated channels are distinct, and units are allocated only with
-- a channel, to its holder. Reclaimable flows are keyed by channel in the same way, and a plug has one broadcast connection
-- at most.
pub record IsSound (l : Account) : Type 0 where
  -- at most 4915 units are allocated, with channels 0 to 63
  pub load : total l.allocations ≤ 4915
  pub bounded : (ch : ℕ) (x : Allocation) → l.allocations ch ≡ Some x → ch < 64
  -- A connected output plug has its channel and its units, and what is allocated as Connected is that of such a plug. So a
  -- plug has one such channel, and units with it, exactly if it is connected.
  pub allocated : (p : PlugAt) → IsTrue (has_connection (l.outputs p)) → l.allocations (l.settings p).channel ≡ Some (record { holder = Connected p; units = units_of (l.settings p) })
  pub connected : (ch : ℕ) (p : PlugAt) (u : ℕ) → l.allocations ch ≡ Some (record { holder = Connected p; units = u }) → IsTrue (has_connection (l.outputs p)) × (ch ≡ (l.settings p).channel)
  -- a controller has one Pending allocation at most, for the output plug that it last addressed
  pub one_pending : (c ch other : ℕ) → is_pending c (l.allocations ch) ≡ true → is_pending c (l.allocations other) ≡ true → ch ≡ other
  pub for_addressed : (c ch : ℕ) (p : PlugAt) (u : ℕ) → l.allocations ch ≡ Some (record { holder = Pending c p; units = u }) → l.addressed c ≡ Some p
  -- reclaimable flows are of distinct plugs, fit the bus together, and end with the reclaim second
  pub reclaimable_once : (a b : ℕ) (p : PlugAt) (u v : ℕ) → l.reclaimable a ≡ Some (record { plug = p; units = u }) → l.reclaimable b ≡ Some (record { plug = p; units = v }) → a ≡ b
  pub reclaimable_load : reclaimable_total l.reclaimable ≤ 4915
  pub reclaimable_bounded : (ch : ℕ) (f : Flow) → l.reclaimable ch ≡ Some f → ch < 64
  pub reclaimable_ends : IsFalse l.reclaiming → (ch : ℕ) → l.reclaimable ch ≡ None
  -- a channel that is withheld is not allocated, and no flow on it is reclaimable
  pub withheld_unallocated : (ch : ℕ) → IsTrue (is_withheld l.withheld ch) → l.allocations ch ≡ None
  pub withheld_unclaimed : (ch : ℕ) → IsTrue (is_withheld l.withheld ch) → l.reclaimable ch ≡ None
  -- before the first reset entry there is nothing
  pub begins : l.latest ≡ None → IsEmpty l
  -- A plug that is connected or goes on talking is one of the latest reset entry; one that goes on has no connection, and is
  -- reclaimable with the channel and units that it keeps.
  pub there : (p : PlugAt) → IsTrue (talks l p) → IsTrue (is_output l.latest p)
  pub inputs_there : (p : PlugAt) → IsTrue (has_connection (l.inputs p)) → IsTrue (is_input l.latest p)
  pub continuing : (p : PlugAt) → IsTrue (l.continues p) → IsFalse (has_connection (l.outputs p)) × (l.reclaimable (l.settings p).channel ≡ Some (record { plug = p; units = units_of (l.settings p) }))
  -- in a reclaim second all that is allocated is reclaimable: the plug with that channel and those units
  pub reclaimed : IsTrue l.reclaiming → (ch : ℕ) (x : Allocation) → l.allocations ch ≡ Some x → (u : ℕ) × (l.reclaimable ch ≡ Some (record { plug = plug_of x.holder; units = u }))
      × ((x.units ≡ 0) ⊎ (x.units ≡ u))
  -- a plug has at most 63 point-to-point connections, all of devices below 63
  pub counts : (p : PlugAt) → (counter (l.outputs p) ≤ 63) × (counter (l.inputs p) ≤ 63)
  pub controllers : (p : PlugAt) (c : ℕ) → 63 ≤ c → ((l.outputs p).counts c ≡ 0) × ((l.inputs p).counts c ≡ 0)
  -- the latest reset entry has numbers in range, and its plugs keep what fits their registers
  pub range : HasRange l.latest
  pub settings_fit : (p : PlugAt) → IsTrue (is_output l.latest p) → FitsRegister (l.settings p)
  pub channels_fit : (p : PlugAt) → IsTrue (is_input l.latest p) → l.input_channel p < 64

-- the units of all that talks
abbrev pub load : Account → ℕ
load l = sum_plugs (λ p. if talks l p then units_of (l.settings p) else 0)

-- no channel has two talkers, and the talkers fit
pub record IsConflictFree (l : Account) : Type 0 where
  pub one_talker : (p q : PlugAt) → IsTrue (talks l p) → IsTrue (talks l q) → (l.settings p).channel ≡ (l.settings q).channel → p ≡ q
  pub fits : load l ≤ 4915
