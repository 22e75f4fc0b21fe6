-- The account as a list of what is allocated, and what is allocated for flows alone.
use Rattle.fw_terms.specs.declared.plug.PlugAt.{PlugAt}
use Rattle.std.specs.Prelude.{◌≡◌, ◌⊎◌, ℕ, zero, suc, ◌==◌, Bool, false, if◌then◌else◌, Option, Some, None, List, [], ◌∷◌, ◌++◌, sum_by, IsTrue}
use Rattle.std.specs.List.{list_any}
use Rattle.fw_model_account.specs.Account.{Holder, Connected, Orphaned, Allocation, Account, has_connection}
use Rattle.fw_plug.specs.Words.{units_of}

-- one thing that is allocated, and its holder: a channel, or bandwidth units
pub data Resource : Type 0 where
  Channel : (ch : ℕ) → (holder : Holder) → Resource
  Units : (u : ℕ) → (holder : Holder) → Resource

-- what the table has at a channel
abbrev pub resources_at : ℕ → Option Allocation → List Resource
resources_at ch None = []
resources_at ch (Some x) = Channel ch x.holder ∷ (if x.units == 0 then [] else Units x.units x.holder ∷ [])

-- what the table has at the channels below n
unfoldable pub resources_below : ℕ → (ℕ → Option Allocation) → List Resource
resources_below zero allocations = []
resources_below (suc n) allocations = resources_below n allocations ++ resources_at n (allocations n)

-- all that is allocated
abbrev pub resources : Account → List Resource
resources l = resources_below 64 l.allocations

-- the units of one thing that is allocated
abbrev pub units_in : Resource → ℕ
units_in (Channel ch holder) = 0
units_in (Units u holder) = u

-- whether it is this channel
abbrev pub is_channel : ℕ → Resource → Bool
is_channel ch (Channel k holder) = k == ch
is_channel ch (Units u holder) = false

-- the units of the list, and whether it names a channel
abbrev pub listed_units : List Resource → ℕ
listed_units xs = sum_by units_in xs

-- whether the list names a channel
abbrev pub lists_channel : ℕ → List Resource → Bool
lists_channel ch xs = list_any (is_channel ch) xs

-- a channel whose holder passes
abbrev pub is_channel_of : (Holder → Bool) → Resource → Bool
is_channel_of test (Channel ch holder) = test holder
is_channel_of test (Units u holder) = false

-- units whose holder passes
abbrev pub is_units_of : (Holder → Bool) → Resource → Bool
is_units_of test (Channel ch holder) = false
is_units_of test (Units u holder) = test holder

-- Allocated is exactly what flows take: each connected plug has its channel and units, and each allocation is that of such a
-- plug, or one that a controller left that died since the reset.
pub record IsAllocatedForFlows (l : Account) : Type 0 where
  pub each : (ch : ℕ) (x : Allocation) → l.allocations ch ≡ Some x
      → ((p : PlugAt) × IsTrue (has_connection (l.outputs p)) × ((l.settings p).channel ≡ ch) × (x ≡ record { holder = Connected p; units = units_of (l.settings p) }))
      ⊎ ((p : PlugAt) × (x.holder ≡ Orphaned p))
  pub all : (p : PlugAt) → IsTrue (has_connection (l.outputs p)) → l.allocations (l.settings p).channel ≡ Some (record { holder = Connected p; units = units_of (l.settings p) })
