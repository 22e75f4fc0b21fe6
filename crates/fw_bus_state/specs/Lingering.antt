-- The output plugs of the nodes that linger, and those that talk, against the account.
use Rattle.std.specs.Prelude.{ℕ, ◌≡◌, ◌<◌, List, length, false, slice_index, slice_index_or, Bool}
use Rattle.fw_terms.specs.Tables.{at_plug}
use Rattle.fw_terms.specs.declared.plug.PlugAt.{PlugAt}
use Rattle.fw_plug.specs.Plugs.{is_active}
use Rattle.fw_model_account.specs.Account.{Account, talks}
use Rattle.fw_node.specs.State.{NodeState}
use Rattle.fw_devices.specs.Network.{node_at}

-- each output plug of device d has its flag, and lingers exactly if it is among those that go on
pub record LingersAs (n : NodeState) (d : ℕ) (continues : PlugAt → Bool) : Type 0 where
  pub size : length n.plugs.lingering_outputs ≡ length n.plugs.outputs
  pub flags : (k : ℕ) → k < length n.plugs.outputs → slice_index_or n.plugs.lingering_outputs k false ≡ continues (at_plug d k)

-- each device's node; of a device that is off no plug goes on, and so none lingers
pub record HasLingering (nodes : List NodeState) (continues : PlugAt → Bool) : Type 0 where
  pub each : (d : ℕ) → d < length nodes → LingersAs (node_at nodes d) d continues

-- an output plug of device d talks exactly if the account says so
abbrev pub TalksAs : NodeState → ℕ → Account → Type 0
TalksAs n d l = (k : ℕ) → k < length n.plugs.outputs
    → is_active (slice_index n.plugs.outputs k) (slice_index_or n.plugs.lingering_outputs k false) ≡ talks l (at_plug d k)
