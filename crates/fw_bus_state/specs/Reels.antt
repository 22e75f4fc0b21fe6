-- What the bus keeps of a recording, against a state of a run.
use Rattle.std.specs.Prelude.{ℕ, ◌≡◌, ◌<◌, List, Option, length, false, slice_index, slice_index_or, Bool}
use Rattle.fw_terms.specs.Tables.{at_plug}
use Rattle.fw_terms.specs.declared.plug.PlugAt.{PlugAt}
use Rattle.fw_plug.specs.Plugs.{is_active}
use Rattle.fw_devices.specs.Network.{node_at}
use Rattle.fw_node.specs.State.{NodeState}
use Rattle.fw_model_run.specs.Dubs.{Dub, hears_in}
use Rattle.fw_model_run.specs.State.{State}

-- each input plug of device d has its flag, and goes on exactly if it is among those that do
pub record HearsAs (n : NodeState) (d : ℕ) (lingers : PlugAt → Bool) : Type 0 where
  pub size : length n.plugs.lingering_inputs ≡ length n.plugs.inputs
  pub flags : (i : ℕ) → i < length n.plugs.inputs → slice_index_or n.plugs.lingering_inputs i false ≡ lingers (at_plug d i)

-- each device's node; of a device that is off no plug goes on
pub record HasHearers (nodes : List NodeState) (lingers : PlugAt → Bool) : Type 0 where
  pub each : (d : ℕ) → d < length nodes → HearsAs (node_at nodes d) d lingers

-- an input plug of device d hears exactly if the run says so
abbrev pub PlugsHear : NodeState → ℕ → State → Type 0
PlugsHear n d s = (i : ℕ) → i < length n.plugs.inputs
    → is_active (slice_index n.plugs.inputs i) (slice_index_or n.plugs.lingering_inputs i false) ≡ hears_in s.account s.dub (at_plug d i)

-- the deck that is tied, and the reel
pub record HasReel (tied : Option ℕ) (reel : List (List ℕ)) (k : Dub) : Type 0 where
  pub tied_is : tied ≡ k.tied
  pub reel_is : reel ≡ k.reel
