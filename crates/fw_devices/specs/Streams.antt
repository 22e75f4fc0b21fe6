-- Which devices talk, by channel.
use Rattle.std.specs.Prelude.{ℕ, ◌≡◌, ◌≤◌, ◌<◌, List, Option, Some, None, is_some, length, slice_index_or, IsTrue}
use Rattle.fw_node.specs.State.{NodeState}
use Rattle.fw_node.specs.Streams.{talking_on}
use Rattle.fw_devices.specs.Network.{node_at}

-- by channel: of the first n devices, one whose output plug talks on it, wherever there is one
pub record AreTalkers (n : ℕ) (nodes : List NodeState) (talkers : List (Option ℕ)) : Type 0 where
  pub size : length talkers ≡ 64
  pub talk : (channel d : ℕ) → slice_index_or talkers channel None ≡ Some d → (d < n) × (talking_on (node_at nodes d) ≡ Some channel)
  pub all : (d channel : ℕ) → d < n → talking_on (node_at nodes d) ≡ Some channel → IsTrue (is_some (slice_index_or talkers channel None))

-- none talks on this channel or on one after it
pub record AreSilentFrom (end : ℕ) (talkers : List (Option ℕ)) : Type 0 where
  pub each : (channel : ℕ) → end ≤ channel → slice_index_or talkers channel None ≡ None
