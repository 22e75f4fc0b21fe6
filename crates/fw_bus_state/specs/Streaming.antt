-- What the bus counts of the streams of output plugs. A device has one output plug at most, which is number 0 (own).
use Rattle.std.specs.Prelude.{ℕ, ◌≡◌, ◌≤◌, ◌<◌, ◌+◌, ◌%◌, List, [], ◌∷◌, length, None, if◌then◌else◌, slice_index_or, slice_set, IsFalse}
use Rattle.fw_terms.specs.Tables.{at_plug}
use Rattle.fw_terms.specs.declared.plug.PlugAt.{PlugAt}
use Rattle.fw_tape.specs.Blocks.{blocks_among}
use Rattle.fw_node.specs.State.{NodeState}
use Rattle.fw_node.specs.Streams.{talks}
use Rattle.fw_devices.specs.Decks.{tape_of}
use Rattle.fw_devices.specs.Network.{node_at}

-- the count of a device; that of one that is not declared is 0
abbrev pub count_at : List ℕ → ℕ → ℕ
count_at counts d = slice_index_or counts d 0

-- the data packets that each plug has sent since it began to talk, modulo 256
pub record HasStreams (counts : List ℕ) (sent : PlugAt → ℕ) : Type 0 where
  pub size : length counts ≡ 63
  pub each : (d : ℕ) → count_at counts d ≡ sent (at_plug d 0) % 256

-- cycles go by: a plug that talks counts the blocks that its tape gives in them, and one that does not talk begins anew
abbrev pub counted_for : ℕ → NodeState → ℕ → ℕ
counted_for cycles n count = if talks n then (count + blocks_among (tape_of n) cycles) % 256 else 0

-- the counts of all devices after so many cycles
abbrev pub counted_on : ℕ → List NodeState → List ℕ → List ℕ
counted_on cycles [] counts = counts
counted_on cycles (n ∷ nodes) [] = []
counted_on cycles (n ∷ nodes) (count ∷ counts) = counted_for cycles n count ∷ counted_on cycles nodes counts

-- time changes nothing of it: its plug does not talk, no tape is in, and nothing is counted
pub record IsStill (n : NodeState) (count : ℕ) : Type 0 where
  pub silent : IsFalse (talks n)
  pub empty : tape_of n ≡ None
  pub none : count ≡ 0

-- so are all devices from there on
pub record AreStillFrom (end : ℕ) (nodes : List NodeState) (counts : List ℕ) : Type 0 where
  pub few : end ≤ length nodes
  pub each : (d : ℕ) → end ≤ d → d < length nodes → IsStill (node_at nodes d) (count_at counts d)

-- the plug of a device begins anew if it does not talk
abbrev pub looked_at : ℕ → List NodeState → List ℕ → List ℕ
looked_at d nodes counts = slice_set counts d (if talks (node_at nodes d) then count_at counts d else 0)
