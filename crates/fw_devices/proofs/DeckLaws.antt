-- Frames and tapes leave each device what it is.
use Rattle.fw_devices.proofs.Common.{◌∙◌, ℕ, List, Bool, Option, Some, None, refl, ap, NodeState, Network}
use Rattle.std.proofs.Common.{option_map}
use Rattle.fw_csr.specs.declared.request.Request.{Request}
use Rattle.fw_fcp.specs.declared.frame.Frame.{Frame}
use Rattle.fw_avc.specs.Notices.{after_notice}
use Rattle.fw_tape.specs.Desks.{VendorRelation}
use Rattle.fw_tape.specs.declared.cassette.Cassette.{Cassette}
use Rattle.fw_tree.specs.declared.numbering.Numbering.{Numbering}
use Rattle.fw_node.specs.Fcp.{HasFollowed, after_frame}
use Rattle.fw_node.specs.State.{after_request}
use Rattle.fw_devices.specs.Decks.{with_tape, passed}
use Rattle.fw_devices.specs.Kept.{IsKept}
use Rattle.fw_devices.proofs.NetworkLaws.{IsSameDevice, AreSameDevices, network_kept, same_after}
use Rattle.fw_devices.proofs.ResetLaws.{found_same}

-- ---- one node

pub same_followed : (V : VendorRelation) (from : ℕ) (r : Option Request) (m n : NodeState) → HasFollowed V from r (after_request r m) n → IsSameDevice m n
same_followed V from r m n h =
    let s = same_after r m in
    record {
      kind = ap (λ (x : NodeState). x.kind) h.rest ∙ s.kind;
      device = ap (λ (x : NodeState). x.device) h.rest ∙ s.device;
      rate = ap (λ (x : NodeState). x.plugs.rate) h.rest ∙ s.rate;
      withheld = ap (λ (x : NodeState). x.withheld) h.rest ∙ s.withheld;
    }

pub same_sent : (m : NodeState) → IsSameDevice m (after_frame m)
same_sent m = go m.waiting
  where
    go : (o : Option (ℕ × Frame)) → IsSameDevice m (elim o as (λ _. NodeState) [ Some told ↦ record m { waiting = None } | None ↦ record m { unit = option_map after_notice m.unit } ])
    go (Some told) = record { kind = refl; device = refl; rate = refl; withheld = refl }
    go None = record { kind = refl; device = refl; rate = refl; withheld = refl }

pub same_tape : (tape : Option Cassette) (m : NodeState) → IsSameDevice m (with_tape tape m)
same_tape tape m = record { kind = refl; device = refl; rate = refl; withheld = refl }

pub same_moved : (cycles : ℕ) (m : NodeState) → IsSameDevice m (passed cycles m)
same_moved cycles m = record { kind = refl; device = refl; rate = refl; withheld = refl }

-- ---- all of them

-- what is kept of a network stays, if its nodes are of the same devices
pub kept_same : (n : Network) (room : ℕ) (current : Bool) (numbering : Numbering) (nodes : List NodeState) → IsKept n room current numbering → AreSameDevices n.nodes nodes
    → IsKept (record n { nodes = nodes }) room current numbering
kept_same n room current numbering nodes h same = record {
  network = network_kept n (record n { nodes = nodes }) h.network refl refl refl same;
  few = h.few;
  same = same.size ∙ h.same;
  nodes_room = h.nodes_room;
  found = λ now. found_same _ _ _ _ _ _ same (h.found now);
}
