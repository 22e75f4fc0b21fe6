-- The flags of a node's input plugs after a request, and those of a device as it was declared.
use Rattle.fw_bus_state.proofs.Common.{◌≡◌, ℕ, ◌<◌, ◌==◌, ◌&&◌, ◌||◌, length, replicate, slice_index, slice_index_or, false, Option, Some, None, refl, ap, sym, ◌∙◌, arith, get_or-replicate}
use Rattle.fw_bus_state.proofs.Common.{length-replicate, DeviceKind, input_plugs_of, Request, is_active, NodeState}
use Rattle.fw_csr.specs.Requests.{offset_of}
use Rattle.fw_plug.specs.Plugs.{input_at, first_in_word}
use Rattle.fw_plug.specs.Words.{is_connected}
use Rattle.fw_node.specs.State as Nodes
use Rattle.fw_bus_state.proofs.Flags.{same_flag, row_flag, row_words, row_flags, first_flag}

-- a plug's flag stays exactly if its word does
pub record LeavesInputs (n m : NodeState) : Type 0 where
  pub plugs : length m.plugs.inputs ≡ length n.plugs.inputs
  pub size : length m.plugs.lingering_inputs ≡ length n.plugs.lingering_inputs
  pub flags : (k : ℕ) → k < length n.plugs.inputs → slice_index_or m.plugs.lingering_inputs k false
      ≡ ((slice_index m.plugs.inputs k == slice_index n.plugs.inputs k) && slice_index_or n.plugs.lingering_inputs k false)

pub same_inputs : (n : NodeState) → LeavesInputs n n
same_inputs n = record {
  plugs = refl;
  size = refl;
  flags = λ k lt. same_flag (slice_index n.plugs.inputs k) (slice_index_or n.plugs.lingering_inputs k false);
}

pub request_inputs : (o : Option Request) (n : NodeState) → length n.plugs.lingering_inputs ≡ length n.plugs.inputs → LeavesInputs n (Nodes.after_request o n)
request_inputs None n size = same_inputs n
request_inputs (Some r) n size = record {
  plugs = row_words at r n.plugs.inputs;
  size = row_flags at r n.plugs.inputs n.plugs.lingering_inputs;
  flags = λ k lt. row_flag at r n.plugs.inputs n.plugs.lingering_inputs k size lt;
}
  where
    at : Option ℕ
    at = input_at (length n.plugs.inputs) (offset_of r)

-- ---- a device as it was declared

pub first_inputs : (kind : DeviceKind) (device rate : ℕ)
    → length (Nodes.first_state kind device rate false).plugs.lingering_inputs ≡ length (Nodes.first_state kind device rate false).plugs.inputs
first_inputs kind device rate = length-replicate (input_plugs_of kind) false ∙ sym (length-replicate (input_plugs_of kind) first_in_word)

pub first_deaf : (kind : DeviceKind) (device rate k : ℕ) → k < length (Nodes.first_state kind device rate false).plugs.inputs
    → (let p = (Nodes.first_state kind device rate false).plugs in is_active (slice_index p.inputs k) (slice_index_or p.lingering_inputs k false) ≡ false)
first_deaf kind device rate k lt =
    let n : ℕ = input_plugs_of kind in
    let size = length-replicate n first_in_word in
    let word : slice_index (replicate n first_in_word) k ≡ first_in_word = get_or-replicate n k first_in_word 0 (omega (arith, lt, size)) in
    ap (λ w. is_active w (slice_index_or (replicate n false) k false)) word ∙ ap (λ b. is_connected first_in_word || b) (first_flag n k)
