-- The flags of a node's output plugs after a request, a bus reset and the end of the second.
use Rattle.fw_bus_state.proofs.Common.{◌≡◌, ◌≢◌, ◌⊎◌, inl, inr, ℕ, zero, suc, ◌<◌, ◌==◌, ◌&&◌, ◌||◌, List, [], ◌∷◌, length, map, replicate, slice_index, slice_index_or, slice_set, Bool, false, Option}
use Rattle.fw_bus_state.proofs.Common.{Some, None, refl, ap, sym, subst, ◌∙◌, arith, cases_eq, nat_tests, get_or-set_same, get_or-set_other, get_or-replicate, length-set, length-replicate, DeviceKind}
use Rattle.fw_bus_state.proofs.Common.{output_plugs_of, field, Request, is_active, NodeState}
use Rattle.fw_csr.specs.Replies.{word_after}
use Rattle.fw_csr.specs.Requests.{offset_of}
use Rattle.fw_plug.specs.Plugs.{active, after_at, lingering_after, output_at, first_out_word}
use Rattle.fw_plug.specs.Words.{is_connected}
use Rattle.fw_node.specs.State as Nodes

-- ---- a request

-- a plug's flag stays exactly if its word does
pub record LeavesFlags (n m : NodeState) : Type 0 where
  pub plugs : length m.plugs.outputs ≡ length n.plugs.outputs
  pub size : length m.plugs.lingering_outputs ≡ length n.plugs.lingering_outputs
  pub flags : (k : ℕ) → k < length n.plugs.outputs → slice_index_or m.plugs.lingering_outputs k false
      ≡ ((slice_index m.plugs.outputs k == slice_index n.plugs.outputs k) && slice_index_or n.plugs.lingering_outputs k false)

pub same_flag : (w : ℕ) (b : Bool) → b ≡ ((w == w) && b)
same_flag w b = grind (arith, nat_tests)

pub same_flags : (n : NodeState) → LeavesFlags n n
same_flags n = record {
  plugs = refl;
  size = refl;
  flags = λ k lt. same_flag (slice_index n.plugs.outputs k) (slice_index_or n.plugs.lingering_outputs k false);
}

-- a request at a plug of a row, or at none
pub row_flag : (o : Option ℕ) (r : Request) (words : List ℕ) (flags : List Bool) (k : ℕ) → length flags ≡ length words → k < length words
    → slice_index_or (lingering_after o r words flags) k false ≡ ((slice_index (after_at o r words) k == slice_index words k) && slice_index_or flags k false)
row_flag None r words flags k size lt = same_flag (slice_index words k) (slice_index_or flags k false)
row_flag (Some n) r words flags k size lt = go (cases_eq k n)
  where
    word : ℕ
    word = word_after (slice_index words n) r

    flag : Bool
    flag = (word == slice_index words n) && slice_index_or flags n false

    Is : ℕ → Type 0
    Is k = slice_index_or (slice_set flags n flag) k false ≡ ((slice_index (slice_set words n word) k == slice_index words k) && slice_index_or flags k false)

    go : (k ≡ n) ⊎ (k ≢ n) → Is k
    go (inl e) =
        let low : n < length words = omega (arith, lt, e) in
        subst Is (sym e)
        (get_or-set_same flags n flag false (omega (arith, low, size))
        ∙ ap (λ w. (w == slice_index words n) && slice_index_or flags n false) (sym (get_or-set_same words n word 0 low)))
    go (inr ne) =
        get_or-set_other flags n k flag false ne
        ∙ (same_flag (slice_index words k) (slice_index_or flags k false)
        ∙ ap (λ w. (w == slice_index words k) && slice_index_or flags k false) (sym (get_or-set_other words n k word 0 ne)))

pub row_words : (o : Option ℕ) (r : Request) (words : List ℕ) → length (after_at o r words) ≡ length words
row_words None r words = refl
row_words (Some n) r words = length-set words n _

pub row_flags : (o : Option ℕ) (r : Request) (words : List ℕ) (flags : List Bool) → length (lingering_after o r words flags) ≡ length flags
row_flags None r words flags = refl
row_flags (Some n) r words flags = length-set flags n _

pub request_flags : (o : Option Request) (n : NodeState) → length n.plugs.lingering_outputs ≡ length n.plugs.outputs → LeavesFlags n (Nodes.after_request o n)
request_flags None n size = same_flags n
request_flags (Some r) n size = record {
  plugs = row_words at r n.plugs.outputs;
  size = row_flags at r n.plugs.outputs n.plugs.lingering_outputs;
  flags = λ k lt. row_flag at r n.plugs.outputs n.plugs.lingering_outputs k size lt;
}
  where
    at : Option ℕ
    at = output_at (length n.plugs.outputs) (offset_of r)

-- ---- a bus reset

-- a plug that is active lingers
pub active_at : (words : List ℕ) (flags : List Bool) (k : ℕ) → length flags ≡ length words → k < length words
    → slice_index_or (active words flags) k false ≡ is_active (slice_index words k) (slice_index_or flags k false)
active_at [] flags k size lt = absurd (omega (arith, lt))
active_at (word ∷ words) [] k size lt = absurd (omega (arith, size))
active_at (word ∷ words) (flag ∷ flags) zero size lt = refl
active_at (word ∷ words) (flag ∷ flags) (suc k) size lt = active_at words flags k (omega (arith, size)) (omega (arith, lt))

pub active_size : (words : List ℕ) (flags : List Bool) → length flags ≡ length words → length (active words flags) ≡ length words
active_size [] flags size = refl
active_size (word ∷ words) [] size = absurd (omega (arith, size))
active_size (word ∷ words) (flag ∷ flags) size = ap (λ k. suc k) (active_size words flags (omega (arith, size)))

-- ---- no flag is set

-- after the second
pub rested_flag : (flags : List Bool) (k : ℕ) → slice_index_or (map (λ l. false) flags) k false ≡ false
rested_flag [] k = refl
rested_flag (flag ∷ flags) zero = refl
rested_flag (flag ∷ flags) (suc k) = rested_flag flags k

pub rested_size : (flags : List Bool) → length (map (λ l. false) flags) ≡ length flags
rested_size [] = refl
rested_size (flag ∷ flags) = ap (λ k. suc k) (rested_size flags)

-- in a device that is as it was declared
pub first_flag : (count k : ℕ) → slice_index_or (replicate count false) k false ≡ false
first_flag zero k = refl
first_flag (suc count) zero = refl
first_flag (suc count) (suc k) = first_flag count k

pub first_size : (kind : DeviceKind) (device rate : ℕ)
    → length (Nodes.first_state kind device rate false).plugs.lingering_outputs ≡ length (Nodes.first_state kind device rate false).plugs.outputs
first_size kind device rate = length-replicate (output_plugs_of kind) false ∙ sym (length-replicate (output_plugs_of kind) (first_out_word rate))

-- and it is not connected
first_word_rests : (rate : ℕ) → rate < 4 → is_connected (first_out_word rate) ≡ false
first_word_rests rate low =
    let broadcast : field (first_out_word rate) 1 1 ≡ 0 = omega (arith, low) in
    let counter : field (first_out_word rate) 2 7 ≡ 0 = omega (arith, low) in
    grind (arith, nat_tests, broadcast, counter)

pub first_rests : (kind : DeviceKind) (device rate k : ℕ) → rate < 4 → k < length (Nodes.first_state kind device rate false).plugs.outputs
    → (let p = (Nodes.first_state kind device rate false).plugs in is_active (slice_index p.outputs k) (slice_index_or p.lingering_outputs k false) ≡ false)
first_rests kind device rate k low lt =
    let n : ℕ = output_plugs_of kind in
    let size = length-replicate n (first_out_word rate) in
    let word : slice_index (replicate n (first_out_word rate)) k ≡ first_out_word rate =
    get_or-replicate n k (first_out_word rate) 0 (omega (arith, lt, size)) in
    ap (λ w. is_active w (slice_index_or (replicate n false) k false)) word
    ∙ (ap (λ b. is_connected (first_out_word rate) || b) (first_flag n k) ∙ ap (λ b. b || false) (first_word_rests rate low))
