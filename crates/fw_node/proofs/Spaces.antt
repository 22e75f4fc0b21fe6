-- Registers depend on the words of the plugs that are there alone, and a request changes the word at its offset alone.
use Rattle.std.proofs.Common.{◌≡◌, ◌≢◌, ℕ, ◌+◌, ◌*◌, ◌<◌, cond, List, length, Option, Some, None, refl, sym, ◌∙◌, ap, arith, ◌⊎◌, inl, inr, ◌-◌, ◌/◌}
use Rattle.std.specs.Prelude.{slice_index, slice_set, option_map}
use Rattle.std.proofs.lemmas.Bool.{cases_eq}
use Rattle.std.proofs.lemmas.Bool.Decides.{nat_tests}
use Rattle.std.proofs.lemmas.Grind.{common_steps, get_or-set_at}
use Rattle.std.proofs.lemmas.List.{get_or-set_other}
use Rattle.fw_terms.specs.Devices.{output_plugs_of, input_plugs_of}
use Rattle.fw_csr.specs.declared.request.Request.{Request}
use Rattle.fw_csr.specs.declared.register.RegisterAccess.TheVariants.{ReadSwap}
use Rattle.fw_csr.specs.Requests.{offset_of}
use Rattle.fw_csr.specs.Replies.{word_after}
use Rattle.fw_csr.specs.Manager as Manager
use Rattle.fw_plug.specs.Plugs as Plugs
use Rattle.fw_plug.specs.Plugs.{plug_at, plug_register}
use Rattle.fw_node.specs.Space.{Space, register_at, core_register_at, manager_register_at, plug_table, lies_within, space_after}
use Rattle.fw_node.specs.State.{NodeState, HasSpace, space_of, after_request}

plug_at_below : (first plugs offset n : ℕ) → plug_at first plugs offset ≡ Some n → n < plugs
plug_at_below first plugs offset n e = grind (arith, nat_tests)

pub same_plug_register : (f g : ℕ → ℕ) (first plugs offset : ℕ) → ((k : ℕ) → k < plugs → f k ≡ g k) → plug_register f (plug_at first plugs offset) ≡ plug_register g (plug_at first plugs offset)
same_plug_register f g first plugs offset same = go (plug_at first plugs offset) refl
  where
    go : (o : Option ℕ) → plug_at first plugs offset ≡ o → plug_register f o ≡ plug_register g o
    go None e = refl
    go (Some n) e = ap (λ w. Some (ReadSwap w)) (same n (plug_at_below first plugs offset n e))

-- ---- what is answered

core_same : (n : NodeState) (s : Space) (offset : ℕ) → HasSpace n s → core_register_at (space_of s.number s.cycle n) offset ≡ core_register_at s offset
core_same n s offset h = λ i. core_register_at (record s { kind = h.kind i; device = h.device i }) offset

plugs_same : (n : NodeState) (s : Space) (offset : ℕ) → HasSpace n s → Plugs.register_at (plug_table (space_of s.number s.cycle n)) offset ≡ Plugs.register_at (plug_table s) offset
plugs_same n s offset h = kept ∙ words
  where
    kept : Plugs.register_at (plug_table (space_of s.number s.cycle n)) offset
        ≡ Plugs.register_at (plug_table (record s { output_word = slice_index n.plugs.outputs; input_word = slice_index n.plugs.inputs })) offset
    kept = λ i. Plugs.register_at (plug_table (record s { kind = h.kind i; rate = h.rate i; output_word = slice_index n.plugs.outputs; input_word = slice_index n.plugs.inputs })) offset

    words : Plugs.register_at (plug_table (record s { output_word = slice_index n.plugs.outputs; input_word = slice_index n.plugs.inputs })) offset ≡ Plugs.register_at (plug_table s) offset
    words =
        rw (
          same_plug_register (slice_index n.plugs.outputs) s.output_word 0xFFFF_F000_0904 (output_plugs_of s.kind) offset h.output_words,
          same_plug_register (slice_index n.plugs.inputs) s.input_word 0xFFFF_F000_0984 (input_plugs_of s.kind) offset h.input_words,
        ) refl

pub registers_same : (n : NodeState) (s : Space) (offset : ℕ) → HasSpace n s → register_at (space_of s.number s.cycle n) offset ≡ register_at s offset
registers_same n s offset h =
    λ i. cond (lies_within 0xFFFF_F000_021C 0xFFFF_F000_0228 offset) (manager_register_at (h.manager i) offset)
    (cond (lies_within 0xFFFF_F000_0900 0xFFFF_F000_09FC offset) (plugs_same n s offset h i) (core_same n s offset h i))

-- ---- what is left

found : (first plugs offset n : ℕ) → plug_at first plugs offset ≡ Some n → (offset ≡ first + 4 * n) × (n < plugs)
found first plugs offset n e = (grind (arith, nat_tests), grind (arith, nat_tests))

missing : (first plugs offset k : ℕ) → plug_at first plugs offset ≡ None → k < plugs → offset ≢ first + 4 * k
missing first plugs offset k e lt same = let n : (offset - first) / 4 ≡ k = omega arith in grind (arith, nat_tests)

changed_here : (place word : ℕ) (r : Request) → offset_of r ≡ place → Manager.after_at place r word ≡ word_after word r
changed_here place word r e = grind (arith, nat_tests)

pub kept_elsewhere : (place word : ℕ) (r : Request) → offset_of r ≢ place → Manager.after_at place r word ≡ word
kept_elsewhere place word r e = grind (arith, nat_tests)

length_after : (o : Option ℕ) (r : Request) (words : List ℕ) → length (Plugs.after_at o r words) ≡ length words
length_after o r words = grind (arith, common_steps)

-- the word of a plug after a request, in the row and at its offset
after_same : (first plugs : ℕ) (words : List ℕ) (word : ℕ → ℕ) (r : Request) → length words ≡ plugs → ((k : ℕ) → k < plugs → slice_index words k ≡ word k)
    → (k : ℕ) → k < plugs → slice_index (Plugs.after_at (plug_at first (length words) (offset_of r)) r words) k ≡ Manager.after_at (first + 4 * k) r (word k)
after_same first plugs words word r size same k lt = go (plug_at first (length words) (offset_of r)) refl
  where
    go : (o : Option ℕ) → plug_at first (length words) (offset_of r) ≡ o → slice_index (Plugs.after_at o r words) k ≡ Manager.after_at (first + 4 * k) r (word k)
    go None e = same k lt ∙ sym (kept_elsewhere (first + 4 * k) (word k) r (missing first (length words) (offset_of r) k e (omega arith)))
    go (Some n) e = at n (found first (length words) (offset_of r) n e) (cases_eq k n)
      where
        at : (n : ℕ) → (offset_of r ≡ first + 4 * n) × (n < length words) → (k ≡ n) ⊎ (k ≢ n)
            → slice_index (slice_set words n (word_after (slice_index words n) r)) k ≡ Manager.after_at (first + 4 * k) r (word k)
        at n f (inl e) =
            get_or-set_at words n k (word_after (slice_index words n) r) 0 e f.1 ∙ ap (λ j. word_after (slice_index words j) r) (sym e) ∙ ap (λ w. word_after w r) (same k lt)
            ∙ sym (changed_here (first + 4 * k) (word k) r (f.0 ∙ ap (λ j. first + 4 * j) (sym e)))
        at n f (inr ne) =
            let elsewhere : offset_of r ≢ first + 4 * k = λ e. absurd (ne (omega arith)) in
            get_or-set_other words n k (word_after (slice_index words n) r) 0 ne ∙ same k lt ∙ sym (kept_elsewhere (first + 4 * k) (word k) r elsewhere)

pub space_kept : (n : NodeState) (s : Space) (r : Request) → HasSpace n s → HasSpace (after_request (Some r) n) (space_after s r)
space_kept n s r h = record {
  number = h.number;
  kind = h.kind;
  device = h.device;
  rate = h.rate;
  outputs = length_after (plug_at 0xFFFF_F000_0904 (length n.plugs.outputs) (offset_of r)) r n.plugs.outputs ∙ h.outputs;
  inputs = length_after (plug_at 0xFFFF_F000_0984 (length n.plugs.inputs) (offset_of r)) r n.plugs.inputs ∙ h.inputs;
  output_words = after_same 0xFFFF_F000_0904 (output_plugs_of s.kind) n.plugs.outputs s.output_word r h.outputs h.output_words;
  input_words = after_same 0xFFFF_F000_0984 (input_plugs_of s.kind) n.plugs.inputs s.input_word r h.inputs h.input_words;
  manager = ap (λ o. option_map (λ m. Manager.words_after m r) o) h.manager;
}
