-- Where the tables have the plugs, the nodes and the channels of the account.
use Rattle.fw_account_tables.proofs.Common.{PlugAt, ResetEntry, NodeRow, ◌≡◌, ◌<◌, ◌-◌, ◌/◌, ◌%◌, ℕ, zero, suc, Bool, true}
use Rattle.fw_account_tables.proofs.Common.{false, nat_lt, Option, Some, None, List, [], slice_index, cond, refl, ◌∙◌, ap, arith}
use Rattle.fw_account_tables.proofs.Common.{nat_tests, Account, is_pending, is_output, is_input, word_of, word_at, StandsFor}
use Rattle.fw_account_tables.proofs.Common.{ShowsReset, place, allocation_of, charge_at, Tables, false≢true, output_in_range}
use Rattle.fw_account_tables.proofs.Common.{find_to}
use Rattle.std.proofs.Common.{nat_le, slice_get, if◌then◌else◌}
use Rattle.std.proofs.lemmas.Nat.{div-mul-add, mod-mul-add}
use Rattle.fw_log_entry.specs.Network.{first_id, row_of_id}
use Rattle.fw_model_account.specs.Account.{pending_channel}
use Rattle.fw_model_account.specs.Words.{OutputPlug, InputPlug}
use Rattle.fw_account_tables.specs.Stands.{row_at}
use Rattle.fw_log_entry.specs.Network.{HasRange}
use Rattle.fw_model_account.specs.Network.{is_input_of}
use Rattle.fw_model_account.proofs.Network.{any_place}

-- the place of a plug on a device below 63, with a number below 31
pub place_low : (p : PlugAt) → (p.device < 63) × (p.plug < 31) → place p < 1953
place_low p h = omega arith

-- the device and the number of a place
pub place_device : (p : PlugAt) → p.plug < 31 → place p / 31 ≡ p.device
place_device p lt = div-mul-add p.device 31 p.plug lt

pub place_plug : (p : PlugAt) → p.plug < 31 → place p % 31 ≡ p.plug
place_plug p lt = mod-mul-add p.device 31 p.plug lt

-- an output plug that is there has a place
pub output_place : (t : Tables) (l : Account) (p : PlugAt) → StandsFor t l → nat_lt p.plug (slice_index t.outs p.device) ≡ true → place p < 1953
output_place t l p h lt = place_low p (output_in_range l.latest p h.sound.range (h.plugs.outs p ∙ lt))

-- an input plug of a reset entry has numbers in range
pub input_in_range : (o : Option ResetEntry) (p : PlugAt) → HasRange o → is_input o p ≡ true → (p.device < 63) × (p.plug < 31)
input_in_range None p w t = absurd (false≢true t)
input_in_range (Some r) p w t =
    let a = any_place (is_input_of p) r.nodes t in
    let d = w a.0 a.1 a.2 in
    grind (arith, nat_tests, a.3)

-- an input plug that is there has a place
pub input_place : (t : Tables) (l : Account) (p : PlugAt) → StandsFor t l → nat_lt p.plug (slice_index t.ins p.device) ≡ true → place p < 1953
input_place t l p h lt = place_low p (input_in_range l.latest p h.sound.range (h.plugs.ins p ∙ lt))

-- no node has an ID before the first reset entry
no_rows : (id : ℕ) → row_at [] id ≡ row_of_id None id
no_rows id = go (nat_le first_id id)
  where
    go : (b : Bool) → cond b (slice_get {X = NodeRow} [] (id - first_id)) None ≡ cond b None None
    go true = refl
    go false = refl

-- the node with an ID, by the nodes that are kept
pub row_is : (started : Bool) (manager : Option ℕ) (nodes : List NodeRow) (latest : Option ResetEntry) (id : ℕ) → ShowsReset started manager nodes latest → row_at nodes id ≡ row_of_id latest id
row_is started manager nodes None id h = rw h.2 (no_rows id)
row_is started manager nodes (Some r) id h = rw h.2 refl

-- two tests that agree below n find the same place
pub find_same : (n : ℕ) (f g : ℕ → Bool) → ((k : ℕ) → k < n → f k ≡ g k) → find_to n f ≡ find_to n g
unfolding find_to
find_same zero f g same = refl
find_same (suc n) f g same = ap (λ o. step o (f n)) (find_same n f g (λ k lt. same k (omega arith))) ∙ ap (λ b. step (find_to n g) b) (same n (omega arith))
  where
    step : Option ℕ → Bool → Option ℕ
    step o b = elim o [ Some k ↦ Some k | None ↦ cond b (Some n) None ]

-- the channel that a controller holds
pub pending_is_found : (t : Tables) (l : Account) (c : ℕ) → StandsFor t l → find_to 64 (λ ch. is_pending c (allocation_of (charge_at t.charges.items ch))) ≡ pending_channel c l.allocations
pending_is_found t l c h = find_same 64 _ _ (λ ch lt. ap (is_pending c) (h.resources.charges ch lt))

-- what is told of an output plug
pub output_told : (t : Tables) (l : Account) (p : PlugAt) (w : ℕ) → StandsFor t l → nat_lt p.plug (slice_index t.outs p.device) ≡ true → w ≡ word_at t.outputs.items p
    → Some w ≡ (if is_output l.latest p then Some (word_of l (OutputPlug p)) else None)
output_told t l p w h lt e = let is : is_output l.latest p ≡ true = h.plugs.outs p ∙ lt in rw (is, e) (ap Some (h.outputs.words p is))

pub output_missing : (t : Tables) (l : Account) (p : PlugAt) → StandsFor t l → nat_lt p.plug (slice_index t.outs p.device) ≡ false
    → None ≡ (if is_output l.latest p then Some (word_of l (OutputPlug p)) else None)
output_missing t l p h no_plug = let is : is_output l.latest p ≡ false = h.plugs.outs p ∙ no_plug in rw is refl

-- what is told of an input plug
pub input_told : (t : Tables) (l : Account) (p : PlugAt) (w : ℕ) → StandsFor t l → nat_lt p.plug (slice_index t.ins p.device) ≡ true → w ≡ word_at t.inputs.items p
    → Some w ≡ (if is_input l.latest p then Some (word_of l (InputPlug p)) else None)
input_told t l p w h lt e = let is : is_input l.latest p ≡ true = h.plugs.ins p ∙ lt in rw (is, e) (ap Some (h.inputs.words p is))

pub input_missing : (t : Tables) (l : Account) (p : PlugAt) → StandsFor t l → nat_lt p.plug (slice_index t.ins p.device) ≡ false
    → None ≡ (if is_input l.latest p then Some (word_of l (InputPlug p)) else None)
input_missing t l p h no_plug = let is : is_input l.latest p ≡ false = h.plugs.ins p ∙ no_plug in rw is refl
