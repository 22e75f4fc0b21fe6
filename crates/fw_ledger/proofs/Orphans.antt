-- The tables after the death of a controller.
use Rattle.fw_ledger.proofs.Common.{PlugAt, ◌≡◌, ◌≢◌, ◌<◌, ◌≤◌, ◌+◌, zero, suc, [], ◌-◌, ◌⊎◌, inl, inr, ℕ, Bool, true, false, nat_lt, Option, Some, None, List, length, map, get_or}
use Rattle.fw_ledger.proofs.Common.{slice_set, Vec, Global, cond, refl, sym, ◌∙◌, ap, arith, get_or-set_same, get_or-set_other, length-set, cases_eq, nat_tests, update, Account, Allocation}
use Rattle.fw_ledger.proofs.Common.{Connections, is_free, is_open, is_output, is_input, orphaned_charge, orphaned_seats, StandsFor, ResourcesFor, SeatsFor, AskedFor, allocation_of, seats_at, no_seats}
use Rattle.fw_ledger.proofs.Common.{place, Tables, Charge, Free, Pending, Connected, Seats, Asked, NotAsked, same_open, output_in_range}
use Rattle.std.proofs.Common.{◌∷◌}
use Rattle.std.specs.Vec.{with_items}
use Rattle.std.proofs.lemmas.List.{with_items_is}
use Rattle.fw_model_account.specs.Events.{after_death, orphaned_allocation, orphaned_connections, orphaned_owner}
use Rattle.fw_ledger.specs.Deaths.{orphaned_broadcaster}
use Rattle.fw_account_tables.specs.Stands.{OutputsFor, InputsFor, owner_of, asked_at}
use Rattle.fw_account_tables.specs.declared.tables.Charge.TheVariants.{Orphaned}
use Rattle.fw_account_tables.specs.declared.tables.Broadcaster.{Broadcaster}
use Rattle.fw_account_tables.specs.declared.tables.Broadcaster.TheVariants.{Nobody, Controller, Died}
use Rattle.fw_model_account.proofs.Deaths.{death_keeps, orphaned_total, orphaned_counter, orphaned_there}
use Rattle.fw_model_account.proofs.Connections.{NoneBeyond}
use Rattle.fw_account_tables.proofs.Plugs.{input_in_range, place_low}
use Rattle.fw_account_tables.proofs.Swapping.{bits_same}
use Rattle.fw_account_tables.proofs.Related.{related_set, update_same, update_other}

-- a place of a mapped list
pub map_at : {A : Type 0} (f : A → A) (xs : List A) (i : ℕ) (d : A) → i < length xs → get_or (map f xs) i d ≡ f (get_or xs i d)
map_at f [] i d lt = absurd (omega arith)
map_at f (x ∷ xs) zero d lt = refl
map_at f (x ∷ xs) (suc i) d lt = map_at f xs i d (omega arith)

pub map_size : {A : Type 0} (f : A → A) (xs : List A) → length (map f xs) ≡ length xs
map_size f [] = refl
map_size f (x ∷ xs) = ap suc (map_size f xs)

-- the death of a controller frees no channel
orphaned_free : (c : ℕ) (x : Option Allocation) → is_free x ≡ is_free (orphaned_allocation c x)
orphaned_free c None = refl
orphaned_free c (Some x) = refl

-- the charge after the death is the allocation after it
charge_orphaned : (c : ℕ) (x : Charge) → allocation_of (orphaned_charge c x) ≡ orphaned_allocation c (allocation_of x)
charge_orphaned c Free = refl
charge_orphaned c (Pending d p u) = grind (arith, nat_tests)
charge_orphaned c (Connected p u) = refl
charge_orphaned c (Orphaned p u) = refl

owner_orphaned : (c : ℕ) (b : Broadcaster) → owner_of (orphaned_broadcaster c b) ≡ orphaned_owner c (owner_of b)
owner_orphaned c Nobody = refl
owner_orphaned c (Controller d) = grind (arith, nat_tests)
owner_orphaned c Died = refl

resources_orphaned : (withheld : Bool) (c units high low : ℕ) (charges after : List Charge) (allocations : ℕ → Option Allocation) → length charges ≡ 64
    → after ≡ map (orphaned_charge c) charges → ResourcesFor withheld units high low charges allocations
    → ResourcesFor withheld units high low after (λ ch. orphaned_allocation c (allocations ch))
resources_orphaned withheld c units high low charges after allocations size e h = record {
  left = h.left ∙ ap (λ n. 4915 - n) (sym (orphaned_total c allocations));
  high = h.high ∙ bits_same _ _ (λ i. still (0 + i));
  low = h.low ∙ bits_same _ _ (λ i. still (32 + i));
  charges = λ ch lt. rw (e, map_at (orphaned_charge c) charges ch Free (omega arith), charge_orphaned c (get_or charges ch Free), h.charges ch lt) refl;
}
  where
    still : (k : ℕ) → is_open withheld allocations k ≡ is_open withheld (λ ch. orphaned_allocation c (allocations ch)) k
    still k = same_open withheld allocations (λ ch. orphaned_allocation c (allocations ch)) k (orphaned_free c (allocations k))

seats_orphaned : (c : ℕ) (x : Seats) (s : Connections) → SeatsFor x s → SeatsFor (orphaned_seats c x) (orphaned_connections c s)
seats_orphaned c x s h = record {
  size = go (nat_lt c 63);
  counts = λ d dlt. at_count d dlt (cases_eq d c);
  broadcast = owner_orphaned c x.broadcaster ∙ ap (orphaned_owner c) h.broadcast;
}
  where
    go : (b : Bool) → length (cond b (slice_set x.counts c 0) x.counts) ≡ 63
    go true = length-set x.counts c 0 ∙ h.size
    go false = h.size

    same_place : (d : ℕ) → d < 63 → d ≡ c → (b : Bool) → nat_lt c 63 ≡ b → get_or (cond b (slice_set x.counts c 0) x.counts) d 0 ≡ 0
    same_place d dlt e true t = rw e (get_or-set_same x.counts c 0 0 (rw h.size (rw (sym e) dlt)))
    same_place d dlt e false t = absurd (grind (arith, nat_tests))

    other_place : (d : ℕ) → d ≢ c → (b : Bool) → get_or (cond b (slice_set x.counts c 0) x.counts) d 0 ≡ get_or x.counts d 0
    other_place d ne true = get_or-set_other x.counts c d 0 0 ne
    other_place d ne false = refl

    at_count : (d : ℕ) → d < 63 → (d ≡ c) ⊎ (d ≢ c) → get_or (cond (nat_lt c 63) (slice_set x.counts c 0) x.counts) d 0 ≡ update s.counts c 0 d
    at_count d dlt (inl e) = rw (update_same s.counts c d 0 e) (same_place d dlt e (nat_lt c 63) refl)
    at_count d dlt (inr ne) = rw (update_other s.counts c d 0 ne) (other_place d ne (nat_lt c 63) ∙ h.counts d dlt)

outputs_orphaned : (c : ℕ) (words : List ℕ) (seats after : List Seats) (l : Account) → length seats ≡ 1953 → after ≡ map (orphaned_seats c) seats
    → ((p : PlugAt) → NoneBeyond (l.outputs p)) → ((p : PlugAt) → is_output l.latest p ≡ true → place p < 1953)
    → OutputsFor words seats l.latest l.outputs l.settings → OutputsFor words after l.latest (λ p. orphaned_connections c (l.outputs p)) l.settings
outputs_orphaned c words seats after l size e none low h = record {
  words = λ p is. rw (orphaned_counter c (l.outputs p) (none p), orphaned_there c (l.outputs p).broadcast) (h.words p is);
  seats = λ p is. rw (e, map_at (orphaned_seats c) seats (place p) no_seats (rw size (low p is)))
      (seats_orphaned c (seats_at seats p) (l.outputs p) (h.seats p is));
}

inputs_orphaned : (c : ℕ) (words : List ℕ) (seats after : List Seats) (l : Account) → length seats ≡ 1953 → after ≡ map (orphaned_seats c) seats
    → ((p : PlugAt) → NoneBeyond (l.inputs p)) → ((p : PlugAt) → is_input l.latest p ≡ true → place p < 1953)
    → InputsFor words seats l.latest l.inputs l.input_channel → InputsFor words after l.latest (λ p. orphaned_connections c (l.inputs p)) l.input_channel
inputs_orphaned c words seats after l size e none low h = record {
  words = λ p is. rw (orphaned_counter c (l.inputs p) (none p), orphaned_there c (l.inputs p).broadcast) (h.words p is);
  seats = λ p is. rw (e, map_at (orphaned_seats c) seats (place p) no_seats (rw size (low p is)))
      (seats_orphaned c (seats_at seats p) (l.inputs p) (h.seats p is));
}

-- the tables after the death of controller c
pub death_stands : (t : Tables) (l : Account) (c : ℕ) (charges : Vec Charge Global) (outputs inputs : Vec Seats Global) (requests : Vec Asked Global)
    → StandsFor t l
    → charges.items ≡ map (orphaned_charge c) t.charges.items → outputs.items ≡ map (orphaned_seats c) t.output_seats.items
    → inputs.items ≡ map (orphaned_seats c) t.input_seats.items
    → length requests.items ≡ 63 → ((d : ℕ) → d < 63 → AskedFor (asked_at requests.items d) (update l.outstanding c None d))
    → StandsFor (record t { charges = charges; output_seats = outputs; input_seats = inputs; asked = requests }) (after_death c l)
death_stands t l c charges outputs inputs requests h at_charges at_outputs at_inputs size at_requests = record {
  sizes = record {
    charges = ap length at_charges ∙ map_size (orphaned_charge c) t.charges.items ∙ h.sizes.charges;
    output_seats = ap length at_outputs ∙ map_size (orphaned_seats c) t.output_seats.items ∙ h.sizes.output_seats;
    input_seats = ap length at_inputs ∙ map_size (orphaned_seats c) t.input_seats.items ∙ h.sizes.input_seats;
    asked = size;
    reclaimable = h.sizes.reclaimable;
    addressed = h.sizes.addressed;
    outputs = h.sizes.outputs;
    inputs = h.sizes.inputs;
    continues = h.sizes.continues;
  };
  latest = h.latest;
  plugs = h.plugs;
  withheld = h.withheld;
  resources = resources_orphaned l.withheld c t.left t.high t.low t.charges.items charges.items l.allocations h.sizes.charges at_charges h.resources;
  second = record { runs = h.second.runs; reclaimable = h.second.reclaimable; continues = h.second.continues };
  outputs = outputs_orphaned c t.outputs.items t.output_seats.items outputs.items l h.sizes.output_seats at_outputs
      (λ p d le. (h.sound.controllers p d le).0) (λ p is. place_low p (output_in_range l.latest p h.sound.range is)) h.outputs;
  inputs = inputs_orphaned c t.inputs.items t.input_seats.items inputs.items l h.sizes.input_seats at_inputs (λ p d le. (h.sound.controllers p d le).1)
      (λ p is. place_low p (input_in_range l.latest p h.sound.range is)) h.inputs;
  controllers = record { addressed = h.controllers.addressed; asked = at_requests };
  sound = death_keeps c l h.sound;
}

-- the table after each of its places was mapped
pub mapped_items : {A : Type 0} (v : Vec A Global) (ws : List A) (f : A → A) → ws ≡ map f v.items → (with_items v ws).items ≡ map f v.items
mapped_items v ws f e = with_items_is v ws (ap length e ∙ map_size f v.items ∙ sym v.ok.0) ∙ e

-- the request of the dead is dropped
pub asked_dropped : (t : Tables) (l : Account) (c : ℕ) → StandsFor t l → (d : ℕ) → d < 63
    → AskedFor (asked_at (slice_set t.asked.items c NotAsked) d) (update l.outstanding c None d)
asked_dropped t l c h d lt = related_set AskedFor t.asked.items c NotAsked NotAsked 63 l.outstanding None h.sizes.asked refl h.controllers.asked d lt

-- no request of a controller from 63 on is kept
pub asked_beyond : (t : Tables) (l : Account) (c : ℕ) → StandsFor t l → 63 ≤ c → (d : ℕ) → d < 63
    → AskedFor (asked_at t.asked.items d) (update l.outstanding c None d)
asked_beyond t l c h le d lt = rw (update_other l.outstanding c d None (λ e. omega arith)) (h.controllers.asked d lt)

-- the table after all of it was written
pub items_of : {A : Type 0} (v : Vec A Global) (ws : List A) (n : ℕ) → length v.items ≡ n → length ws ≡ n → (with_items v ws).items ≡ ws
items_of v ws n was is = with_items_is v ws (is ∙ sym was ∙ sym v.ok.0)
