-- What controllers are told of the bus: the list is filled device by device, and it is the one that the entry of the bus reset shows.
use Rattle.fw_bus_engine.proofs.Common.{◌≡◌, ◌≢◌, ◌⊎◌, inl, inr, ℕ, ◌+◌, ◌<◌, ◌≤◌, ◌&&◌, List, length, slice_set, cond}
use Rattle.fw_bus_engine.proofs.Common.{true, false, Bool, Option, Some, None, is_some, refl, ap, sym, subst, ◌∙◌, arith}
use Rattle.fw_bus_engine.proofs.Common.{cases_eq, nat_tests, get_or-set_same, get_or-set_other, DeviceKind, has_link, ResetEntry, NodeRow, Topology, Network, kind_at, kinds_of, node_at, linked_number}
use Rattle.fw_bus_engine.proofs.Common.{is_linked_in}
use Rattle.std.proofs.Common.{nat_lt, get_or, slice_get}
use Rattle.std.proofs.Common.{replicate}
use Rattle.std.proofs.Math.ListN.{length-set}
use Rattle.std.proofs.lemmas.Bool.{cases_lt}
use Rattle.std.proofs.lemmas.List.{ext_get_or, get_or-replicate, get_or_past}
use Rattle.fw_terms.proofs.KindLaws.{linked_number as kind_number}
use Rattle.fw_devices.specs.Entries.{node_number, row_of}
use Rattle.fw_devices.specs.Resets.{Shows}
use Rattle.fw_model_run.specs.State.{list_to, with_link, is_relay}
use Rattle.fw_model_run.proofs.Directories.{length_list_to, get_list_to}
use Rattle.fw_bus_engine.specs.Resetting.{number_with_link}

-- ---- the list is filled device by device

-- it has the numbers of the devices below i
pub record IsFilled (n : Network) (i : ℕ) (node : List (Option ℕ)) : Type 0 where
  pub size : length node ≡ 63
  pub below : (d : ℕ) → d < i → get_or node d None ≡ number_with_link n d
  pub rest : (d : ℕ) → i ≤ d → get_or node d None ≡ None

-- a list without numbers
abbrev no_numbers : List (Option ℕ)
no_numbers = replicate 63 None

-- at first it has none
pub filled_none : (n : Network) → IsFilled n 0 no_numbers
filled_none n = record { size = refl; below = λ d lt. absurd (omega (arith, lt)); rest = λ d from. at d (cases_lt d 63) }
  where
    at : (d : ℕ) → (d < 63) ⊎ (63 ≤ d) → get_or no_numbers d None ≡ None
    at d (inl lt) = get_or-replicate 63 d None None lt
    at d (inr past) = get_or_past no_numbers d None past

-- a device that has no link, or is off, leaves it as it is
pub filled_unlinked : (n : Network) (i : ℕ) (node : List (Option ℕ)) → IsFilled n i node → is_linked_in n i ≡ false → IsFilled n (i + 1) node
filled_unlinked n i node f off = record { size = f.size; below = λ d lt. at d lt (cases_eq d i); rest = λ d from. f.rest d (omega (arith, from)) }
  where
    at : (d : ℕ) → d < i + 1 → (d ≡ i) ⊎ (d ≢ i) → get_or node d None ≡ number_with_link n d
    at d lt (inl e) = subst (λ k. get_or node k None ≡ number_with_link n k) (sym e) (f.rest i (omega arith) ∙ sym (ap (λ b. cond b (node_at n.nodes i).number None) off))
    at d lt (inr ne) = f.below d (omega (arith, lt, ne))

-- the number of a device with a link is entered
pub filled_linked : (n : Network) (i : ℕ) (node : List (Option ℕ)) (number : Option ℕ) → i < 63 → IsFilled n i node → is_linked_in n i ≡ true
    → number ≡ (node_at n.nodes i).number → IsFilled n (i + 1) (slice_set node i number)
filled_linked n i node number low f on is = record {
  size = length-set node i number ∙ f.size;
  below = λ d lt. at d lt (cases_eq d i);
  rest = λ d from. get_or-set_other node i d number None (λ e. omega (arith, from, e)) ∙ f.rest d (omega (arith, from));
}
  where
    within : i < length node
    within = omega (arith, low, f.size)

    at : (d : ℕ) → d < i + 1 → (d ≡ i) ⊎ (d ≢ i) → get_or (slice_set node i number) d None ≡ number_with_link n d
    at d lt (inl e) =
        subst (λ k. get_or (slice_set node i number) k None ≡ number_with_link n k) (sym e)
        (get_or-set_same node i number None within ∙ (is ∙ sym (ap (λ b. cond b (node_at n.nodes i).number None) on)))
    at d lt (inr ne) = get_or-set_other node i d number None ne ∙ f.below d (omega (arith, lt, ne))

-- a device that is not declared has no number
past_none : (n : Network) (d : ℕ) → length n.nodes ≤ d → number_with_link n d ≡ None
past_none n d past =
    let off : nat_lt d (length n.nodes) ≡ false = grind (arith, nat_tests) in
    ap (λ b. cond ((b && is_some (node_at n.nodes d).number) && has_link (kind_at (kinds_of n.nodes) d)) (node_at n.nodes d).number None) off

-- with the last device it is whole
pub filled_all : (n : Network) (i : ℕ) (node : List (Option ℕ)) → IsFilled n i node → length n.nodes ≤ i → node ≡ list_to 63 (number_with_link n)
filled_all n i node f all =
    ext_get_or None node (list_to 63 (number_with_link n)) (f.size ∙ sym (length_list_to 63 (number_with_link n)))
    (λ d lt. at d (cases_lt d i) ∙ sym (get_list_to 63 (number_with_link n) d None (omega (arith, lt, f.size))))
  where
    at : (d : ℕ) → (d < i) ⊎ (i ≤ d) → get_or node d None ≡ number_with_link n d
    at d (inl lt) = f.below d lt
    at d (inr past) = f.rest d past ∙ sym (past_none n d (omega (arith, all, past)))

-- ---- it is the one that the entry shows

-- the number of a device of this kind, if that has a link
abbrev by_kind : Bool → Option ℕ → DeviceKind → Option ℕ
by_kind declared number kind = cond ((declared && is_some number) && has_link kind) number None

-- by its kind a device has a link exactly if its row is no relay's
link_by_row : (d k : ℕ) (kind : DeviceKind) → by_kind true (Some k) kind ≡ cond (is_relay (Some (row_of d kind))) None (Some k)
link_by_row d k kind = sym (kind_number kind k)

-- a device has its number in the list exactly if it has one by the entry, and a link
link_shown : (rows : List NodeRow) (d : ℕ) (kind : DeviceKind) (o : Option ℕ) → ((k : ℕ) → o ≡ Some k → slice_get rows k ≡ Some (row_of d kind))
    → by_kind true o kind ≡ with_link rows o
link_shown rows d kind None h = refl
link_shown rows d kind (Some k) h = link_by_row d k kind ∙ sym (ap (λ r. cond (is_relay r) None (Some k)) (h k refl))

-- the nodes have the numbers that the entry shows, so each device has its number there with its link
pub linked_shown : (n : Network) (t : Topology) (kinds : List DeviceKind) (e : ResetEntry) → Shows t kinds e → kinds_of n.nodes ≡ kinds
    → length n.nodes ≡ length t.devices
    → ((d : ℕ) → d < length n.nodes → (node_at n.nodes d).number ≡ node_number e.nodes d) → (d : ℕ) → number_with_link n d ≡ linked_number (Some e) d
linked_shown n t kinds e shows same size numbers d = go (cases_lt d (length n.nodes))
  where
    off : (o : Option ℕ) → node_number e.nodes d ≡ o → length n.nodes ≤ d → node_number e.nodes d ≡ None
    off None at past = at
    off (Some k) at past = absurd (let low = shows.declared k (row_of d (kind_at kinds d)) (shows.numbers d k at) in omega (arith, low, size, past))

    go : (d < length n.nodes) ⊎ (length n.nodes ≤ d) → number_with_link n d ≡ linked_number (Some e) d
    go (inl lt) =
        let there : nat_lt d (length n.nodes) ≡ true = grind (arith, nat_tests) in
        let number = numbers d lt in
        (λ i. by_kind (there i) (number i) (kind_at (same i) d)) ∙ link_shown e.nodes d (kind_at kinds d) (node_number e.nodes d) (λ k at. shows.numbers d k at)
    go (inr past) = past_none n d past ∙ sym (ap (λ o. with_link e.nodes o) (off (node_number e.nodes d) refl past))
