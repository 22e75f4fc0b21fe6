-- What the latest reset entry of a good state shows: a device on the bus is declared, and its number is its own and at most 62.
use Rattle.fw_bus_state.proofs.Common.{◌≡◌, ℕ, suc, ◌<◌, ◌≤◌, List, [], ◌∷◌, length, map, get_or, Bool, true, false}
use Rattle.fw_bus_state.proofs.Common.{cond, nat_lt, Option, Some, None, is_some, refl, ap, sym, subst, ◌∙◌, arith, IsTrue}
use Rattle.fw_bus_state.proofs.Common.{false≢true, nat_tests, length-map, same_Some, DeviceKind, ResetEntry, NodeRow, node_of, kind_at, node_number, Shows, State, number_in, is_on, IsGood, IsLatest}
use Rattle.std.proofs.Common.{eqb}
use Rattle.std.proofs.Common.{slice_get}
use Rattle.std.specs.List.{list_any}
use Rattle.std.proofs.lemmas.Bool.{ne_eqb}
use Rattle.std.proofs.lemmas.List.{get_or-map}
use Rattle.std.proofs.lemmas.Map.Keys.{IsDistinct-from_apart}
use Rattle.std.proofs.lemmas.Map.Steps.{length-le_from_distinct_below}
use Rattle.std.proofs.lemmas.Option.{slice_get_within, slice_get-get_or}
use Rattle.fw_log_entry.specs.Network.{node_of_device}
use Rattle.fw_tree.specs.Topology.{Topology}
use Rattle.fw_devices.specs.Entries.{row_of}

-- ---- the entry

pub shown_by : (s : State) (e : ResetEntry) → IsGood s → s.account.latest ≡ Some e → Shows s.declared.topology s.declared.kinds e
shown_by s e g is = go s.account.latest g.latest is
  where
    go : (o : Option ResetEntry) → IsLatest o s.declared s.account → o ≡ Some e → Shows s.declared.topology s.declared.kinds e
    go None h is = absurd (let z : ⊥ = cc in z)
    go (Some x) h is = let P : ResetEntry → Type 0 = Shows s.declared.topology s.declared.kinds in subst P (same_Some x e is) h.1

-- a device that is a node is declared
declared_in : (s : State) (o : Option ResetEntry) (d n : ℕ) → IsLatest o s.declared s.account → number_in o d ≡ Some n → d < length s.declared.topology.devices
declared_in s None d n h at = absurd (let z : ⊥ = cc in z)
declared_in s (Some e) d n h at = h.1.declared n (row_of d (kind_at s.declared.kinds d)) (h.1.numbers d n at)

pub on_declared : (s : State) (d n : ℕ) → IsGood s → number_in s.account.latest d ≡ Some n → d < length s.declared.names
on_declared s d n g at = let low = declared_in s s.account.latest d n g.latest at in let e = g.declared.named in omega arith

-- a device that is not declared is none
pub undeclared_off : (s : State) (d : ℕ) → IsGood s → length s.declared.names ≤ d → number_in s.account.latest d ≡ None
undeclared_off s d g past = go (number_in s.account.latest d) refl
  where
    go : (o : Option ℕ) → number_in s.account.latest d ≡ o → o ≡ None
    go None e = refl
    go (Some n) e = absurd (let low = on_declared s d n g e in omega arith)

-- ---- numbers

pub number_is : (o : Option ResetEntry) (d n : ℕ) → number_in o d ≡ Some n → node_of o d ≡ n
number_is None d n at = absurd (let z : ⊥ = cc in z)
number_is (Some e) d n at = go (nat_lt (node_of_device e.nodes d) (length e.nodes)) at
  where
    go : (b : Bool) → cond b (Some (node_of_device e.nodes d)) None ≡ Some n → node_of_device e.nodes d ≡ n
    go true h = same_Some (node_of_device e.nodes d) n h
    go false h = absurd (let z : ⊥ = cc in z)

pub on_number : (s : State) (d : ℕ) → IsTrue (is_on s d) → number_in s.account.latest d ≡ Some (node_of s.account.latest d)
on_number s d on = go (number_in s.account.latest d) refl on
  where
    go : (o : Option ℕ) → number_in s.account.latest d ≡ o → IsTrue (is_some o) → number_in s.account.latest d ≡ Some (node_of s.account.latest d)
    go None e t = absurd (false≢true t)
    go (Some n) e t = e ∙ ap Some (sym (number_is s.account.latest d n e))

-- two devices have two numbers
pub numbers_apart : (s : State) (c d m n : ℕ) → IsGood s → number_in s.account.latest c ≡ Some m → number_in s.account.latest d ≡ Some n → m ≡ n → c ≡ d
numbers_apart s c d m n g a b same = go s.account.latest g.latest a b
  where
    go : (o : Option ResetEntry) → IsLatest o s.declared s.account → number_in o c ≡ Some m → number_in o d ≡ Some n → c ≡ d
    go None h a b = absurd (let z : ⊥ = cc in z)
    go (Some e) h a b =
        let x = h.1.numbers c m a in
        let y = h.1.numbers d n b in
        let z : row_of c (kind_at s.declared.kinds c) ≡ row_of d (kind_at s.declared.kinds d) = same_Some _ _ (sym x ∙ ap (slice_get e.nodes) same ∙ y) in
        ap (λ (r : NodeRow). r.device) z

-- ---- how many there are

device_in : NodeRow → ℕ
device_in row = row.device

no_row : NodeRow
no_row = record { device = 0; outs = 0; ins = 0; kind = 0 }

any_below : (xs : List ℕ) (n : ℕ) → ((i : ℕ) → i < length xs → get_or xs i 0 < n) → (q : ℕ) → list_any (eqb q) xs ≡ true → q < n
any_below [] n low q t = absurd (false≢true t)
any_below (x ∷ xs) n low q t = go (eqb q x) refl (any_below xs n (λ i lt. low (suc i) (omega arith)) q)
  where
    go : (b : Bool) → eqb q x ≡ b → (list_any (eqb q) xs ≡ true → q < n) → q < n
    go true e later = let w = low 0 (omega arith) in grind (arith, nat_tests)
    go false e later = later (grind arith)

-- the rows of an entry are of distinct devices, so they are 63 at most
pub rows_few : (t : Topology) (kinds : List DeviceKind) (e : ResetEntry) → Shows t kinds e → length e.nodes ≤ 63
unfolding device_in
rows_few t kinds e h = omega (arith, length-le_from_distinct_below devices 63 (IsDistinct-from_apart eqb devices apart) (any_below devices 63 low), length-map e.nodes device_in)
  where
    devices : List ℕ
    devices = map device_in e.nodes

    at : (i : ℕ) → i < length e.nodes → slice_get e.nodes i ≡ Some (get_or e.nodes i no_row)
    at i lt = slice_get-get_or e.nodes i no_row lt

    size : length devices ≡ length e.nodes
    size = length-map e.nodes device_in

    device_at : (i d : ℕ) → i < length e.nodes → get_or devices i d ≡ (get_or e.nodes i no_row).device
    device_at i d lt = get_or-map device_in e.nodes i no_row d lt

    low : (i : ℕ) → i < length devices → get_or devices i 0 < 63
    low i lt =
        let within : i < length e.nodes = omega (arith, size) in
        let w = h.network.range i (get_or e.nodes i no_row) (at i within) in
        let same = device_at i 0 within in
        omega (arith, w.0)

    differ : (i j : ℕ) → i < j → j < length e.nodes → (get_or e.nodes i no_row).device ≡ (get_or e.nodes j no_row).device → ⊥
    differ i j less lt same =
        let x = (h.rows i (get_or e.nodes i no_row) (at i (omega arith))).1 in
        let y = (h.rows j (get_or e.nodes j no_row) (at j lt)).1 in
        let z : i ≡ j = same_Some i j (sym x ∙ ap (node_number e.nodes) same ∙ y) in
        omega arith

    apart : (i j d : ℕ) → i < j → j < length devices → eqb (get_or devices i d) (get_or devices j d) ≡ false
    apart i j d less lt =
        let within : j < length e.nodes = omega (arith, size) in
        ne_eqb (get_or devices i d) (get_or devices j d) (λ same. differ i j less within (sym (device_at i d (omega arith)) ∙ same ∙ device_at j d within))

pub number_low : (s : State) (d n : ℕ) → IsGood s → number_in s.account.latest d ≡ Some n → n ≤ 62
number_low s d n g at = go s.account.latest g.latest at
  where
    go : (o : Option ResetEntry) → IsLatest o s.declared s.account → number_in o d ≡ Some n → n ≤ 62
    go None h at = absurd (let z : ⊥ = cc in z)
    go (Some e) h at = let low = slice_get_within e.nodes n (row_of d (kind_at s.declared.kinds d)) (h.1.numbers d n at) in let few = rows_few s.declared.topology s.declared.kinds e h.1 in omega arith
