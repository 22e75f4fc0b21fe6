-- The rows of an entry: each is of the device that has its number, and a device is found under that number alone.
use Rattle.fw_devices.proofs.Common.{◌≡◌, ℕ, ◌<◌, List, length, get_or, slice_get, Option, Some, None, true, false, arith, refl, sym, ap, subst, ◌∙◌, DeviceKind, NodeRow, number_at, kind_at, row_of}
use Rattle.std.proofs.Common.{◌==◌, nat_lt, if◌then◌else◌}
use Rattle.std.specs.List.{All}
use Rattle.std.specs.Option.{option_map}
use Rattle.std.proofs.lemmas.Bool.{eq-eqb, ne_eqb, cond_below, cond_above}
use Rattle.std.proofs.lemmas.List.Sums.{position_or_len_is}
use Rattle.std.proofs.lemmas.Option.{slice_get_within, get_or_from_slice_get, slice_get-map, same_Some}
use Rattle.fw_terms.proofs.KindLaws.{code_low, plugs_few}
use Rattle.fw_log_entry.specs.Log.{RowFits, AreApart, devices}
use Rattle.fw_log_entry.specs.Network.{node_of_device}
use Rattle.fw_tree.specs.Numbers.{AreNodes}
use Rattle.fw_devices.specs.Entries.{node_number}

-- the rows are those of the numbered devices
pub record AreRows (number : List (Option ℕ)) (kinds : List DeviceKind) (rows : List NodeRow) : Type 0 where
  pub nodes : AreNodes number (length rows)
  pub each : (d n : ℕ) → number_at number d ≡ Some n → slice_get rows n ≡ Some (row_of d (kind_at kinds d))

-- the device that has the row
pub record HasRow (number : List (Option ℕ)) (kinds : List DeviceKind) (n : ℕ) (row : NodeRow) : Type 0 where
  pub device : ℕ
  pub numbered : number_at number device ≡ Some n
  pub is : row ≡ row_of device (kind_at kinds device)

pub row_is : (number : List (Option ℕ)) (kinds : List DeviceKind) (rows : List NodeRow) → AreRows number kinds rows → (n : ℕ) (row : NodeRow) → slice_get rows n ≡ Some row → HasRow number kinds n row
row_is number kinds rows h n row at =
    let w = h.nodes.taken n (slice_get_within rows n row at) in
    record { device = w.0; numbered = w.1; is = same_Some row (row_of w.0 (kind_at kinds w.0)) (sym at ∙ h.each w.0 n w.1) }

pub row_at : (number : List (Option ℕ)) (kinds : List DeviceKind) (rows : List NodeRow) → AreRows number kinds rows → (k : ℕ) (z : NodeRow) → k < length rows → HasRow number kinds k (get_or rows k z)
row_at number kinds rows h k z low =
    let w = h.nodes.taken k low in
    record { device = w.0; numbered = w.1; is = get_or_from_slice_get rows k (row_of w.0 (kind_at kinds w.0)) z (h.each w.0 k w.1) }

device_in : NodeRow → ℕ
device_in row = row.device

no_row : NodeRow
no_row = record { device = 0; outs = 0; ins = 0; kind = 0 }

-- the row of another number is of another device
other_row : (number : List (Option ℕ)) (kinds : List DeviceKind) (rows : List NodeRow) → AreRows number kinds rows → (d k : ℕ) → (number_at number d ≡ Some k → ⊥) → k < length rows
    → ((get_or rows k no_row).device == d) ≡ false
unfolding device_in
other_row number kinds rows h d k not_it low =
    let w = row_at number kinds rows h k no_row low in
    ap (λ r. device_in r == d) w.is ∙ ne_eqb w.device d (λ same. not_it (ap (number_at number) (sym same) ∙ w.numbered))

own_row : (number : List (Option ℕ)) (kinds : List DeviceKind) (rows : List NodeRow) → AreRows number kinds rows → (d n : ℕ) → number_at number d ≡ Some n → ((get_or rows n no_row).device == d) ≡ true
unfolding device_in
own_row number kinds rows h d n at = ap (λ r. device_in r == d) (get_or_from_slice_get rows n (row_of d (kind_at kinds d)) no_row (h.each d n at)) ∙ eq-eqb d d refl

pub place_of : (number : List (Option ℕ)) (kinds : List DeviceKind) (rows : List NodeRow) → AreRows number kinds rows → (d n : ℕ) → number_at number d ≡ Some n → node_of_device rows d ≡ n
place_of number kinds rows h d n at =
    let low = h.nodes.below d n at in
    position_or_len_is (λ row. row.device == d) rows n no_row (omega arith) (λ k less. other_row number kinds rows h d k (λ e. differ k less (same_Some k n (sym e ∙ at))) (omega arith))
    (λ _. own_row number kinds rows h d n at)
  where
    differ : (k : ℕ) → k < n → k ≡ n → ⊥
    differ k less same = omega arith

pub no_place : (number : List (Option ℕ)) (kinds : List DeviceKind) (rows : List NodeRow) → AreRows number kinds rows → (d : ℕ) → number_at number d ≡ None → node_of_device rows d ≡ length rows
no_place number kinds rows h d none =
    position_or_len_is (λ row. row.device == d) rows (length rows) no_row (omega arith) (λ k less. other_row number kinds rows h d k (λ e. let z : ⊥ = cc in z) less) (λ less. absurd (omega arith))

-- a device's number by the rows is the one that it has
pub number_in : (number : List (Option ℕ)) (kinds : List DeviceKind) (rows : List NodeRow) → AreRows number kinds rows → (d : ℕ) → node_number rows d ≡ number_at number d
number_in number kinds rows h d = by (number_at number d) refl
  where
    found : (p l n : ℕ) → p ≡ n → n < l → (if nat_lt p l then Some p else None) ≡ Some n
    found p l n e low = ap (λ m. if nat_lt m l then Some m else None) e ∙ sym (cond_below n l (Some n) None low)

    missed : (p l : ℕ) → p ≡ l → (if nat_lt p l then Some p else None) ≡ None
    missed p l e = ap (λ m. if nat_lt m l then Some m else None) e ∙ sym (cond_above l l (Some l) None None (omega arith) refl)

    by : (o : Option ℕ) → number_at number d ≡ o → node_number rows d ≡ o
    by None e = missed (node_of_device rows d) (length rows) (no_place number kinds rows h d e)
    by (Some n) e = found (node_of_device rows d) (length rows) n (place_of number kinds rows h d n e) (h.nodes.below d n e)

-- what kinds have is within the bounds of the log
pub row_fits : (d : ℕ) (kind : DeviceKind) → d < 63 → RowFits (row_of d kind)
row_fits d kind low = let few = plugs_few kind in record { device = low; outs = omega (arith, few.0); ins = omega (arith, few.1); kind = code_low kind }

pub rows_fit : (number : List (Option ℕ)) (kinds : List DeviceKind) (rows : List NodeRow) → AreRows number kinds rows → ((d n : ℕ) → number_at number d ≡ Some n → d < 63) → All RowFits rows
rows_fit number kinds rows h few k z low =
    let w = row_at number kinds rows h k z low in
    let P : NodeRow → Type 0 = RowFits in
    subst P (sym w.is) (row_fits w.device (kind_at kinds w.device) (few w.device k w.numbered))

-- no two rows are of one device
device_at : (number : List (Option ℕ)) (kinds : List DeviceKind) (rows : List NodeRow) → AreRows number kinds rows → (d k : ℕ) → number_at number d ≡ Some k → get_or (devices rows) k 0 ≡ d
unfolding device_in
device_at number kinds rows h d k at = get_or_from_slice_get (devices rows) k d 0 (slice_get-map device_in rows k ∙ ap (option_map device_in) (h.each d k at))

pub rows_apart : (number : List (Option ℕ)) (kinds : List DeviceKind) (rows : List NodeRow) → AreRows number kinds rows → AreApart rows
rows_apart number kinds rows h i j less low same =
    let a = h.nodes.taken i (omega arith) in
    let b = h.nodes.taken j low in
    let one : a.0 ≡ b.0 = sym (device_at number kinds rows h a.0 i a.1) ∙ same ∙ device_at number kinds rows h b.0 j b.1 in
    let both : i ≡ j = same_Some i j (sym a.1 ∙ ap (number_at number) one ∙ b.1) in
    omega arith
