-- No two node IDs of a bus reset are of one device.
use Rattle.fw_watch_laws.proofs.Common.{◌≡◌, refl, sym, ◌∙◌, inl, inr, ℕ, zero, suc, ◌-◌, ◌<◌, nat_le, Bool, true, false, List, [], ◌∷◌, length, if◌then◌else◌, Option, Some, None, slice_get, arith}
use Rattle.fw_watch_laws.proofs.Common.{same_Some, NodeRow, ResetEntry, first_id}
use Rattle.std.specs.Prelude.{option_map, slice_index}
use Rattle.std.proofs.lemmas.Bool.{cases_lt, cases_eq}
use Rattle.fw_log_entry.specs.Log.{devices, AreApart, ResetFits}
use Rattle.fw_watch_laws.proofs.Matches.{IsApart}

-- the device in a row
abbrev pub device_in : Option NodeRow → Option ℕ
device_in o = option_map (λ (row : NodeRow). row.device) o

-- a row is of a device
record IsIn (rows : List NodeRow) (n c : ℕ) : Type 0 where
  pub within : n < length rows
  pub device : slice_index (devices rows) n ≡ c

found_at : (rows : List NodeRow) (n c : ℕ) → device_in (slice_get rows n) ≡ Some c → IsIn rows n c
found_at [] n c e = cc
found_at (r ∷ rows) zero c e = record { within = omega arith; device = same_Some r.device c e }
found_at (r ∷ rows) (suc n) c e = let i = found_at rows n c e in record { within = omega (arith, i.within); device = i.device }

-- a node ID that is of the local bus, and the row of its node
found_if : (b : Bool) (rows : List NodeRow) (n c : ℕ) → device_in (if b then slice_get rows n else None) ≡ Some c → (b ≡ true) × IsIn rows n c
found_if true rows n c e = (refl, found_at rows n c e)
found_if false rows n c e = cc

same_row : (rows : List NodeRow) (n m c : ℕ) → AreApart rows → IsIn rows n c → IsIn rows m c → n ≡ m
same_row rows n m c apart i j = elim (cases_eq n m) [
  | inl same ↦ same
  | inr other ↦ elim (cases_lt n m) [
    | inl low ↦ absurd (apart n m low j.within (i.device ∙ sym j.device))
    | inr high ↦ absurd (apart m n (omega (arith, other, high)) i.within (j.device ∙ sym i.device))
  ]
]

pub ids_apart : (r : ResetEntry) → ResetFits r → IsApart (Some r)
ids_apart r f id other c e g =
    let x = found_if (nat_le first_id id) r.nodes (id - first_id) c e in
    let y = found_if (nat_le first_id other) r.nodes (other - first_id) c g in
    let same : id - first_id ≡ other - first_id = same_row r.nodes (id - first_id) (other - first_id) c f.apart x.1 y.1 in
    grind (arith, same, x.0, y.0)

none_if : (b : Bool) (c : ℕ) → device_in (if b then None else None) ≡ Some c → ⊥
none_if true c e = cc
none_if false c e = cc

pub none_apart : IsApart None
none_apart id other c e g = absurd (none_if (nat_le first_id id) c e)
