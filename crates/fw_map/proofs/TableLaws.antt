-- The fields of all nodes, noted packet by packet from the last to the first.
use Rattle.fw_map.proofs.Common.{◌≡◌, ℕ, zero, suc, ◌-◌, ◌<◌, ◌≤◌, List, [], length, drop, slice_index, slice_index_or, unwrap_or, arith, refl, sym, ap, ◌∙◌, PhyPacket, field_in}
use Rattle.std.proofs.Common.{replicate, get_or}
use Rattle.fw_map.specs.Fields.{AreRows, HasFields}
use Rattle.fw_map.proofs.RowLaws.{fields_none, no_fields, row_more}

-- the row of a node in a table of like rows
like : (row : List ℕ) (m n : ℕ) → n < m → slice_index_or (replicate m row) n [] ≡ row
like row zero n l = absurd (omega (arith, l))
like row (suc m) zero l = refl
like row (suc m) (suc n) l = like row m n (omega (arith, l))

abbrev none : List ℕ
none = replicate 27 0

blank : (n : ℕ) → n < 63 → slice_index_or (replicate 63 none) n [] ≡ none
blank n l = like none 63 n l

pub none_noted : (ids : List PhyPacket) → HasFields (drop (length ids) ids) (replicate 63 none)
none_noted ids = record {
  whole = record { nodes = refl; ports = λ n l. ap length (blank n l) ∙ refl };
  fields = λ n p l m. ap (λ row. slice_index row p) (blank n l) ∙ (no_fields p ∙ sym (fields_none ids n p));
}

pub one_noted : (ids : List PhyPacket) (k : ℕ) (x : PhyPacket) (old new : List (List ℕ)) → 0 < k → k ≤ length ids → AreRows new
    → ((n p : ℕ) → n < 63 → p < 27 → slice_index (slice_index_or new n []) p ≡ unwrap_or (field_in (get_or ids (k - 1) x) n p) (slice_index (slice_index_or old n []) p))
    → HasFields (drop k ids) old → HasFields (drop (k - 1) ids) new
one_noted ids k x old new some fits rows is before = record {
  whole = rows;
  fields = λ n p l m. row_more ids k n p x _ _ some fits (is n p l m) (before.fields n p l m);
}
