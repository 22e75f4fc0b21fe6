-- Bytes that are a reset's body at the first look.
use Rattle.fw_log.proofs.Common.{◌≡◌, ℕ, ◌+◌, ◌-◌, ◌*◌, ◌^◌, ◌≤◌, ◌<◌, List, [], ◌∷◌, ◌++◌, ◌==◌, ◌||◌, ◌&&◌, nat_le, nat_lt, flat_map, length, take, drop, take-add, Bool, true, false, Option, Some}
use Rattle.fw_log.proofs.Common.{None, IfSome, arith, refl, ap, sym, ◌∙◌, if◌then◌else◌, append_assoc, length-append, nat_tests, append-nil, take-append-drop, All, to_be_bytes, w32, field, quadlet_at}
use Rattle.fw_log.proofs.Common.{spelling, PhyPacket, AreBytes, quads, node_quad, are_ids}
use Rattle.std.proofs.Common.{map}
use Rattle.std.proofs.lemmas.Grind.{common_steps, flat_map-append}
use Rattle.std.proofs.lemmas.List.Elements.{All-push}
use Rattle.std.proofs.lemmas.Nat.{be_bytes_4}
use Rattle.fw_phy.specs.Phy.{Fits, twice}
use Rattle.fw_log_entry.specs.Log.{manager_byte, RowFits, AreApart}
use Rattle.fw_log_entry.specs.declared.nodes.NodeRow.{NodeRow}
use Rattle.fw_log_entry.specs.declared.entry.ResetEntry.{ResetEntry}
use Rattle.fw_log.specs.Bodies.{count_of, has_nodes}
use Rattle.fw_log.specs.Plain.{next_by, GoesOnBy, AreIdsOf, are_of_nodes, IsReset}
use Rattle.fw_log.specs.declared.plain_reset.Turn.{Turn}
use Rattle.fw_log.proofs.ByteLaws.{are_bytes_part}
use Rattle.fw_async_fields.proofs.SoundLaws.{below}
use Rattle.fw_log.proofs.TestLaws.{equal, equals, less, both}
use Rattle.fw_log.proofs.ResetLaws.{second_back, body_back}

-- The packets before the rest are in order, as far as this turn.
pub record IdsMet (bytes rest : List ℕ) (turn : Turn) : Type 0 where
  pub ids : List PhyPacket
  pub fits : All Fits ids
  pub parts : flat_map spelling ids ++ rest ≡ bytes
  pub few : length ids ≤ 4 * turn.node + turn.met
  pub order : (ps : List PhyPacket) (n : ℕ) → are_ids 0 None (ids ++ ps) n ≡ are_ids turn.node (next_by turn.met) ps n

pub ids_step : (bytes rest rest' : List ℕ) (turn next : Turn) (q r : ℕ) → IdsMet bytes rest turn → GoesOnBy q turn next
    → to_be_bytes w32 q ≡ take 4 (drop 0 rest) → to_be_bytes w32 r ≡ take 4 (drop 4 rest) → r ≡ 2 ^ 32 - 1 - q → rest' ≡ drop 8 rest → IdsMet bytes rest' next
ids_step bytes rest rest' turn next q r i g first second inverse e =
    let four : to_be_bytes w32 (2 ^ 32 - 1 - q) ≡ take 4 (drop 4 rest) = ap (to_be_bytes w32) (sym inverse) ∙ second in
    let eight : spelling g.packet ≡ take 8 rest =
    ap twice g.same ∙ ap (λ t. t ++ to_be_bytes w32 (2 ^ 32 - 1 - q)) first ∙ ap (λ t. take 4 rest ++ t) four ∙ sym (take-add 4 4 rest) in
    let before : List ℕ = flat_map spelling i.ids in
    let one : flat_map spelling (i.ids ++ g.packet ∷ []) ≡ before ++ take 8 rest =
    flat_map-append spelling i.ids (g.packet ∷ []) ∙ ap (λ t. before ++ t) (append-nil (spelling g.packet) ∙ eight) in
    record {
      ids = i.ids ++ g.packet ∷ [];
      fits = All-push Fits i.ids g.packet i.fits g.fits;
      parts = ap (λ t. t ++ rest') one ∙ append_assoc before (take 8 rest) rest' ∙ ap (λ t. before ++ (take 8 rest ++ t)) e
          ∙ ap (λ t. before ++ t) (take-append-drop 8 rest) ∙ i.parts;
      few = omega (arith, length-append i.ids (g.packet ∷ []), i.few, g.few);
      order = λ ps n. ap (λ t. are_ids 0 None t n) (append_assoc i.ids (g.packet ∷ []) ps) ∙ i.order (g.packet ∷ ps) n ∙ g.goes ps n;
    }

pub ids_whole : (bytes rest : List ℕ) (turn : Turn) (count : ℕ) → IdsMet bytes rest turn → rest ≡ [] → turn.met ≡ 0
    → turn.node ≡ count → count ≤ 63 → AreIdsOf count bytes
ids_whole bytes rest turn count i none met node small = record {
  ids = i.ids;
  are = record { fits = i.fits; same = sym (append-nil (flat_map spelling i.ids)) ∙ ap (λ t. flat_map spelling i.ids ++ t) (sym none) ∙ i.parts };
  few = omega (arith, i.few);
  order = ap (λ t. are_ids 0 None t count) (sym (append-nil i.ids)) ∙ i.order [] count ∙ ap (λ m. are_ids turn.node (next_by m) [] count) met
      ∙ equals turn.node count node;
}

-- the manager that a byte is
manager_at : ℕ → Option ℕ
manager_at m = if m == 255 then None else Some m

manager_back : (m : ℕ) → manager_byte (manager_at m) ≡ m
unfolding manager_at
manager_back m = by (m == 255) refl
  where
    by : (b : Bool) → (m == 255) ≡ b → manager_byte (if b then None else Some m) ≡ m
    by true e = sym (equal m 255 e)
    by false e = refl

manager_node : (m count : ℕ) → ((m == 255) || nat_lt m count) ≡ true → IfSome (manager_at m) (λ k. k < count)
unfolding manager_at
manager_node m count h = by (m == 255) h
  where
    by : (b : Bool) → (b || nat_lt m count) ≡ true → IfSome (if b then None else Some m) (λ k. k < count)
    by true h = tt
    by false h = less m count h

pub quad_back : (bytes : List ℕ) (at : ℕ) → AreBytes bytes → at + 4 ≤ length bytes → to_be_bytes w32 (quadlet_at bytes at) ≡ take 4 (drop at bytes)
quad_back bytes at fit enough = be_bytes_4 (take 4 (drop at bytes)) (quadlet_at bytes at) (grind (arith, common_steps)) (are_bytes_part bytes 4 at fit) refl

-- how many nodes there are
counted : (bytes : List ℕ) (n : ℕ) → n ≡ count_of bytes → has_nodes bytes ≡ true → (1 ≤ n) × (n ≤ 63) × (8 + 4 * n ≤ length bytes)
counted bytes n e h = by n (length bytes) (ap (λ k. nat_le 1 k && nat_le k 63 && nat_le (8 + 4 * k) (length bytes)) e ∙ h)
  where
    by : (n k : ℕ) → (nat_le 1 n && nat_le n 63 && nat_le (8 + 4 * n) k) ≡ true → (1 ≤ n) × (n ≤ 63) × (8 + 4 * n ≤ k)
    by n k h = (grind (arith, nat_tests), grind (arith, nat_tests), grind (arith, nat_tests))

pub reset_whole : (bytes : List ℕ) (nodes : List NodeRow) (n : ℕ) → AreBytes bytes → n ≡ count_of bytes → has_nodes bytes ≡ true → length nodes ≡ n
    → quads (map node_quad nodes) ≡ take (4 * n) (drop 8 bytes) → are_of_nodes (quadlet_at bytes 4) n ≡ true
    → All RowFits nodes → AreApart nodes → AreIdsOf n (drop (8 + 4 * n) bytes) → IsReset bytes
reset_whole bytes nodes n fit is there size rows of_nodes right apart a =
    let q : ℕ = quadlet_at bytes 4 in
    let h = counted bytes n is there in
    let small : quadlet_at bytes 4 < 2 ^ 32 = below bytes 4 fit in
    let x = both (nat_lt (field q 0 7) n && ((field q 8 15 == 255) || nat_lt (field q 8 15) n)) (nat_lt (field q 16 23) n) of_nodes in
    let y = both (nat_lt (field q 0 7) n) ((field q 8 15 == 255) || nat_lt (field q 8 15) n) x.first in
    let r : ResetEntry = record {
      epoch = quadlet_at bytes 0;
      root = field q 0 7;
      manager = manager_at (field q 8 15);
      initiator = field q 16 23;
      nodes = nodes;
      ids = a.ids;
    } in
    record {
      reset = r;
      fits = record {
        epoch = below bytes 0 fit;
        some = omega (arith, h.0, size);
        few = omega (arith, h.1, size);
        root = rw size (less _ _ y.first);
        manager = rw size (manager_node (field q 8 15) n y.second);
        initiator = rw size (less _ _ x.second);
        rows = right;
        apart = apart;
        packets = a.are.fits;
        few_packets = a.few;
        ids = rw size a.order;
      };
      same = body_back r bytes q n (quad_back bytes 0 fit (omega (arith, h.2))) (quad_back bytes 4 fit (omega (arith, h.2)))
          (second_back q (field q 0 7) (manager_byte (manager_at (field q 8 15))) (field q 16 23) (length nodes) small refl
          (manager_back (field q 8 15)) refl (size ∙ is))
          rows a.are.same;
    }
