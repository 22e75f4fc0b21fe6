-- The objects of nodes and of self-ID packets tell what they are made from.
use Rattle.fw_log_json.proofs.Common.{◌≡◌, ℕ, suc, ◌+◌, ◌^◌, ◌<◌, ◌≤◌, ◌==◌, ◌&&◌, true, false, List, [], ◌∷◌}
use Rattle.fw_log_json.proofs.Common.{◌++◌, length, get_or, map, codes, decimal, Option, Some, None, if◌then◌else◌, refl, ap, sym}
use Rattle.fw_log_json.proofs.Common.{◌∙◌, append_assoc, arith, join_with_byte, PhyPacket, NodeRow, field, array, id_object, node_objects}
use Rattle.std.proofs.Common.{zero}
use Rattle.std.proofs.Common.{IsTrue}
use Rattle.std.proofs.lemmas.Bool.{false≢true}
use Rattle.std.proofs.lemmas.List.{append-nil, append_cancel_left}
use Rattle.std.specs.List.{All}
use Rattle.fw_phy.specs.Phy.{Fits}
use Rattle.fw_phy.specs.declared.packet.SelfId.{SelfId as Self}
use Rattle.fw_phy.specs.declared.packet.SelfIdMore.{SelfIdMore as More}
use Rattle.fw_phy.specs.declared.packet.PhyPacket.TheVariants.{SelfId, SelfIdMore, Config, LinkOn}
use Rattle.fw_log_entry.specs.Log.{RowFits, are_ids}
use Rattle.fw_log_names.specs.Names.{speed_name, device_name}
use Rattle.fw_log_json_packets.specs.Values.{flag_value}
use Rattle.fw_log_json.specs.Ids.{port_names, port_fields, node_object}
use Rattle.fw_log_json.proofs.Told.{Value, Told, Differ, left, right, differ, comma_any, first_byte, next, knowing}
use Rattle.fw_log_json.proofs.Told.{means, comma, brace, comma_first, both_right, coded, number, no_number, one_text, closing}
use Rattle.fw_log_json.proofs.ToldValues.{flag}
use Rattle.fw_log_json.proofs.ToldLists.{Each, Tells, values, more_values, array_tells, mapped}

-- ---- ports

abbrev pub IsPort : ℕ → ℕ → Type 0
IsPort n p = p < 4

port_tells : Tells (λ (n : ℕ) (p : ℕ). decimal p) IsPort
port_tells = record {
  value = λ n x y a b. number x y (omega (arith, a)) (omega (arith, b));
  begins = λ n x r s a h e. no_number x (omega (arith, a)) r (93 ∷ s) h refl e;
}

abbrev pub Ports : List ℕ → Type 0
Ports ports = Each IsPort 0 ports

ports_tell : (xs ys : List ℕ) → Ports xs → Ports ys → Told (port_fields xs) (port_fields ys) (xs ≡ ys)
ports_tell xs ys a b =
    means (knowing (comma (codes "\"port_status\":") (array_tells (λ n p. decimal p) IsPort port_tells xs ys a b (map decimal xs) (map decimal ys) (mapped decimal xs) (mapped decimal ys)))
    (comma_first _ _) (comma_first _ _) (λ e. (comma (codes "\"port_status_name\":") (one_text (ap port_names e))).value)) (λ p. p.0)

pub three : (ports : List ℕ) → length ports ≡ 3 → get_or ports 0 0 < 4 → get_or ports 1 0 < 4 → get_or ports 2 0 < 4 → Ports ports
three [] l a b c = absurd (omega (arith, l))
three (x ∷ []) l a b c = absurd (omega (arith, l))
three (x ∷ y ∷ []) l a b c = absurd (omega (arith, l))
three (x ∷ y ∷ z ∷ []) l a b c = (a, (b, (c, tt)))
three (x ∷ y ∷ z ∷ w ∷ more) l a b c = absurd (omega (arith, l))

-- ports from a place on, as many as are left
from_place : (ports : List ℕ) (n : ℕ) → ((i : ℕ) → i < length ports → get_or ports i 0 < 4) → Each IsPort n ports
from_place [] n h = tt
from_place (x ∷ xs) n h = (h 0 (omega arith), from_place xs (n + 1) (λ i k. h (suc i) (omega (arith, k))))

-- ---- nodes

abbrev NodeFits : ℕ → NodeRow → Type 0
NodeFits n r = (n < 64) × RowFits r

node_told : (n : ℕ) (r q : NodeRow) → n < 64 → RowFits r → RowFits q → Told (node_object n r) (node_object n q) (r ≡ q)
node_told n r q h a b =
    means
    (next (next (next (next (next (brace (codes "\"node\":") (number n n (omega (arith, h)) (omega (arith, h))))
    (comma (codes "\"device\":") (number r.device q.device (omega (arith, a.device)) (omega (arith, b.device)))))
    (comma (codes "\"output_plugs\":") (number r.outs q.outs (omega (arith, a.outs)) (omega (arith, b.outs)))))
    (comma (codes "\"input_plugs\":") (number r.ins q.ins (omega (arith, a.ins)) (omega (arith, b.ins)))))
    (coded (codes "\"device_kind\":") (codes "\"device_kind_name\":") device_name r.kind q.kind (omega (arith, a.kind)) (omega (arith, b.kind))))
    closing)
    (λ p. λ i. record { device = p.0.0.0.0.1 i; outs = p.0.0.0.1 i; ins = p.0.0.1 i; kind = p.0.1 i })

node_begins : (n : ℕ) (x : NodeRow) (r s : List ℕ) → node_object n x ++ r ≡ 93 ∷ s → ⊥
unfolding field
node_begins n x r s e = let first : 123 ≡ 93 = first_byte e in absurd (omega (arith, first))

node_tells : Tells node_object NodeFits
node_tells = record {
  value = λ n x y a b. (node_told n x y a.0 a.1 b.1).value;
  begins = λ n x r s a h e. node_begins n x r s e;
}

nodes_more : (n : ℕ) (r : NodeRow) (rows : List NodeRow) → join_with_byte 44 (node_objects n (r ∷ rows)) ≡ node_object n r ++ more_values node_object (n + 1) rows
nodes_more n r [] = sym (append-nil (node_object n r))
nodes_more n r (q ∷ rows) = ap (λ (t : List ℕ). node_object n r ++ 44 ∷ t) (nodes_more (n + 1) q rows)

nodes_joined : (rows : List NodeRow) → join_with_byte 44 (node_objects 0 rows) ≡ values node_object 0 rows
nodes_joined [] = refl
nodes_joined (r ∷ rows) = nodes_more 0 r rows

each_row : (n : ℕ) (rows : List NodeRow) → n + length rows < 65 → All RowFits rows → Each NodeFits n rows
each_row n [] few h = tt
each_row n (r ∷ rows) few h = ((omega (arith, few), h 0 r (omega arith)), each_row (n + 1) rows (omega (arith, few)) (λ k d less. h (suc k) d (omega (arith, less))))

pub nodes_tell : (xs ys : List NodeRow) → length xs ≤ 63 → length ys ≤ 63 → All RowFits xs → All RowFits ys → Value (array (node_objects 0 xs)) (array (node_objects 0 ys)) (xs ≡ ys)
nodes_tell xs ys l m a b =
    array_tells node_object NodeFits node_tells xs ys (each_row 0 xs (omega (arith, l)) a) (each_row 0 ys (omega (arith, m)) b)
    (node_objects 0 xs) (node_objects 0 ys) (nodes_joined xs) (nodes_joined ys)

-- ---- self-ID packets

abbrev IsId : PhyPacket → Type 0
IsId (SelfId s) = Unit {0}
IsId (SelfIdMore s) = Unit {0}
IsId (Config root force_root set_gap gap) = ⊥
IsId (LinkOn phy) = ⊥

abbrev IdFits : ℕ → PhyPacket → Type 0
IdFits n p = Fits p × IsId p

zero_told : (s t : Self) → Fits (SelfId s) → Fits (SelfId t) → Told (id_object (SelfId s)) (id_object (SelfId t)) (SelfId s ≡ SelfId t)
zero_told s t a b =
    means
    (next (next (next (next (next (next (next (next (next (next (next (brace (codes "\"phy_id\":") (number s.phy t.phy (omega (arith, a.fields)) (omega (arith, b.fields))))
    (comma (codes "\"extended\":") (flag false false)))
    (comma (codes "\"link_active\":") (flag s.link t.link)))
    (comma (codes "\"gap_count\":") (number s.gap t.gap (omega (arith, a.fields)) (omega (arith, b.fields)))))
    (coded (codes "\"scode\":") (codes "\"scode_name\":") speed_name s.speed t.speed (omega (arith, a.fields)) (omega (arith, b.fields))))
    (comma (codes "\"delay\":") (number s.delay t.delay (omega (arith, a.fields)) (omega (arith, b.fields)))))
    (comma (codes "\"contender\":") (flag s.contender t.contender)))
    (comma (codes "\"power_class\":") (number s.power t.power (omega (arith, a.fields)) (omega (arith, b.fields)))))
    (comma (codes "\"initiated_reset\":") (flag s.initiator t.initiator)))
    (comma (codes "\"more_packets\":") (flag s.more t.more)))
    (ports_tell s.ports t.ports (three s.ports a.shape (omega (arith, a.fields)) (omega (arith, a.fields)) (omega (arith, a.fields)))
    (three t.ports b.shape (omega (arith, b.fields)) (omega (arith, b.fields)) (omega (arith, b.fields)))))
    closing)
    (λ p. λ i. SelfId (record {
      phy = p.0.0.0.0.0.0.0.0.0.0.0 i;
      link = p.0.0.0.0.0.0.0.0.0.1 i;
      gap = p.0.0.0.0.0.0.0.0.1 i;
      speed = p.0.0.0.0.0.0.0.1 i;
      delay = p.0.0.0.0.0.0.1 i;
      contender = p.0.0.0.0.0.1 i;
      power = p.0.0.0.0.1 i;
      ports = p.0.1 i;
      initiator = p.0.0.0.1 i;
      more = p.0.0.1 i;
    }))

eight_ports : (m : More) → Fits (SelfIdMore m) → (i : ℕ) → i < length m.ports → get_or m.ports i 0 < 4
eight_ports m a zero k = omega (arith, a.fields)
eight_ports m a (suc zero) k = omega (arith, a.fields)
eight_ports m a (suc (suc zero)) k = omega (arith, a.fields)
eight_ports m a (suc (suc (suc zero))) k = omega (arith, a.fields)
eight_ports m a (suc (suc (suc (suc zero)))) k = omega (arith, a.fields)
eight_ports m a (suc (suc (suc (suc (suc zero))))) k = omega (arith, a.fields)
eight_ports m a (suc (suc (suc (suc (suc (suc zero)))))) k = omega (arith, a.fields)
eight_ports m a (suc (suc (suc (suc (suc (suc (suc zero))))))) k = omega (arith, a.fields)
eight_ports m a (suc (suc (suc (suc (suc (suc (suc (suc i)))))))) k = absurd (omega (arith, k, a.shape))

pub eight : (m : More) → Fits (SelfIdMore m) → Ports m.ports
eight m a = from_place m.ports 0 (eight_ports m a)

more_told : (s t : More) → Fits (SelfIdMore s) → Fits (SelfIdMore t) → Told (id_object (SelfIdMore s)) (id_object (SelfIdMore t)) (SelfIdMore s ≡ SelfIdMore t)
more_told s t a b =
    means
    (next (next (next (next (next (brace (codes "\"phy_id\":") (number s.phy t.phy (omega (arith, a.fields)) (omega (arith, b.fields))))
    (comma (codes "\"extended\":") (flag true true)))
    (comma (codes "\"sequence\":") (number s.number t.number (omega (arith, a.fields)) (omega (arith, b.fields)))))
    (comma (codes "\"more_packets\":") (flag s.more t.more)))
    (ports_tell s.ports t.ports (eight s a) (eight t b)))
    closing)
    (λ p. λ i. SelfIdMore (record { phy = p.0.0.0.0.0 i; number = p.0.0.0.1 i; ports = p.0.1 i; more = p.0.0.1 i }))

-- the two kinds differ in their second field, whatever follows it
flags_differ : (r s : List ℕ) → field (codes ",\"extended\":") (flag_value false) ++ r ≡ field (codes ",\"extended\":") (flag_value true) ++ s → ⊥
unfolding field
flags_differ r s e =
    let first : 102 ≡ 116 = first_byte (append_cancel_left (codes ",\"extended\":") (codes "false" ++ r) (codes "true" ++ s) e) in
    omega (arith, first)

fronts_differ : (m n : ℕ) → m < 2 ^ 64 → n < 2 ^ 64
    → Differ (field (codes "{\"phy_id\":") (decimal m) ++ field (codes ",\"extended\":") (flag_value false))
    (field (codes "{\"phy_id\":") (decimal n) ++ field (codes ",\"extended\":") (flag_value true))
fronts_differ m n a b = record {
  by = λ r s e.
      let key : List ℕ = codes "\"extended\":" in
      let x : List ℕ = field (codes ",\"extended\":") (flag_value false) in
      let y : List ℕ = field (codes ",\"extended\":") (flag_value true) in
      let first = sym (append_assoc (field (codes "{\"phy_id\":") (decimal m)) x r) ∙ e ∙ append_assoc (field (codes "{\"phy_id\":") (decimal n)) y s in
      flags_differ r s ((brace (codes "\"phy_id\":") (number m n a b)).value.by (x ++ r) (y ++ s) (comma_any key (flag_value false) r) (comma_any key (flag_value true) s) first).1;
}

zero_or_more : (s : Self) (t : More) → Fits (SelfId s) → Fits (SelfIdMore t) → Differ (id_object (SelfId s)) (id_object (SelfIdMore t))
zero_or_more s t a b =
    left _ (left _ (left _ (left _ (left _ (left _ (left _ (left _ (left _ (left _ (right _ (right _ (right _ (right _
    (fronts_differ s.phy t.phy (omega (arith, a.fields)) (omega (arith, b.fields))))))))))))))))

id_value : (x y : PhyPacket) → Fits x → IsId x → Fits y → IsId y → Value (id_object x) (id_object y) (x ≡ y)
id_value (SelfId s) (SelfId t) a c b d = (zero_told s t a b).value
id_value (SelfId s) (SelfIdMore t) a c b d = differ (zero_or_more s t a b)
id_value (SelfIdMore s) (SelfId t) a c b d = record { by = λ u v h k e. absurd ((zero_or_more t s b a).by v u (sym e)) }
id_value (SelfIdMore s) (SelfIdMore t) a c b d = (more_told s t a b).value
id_value (SelfId s) (Config q f g h) a c b d = absurd d
id_value (SelfId s) (LinkOn q) a c b d = absurd d
id_value (SelfIdMore s) (Config q f g h) a c b d = absurd d
id_value (SelfIdMore s) (LinkOn q) a c b d = absurd d
id_value (Config q f g h) y a c b d = absurd c
id_value (LinkOn q) y a c b d = absurd c

id_begins : (x : PhyPacket) (r s : List ℕ) → IsId x → id_object x ++ r ≡ 93 ∷ s → ⊥
unfolding field
id_begins (SelfId t) r s a e = let first : 123 ≡ 93 = first_byte e in absurd (omega (arith, first))
id_begins (SelfIdMore t) r s a e = let first : 123 ≡ 93 = first_byte e in absurd (omega (arith, first))
id_begins (Config q f g h) r s a e = absurd a
id_begins (LinkOn q) r s a e = absurd a

id_tells : Tells (λ (n : ℕ). id_object) IdFits
id_tells = record {
  value = λ n x y a b. id_value x y a.0 a.1 b.0 b.1;
  begins = λ n x r s a h e. id_begins x r s a.1 e;
}

each_id : (n : ℕ) (ids : List PhyPacket) → All Fits ids → (k count : ℕ) (o : Option ℕ) → are_ids k o ids count ≡ true → Each IdFits n ids
each_id n [] h k count o e = tt
each_id n (SelfId s ∷ ps) h k count None e = (
  (h 0 (SelfId s) (omega arith), tt),
  (elim s.more as (λ b. (if b then are_ids k (Some 0) ps count else are_ids (k + 1) None ps count) ≡ true → Each IdFits (n + 1) ps) [
    | true ↦ λ f. each_id (n + 1) ps (λ i d less. h (suc i) d (omega (arith, less))) k count (Some 0) f
    | false ↦ λ f. each_id (n + 1) ps (λ i d less. h (suc i) d (omega (arith, less))) (k + 1) count None f
  ]) (both_right (s.phy == k) _ e),
)
each_id n (SelfIdMore m ∷ ps) h k count (Some j) e = (
  (h 0 (SelfIdMore m) (omega arith), tt),
  (elim m.more as (λ b. (if b then are_ids k (Some (j + 1)) ps count else are_ids (k + 1) None ps count) ≡ true → Each IdFits (n + 1) ps) [
    | true ↦ λ f. each_id (n + 1) ps (λ i d less. h (suc i) d (omega (arith, less))) k count (Some (j + 1)) f
    | false ↦ λ f. each_id (n + 1) ps (λ i d less. h (suc i) d (omega (arith, less))) (k + 1) count None f
  ]) (both_right ((m.phy == k) && (m.number == j)) _ e),
)
each_id n (SelfId s ∷ ps) h k count (Some j) e = absurd (false≢true e)
each_id n (SelfIdMore m ∷ ps) h k count None e = absurd (false≢true e)
each_id n (Config a b c d ∷ ps) h k count None e = absurd (false≢true e)
each_id n (Config a b c d ∷ ps) h k count (Some j) e = absurd (false≢true e)
each_id n (LinkOn a ∷ ps) h k count None e = absurd (false≢true e)
each_id n (LinkOn a ∷ ps) h k count (Some j) e = absurd (false≢true e)

pub ids_tell : (xs ys : List PhyPacket) (m n : ℕ) → All Fits xs → All Fits ys → IsTrue (are_ids 0 None xs m) → IsTrue (are_ids 0 None ys n)
    → Value (array (map id_object xs)) (array (map id_object ys)) (xs ≡ ys)
ids_tell xs ys m n a b c d =
    array_tells (λ (n : ℕ). id_object) IdFits id_tells xs ys (each_id 0 xs a 0 m None c) (each_id 0 ys b 0 n None d)
    (map id_object xs) (map id_object ys) (mapped id_object xs) (mapped id_object ys)
