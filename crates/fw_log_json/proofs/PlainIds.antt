-- The objects of nodes and of self-ID packets are plain.
use Rattle.fw_log_json.proofs.Common.{ℕ, suc, ◌+◌, ◌^◌, ◌<◌, true, false, List, [], ◌∷◌, length, map, codes, decimal, refl, arith, PhyPacket, NodeRow, name_value, id_object, node_objects, port_name}
use Rattle.std.specs.List.{All}
use Rattle.fw_phy.specs.Phy.{Fits as PhyFits}
use Rattle.fw_phy.specs.declared.packet.SelfId.{SelfId as Self}
use Rattle.fw_phy.specs.declared.packet.SelfIdMore.{SelfIdMore as More}
use Rattle.fw_phy.specs.declared.packet.PhyPacket.TheVariants.{SelfId, SelfIdMore, Config, LinkOn}
use Rattle.fw_log_entry.specs.Log.{RowFits}
use Rattle.fw_log_json.specs.Ids.{port_fields, node_object}
use Rattle.fw_log_json.proofs.ToldLists.{Each}
use Rattle.fw_log_json.proofs.ToldIds.{Ports, IsPort, three, eight}
use Rattle.fw_log_json.proofs.PlainLaws.{Plain, AllPlain, word, two, number, named, flag, keyed, coded, in_brackets}
use Rattle.fw_log_json.proofs.PlainNames.{speeds, ports, devices}

numbers : (n : ℕ) (xs : List ℕ) → Each IsPort n xs → AllPlain (map decimal xs)
numbers n [] h = tt
numbers n (x ∷ xs) h = (number x (omega (arith, h.0)), numbers (n + 1) xs h.1)

names : (xs : List ℕ) → AllPlain (map (λ p. name_value (port_name p)) xs)
names [] = tt
names (x ∷ xs) = (named (port_name x) (ports x), names xs)

in_ports : (xs : List ℕ) → Ports xs → Plain (port_fields xs)
in_ports xs h = two (keyed (codes ",\"port_status\":") refl (in_brackets (map decimal xs) (numbers 0 xs h)))
    (keyed (codes ",\"port_status_name\":") refl (in_brackets (map (λ p. name_value (port_name p)) xs) (names xs)))

zero_plain : (s : Self) → PhyFits (SelfId s) → Plain (id_object (SelfId s))
zero_plain s a =
    (two (two (two (two (two (two (two (two (two (two (two (keyed (codes "{\"phy_id\":") refl (number s.phy (omega (arith, a.fields))))
    (keyed (codes ",\"extended\":") refl (flag false)))
    (keyed (codes ",\"link_active\":") refl (flag s.link)))
    (keyed (codes ",\"gap_count\":") refl (number s.gap (omega (arith, a.fields)))))
    (coded (codes ",\"scode\":") s.speed (codes ",\"scode_name\":") _ refl refl (omega (arith, a.fields)) (speeds s.speed)))
    (keyed (codes ",\"delay\":") refl (number s.delay (omega (arith, a.fields)))))
    (keyed (codes ",\"contender\":") refl (flag s.contender)))
    (keyed (codes ",\"power_class\":") refl (number s.power (omega (arith, a.fields)))))
    (keyed (codes ",\"initiated_reset\":") refl (flag s.initiator)))
    (keyed (codes ",\"more_packets\":") refl (flag s.more)))
    (in_ports s.ports (three s.ports a.shape (omega (arith, a.fields)) (omega (arith, a.fields)) (omega (arith, a.fields)))))
    (word (codes "}") refl))

more_plain : (s : More) → PhyFits (SelfIdMore s) → Plain (id_object (SelfIdMore s))
more_plain s a =
    (two (two (two (two (two (keyed (codes "{\"phy_id\":") refl (number s.phy (omega (arith, a.fields))))
    (keyed (codes ",\"extended\":") refl (flag true)))
    (keyed (codes ",\"sequence\":") refl (number s.number (omega (arith, a.fields)))))
    (keyed (codes ",\"more_packets\":") refl (flag s.more)))
    (in_ports s.ports (eight s a)))
    (word (codes "}") refl))

id_plain : (p : PhyPacket) → PhyFits p → Plain (id_object p)
id_plain (SelfId s) a = zero_plain s a
id_plain (SelfIdMore s) a = more_plain s a
id_plain (Config q f g h) a = word (codes "{}") refl
id_plain (LinkOn q) a = word (codes "{}") refl

pub ids_plain : (ids : List PhyPacket) → All PhyFits ids → AllPlain (map id_object ids)
ids_plain [] h = tt
ids_plain (p ∷ ps) h = (id_plain p (h 0 p (omega arith)), ids_plain ps (λ k d less. h (suc k) d (omega (arith, less))))

node_plain : (n : ℕ) (r : NodeRow) → n < 2 ^ 64 → RowFits r → Plain (node_object n r)
node_plain n r h a =
    (two (two (two (two (two (keyed (codes "{\"node\":") refl (number n h))
    (keyed (codes ",\"device\":") refl (number r.device (omega (arith, a.device)))))
    (keyed (codes ",\"output_plugs\":") refl (number r.outs (omega (arith, a.outs)))))
    (keyed (codes ",\"input_plugs\":") refl (number r.ins (omega (arith, a.ins)))))
    (coded (codes ",\"device_kind\":") r.kind (codes ",\"device_kind_name\":") _ refl refl (omega (arith, a.kind)) (devices r.kind)))
    (word (codes "}") refl))

pub nodes_plain : (n : ℕ) (rows : List NodeRow) → n + length rows < 65 → All RowFits rows → AllPlain (node_objects n rows)
nodes_plain n [] few h = tt
nodes_plain n (r ∷ rows) few h = (node_plain n r (omega (arith, few)) (h 0 r (omega arith)), nodes_plain (n + 1) rows (omega (arith, few)) (λ k d less. h (suc k) d (omega (arith, less))))
