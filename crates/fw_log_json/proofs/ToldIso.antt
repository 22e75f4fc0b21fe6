-- The fields of an isochronous packet tell the packet.
use Rattle.fw_log_json.proofs.Common.{◌≡◌, ℕ, ◌^◌, ◌<◌, Bool, true, false, List, [], codes, decimal, Option, Some, None, IfSome, refl, ap, sym, ◌∙◌, arith, hex_bytes, format_name, quoted, name_value}
use Rattle.fw_cip.specs.Iso.{Fits, IsBlock, bit, block_bytes, data_length}
use Rattle.fw_cip.specs.declared.packet.CipHeader.{CipHeader}
use Rattle.fw_cip.specs.declared.packet.IsoPacket.{IsoPacket}
use Rattle.fw_log_json_packets.specs.Packets.{cip_fields, iso_fields}
use Rattle.fw_log_json.proofs.Told.{Value, Told, next, knowing, means, comma, comma_first, known, number, one_text}
use Rattle.fw_log_json.proofs.ToldValues.{six, in_bytes}

same_bit : (a b : Bool) → bit a ≡ bit b → a ≡ b
same_bit a b e = grind arith

pub one_bit : (b : Bool) → bit b < 2 ^ 64
one_bit true = omega arith
one_bit false = omega arith

cips : (c d : CipHeader) → c.sid < 2 ^ 6 → d.sid < 2 ^ 6 → c.dbs < 2 ^ 8 → d.dbs < 2 ^ 8 → c.fraction < 2 ^ 2 → d.fraction < 2 ^ 2 → c.qpc < 2 ^ 3 → d.qpc < 2 ^ 3
    → c.dbc < 2 ^ 8 → d.dbc < 2 ^ 8 → c.fmt < 2 ^ 6 → d.fmt < 2 ^ 6 → c.fdf < 2 ^ 24 → d.fdf < 2 ^ 24 → Told (cip_fields c) (cip_fields d) (c ≡ d)
cips c d s1 s2 d1 d2 f1 f2 q1 q2 b1 b2 m1 m2 g1 g2 =
    means
    (knowing (next (next (next (next (next (next (next (comma (codes "\"sid\":") (number c.sid d.sid (omega (arith, s1)) (omega (arith, s2))))
    (comma (codes "\"dbs\":") (number c.dbs d.dbs (omega (arith, d1)) (omega (arith, d2)))))
    (comma (codes "\"fn\":") (number c.fraction d.fraction (omega (arith, f1)) (omega (arith, f2)))))
    (comma (codes "\"qpc\":") (number c.qpc d.qpc (omega (arith, q1)) (omega (arith, q2)))))
    (comma (codes "\"sph\":") (number (bit c.sph) (bit d.sph) (one_bit c.sph) (one_bit d.sph))))
    (comma (codes "\"dbc\":") (number c.dbc d.dbc (omega (arith, b1)) (omega (arith, b2)))))
    (comma (codes "\"fmt\":") (number c.fmt d.fmt (omega (arith, m1)) (omega (arith, m2)))))
    (comma (codes "\"fdf\":") (six c.fdf d.fdf g1 g2)))
    (comma_first _ _) (comma_first _ _) (λ e. (comma (codes "\"format_name\":") (one_text {a = name_value (format_name c)} {b = name_value (format_name d)}
    (λ i. name_value (format_name (record c { fmt = e.0.1 i; fdf = e.1 i }))))).value))
    (λ p. λ i. record {
      sid = p.0.0.0.0.0.0.0.0 i;
      dbs = p.0.0.0.0.0.0.0.1 i;
      fraction = p.0.0.0.0.0.0.1 i;
      qpc = p.0.0.0.0.0.1 i;
      sph = same_bit c.sph d.sph p.0.0.0.0.1 i;
      dbc = p.0.0.0.1 i;
      fmt = p.0.0.1 i;
      fdf = p.0.1 i;
    })

pub some_size : (block : Option (List ℕ)) → data_length block < 2 ^ 64
some_size None = omega arith
some_size (Some b) = omega arith

blocks : (x y : Option (List ℕ)) → IfSome x IsBlock → IfSome y IsBlock → data_length x ≡ data_length y
    → Value (quoted (hex_bytes (block_bytes x))) (quoted (hex_bytes (block_bytes y))) (x ≡ y)
blocks None None a b e = record { by = λ r s h k f. (refl, ((one_text {a = quoted []} {b = quoted []} refl).by r s h k f).1) }
blocks None (Some ys) a b e = absurd (omega (arith, e))
blocks (Some xs) None a b e = absurd (omega (arith, e))
blocks (Some xs) (Some ys) a b e = record {
  by = λ r s h k f.
      let g = (in_bytes xs ys a.bytes b.bytes (a.size ∙ sym b.size)).by r s h k f in (ap Some g.0, g.1);
}

pub isos : (p q : IsoPacket) → Fits p → Fits q → Told (iso_fields p) (iso_fields q) (p ≡ q)
isos p q a b =
    means
    (knowing (next (next (next (next (next (comma (codes "\"data_length\":") (number (data_length p.block) (data_length q.block) (some_size p.block) (some_size q.block)))
    (comma (codes "\"tag\":") (one_text {a = decimal 1} {b = decimal 1} refl)))
    (comma (codes "\"channel\":") (number p.channel q.channel (omega (arith, a.header)) (omega (arith, b.header)))))
    (known (codes "\"tcode\":") 10 (codes ",\"tcode_name\":") (Some (codes "iso_data"))))
    (comma (codes "\"sy\":") (number p.sy q.sy (omega (arith, a.header)) (omega (arith, b.header)))))
    (cips p.cip q.cip (omega (arith, a.first)) (omega (arith, b.first)) (omega (arith, a.first)) (omega (arith, b.first)) (omega (arith, a.first)) (omega (arith, b.first))
    (omega (arith, a.first)) (omega (arith, b.first)) (omega (arith, a.first)) (omega (arith, b.first)) (omega (arith, a.second)) (omega (arith, b.second))
    (omega (arith, a.second)) (omega (arith, b.second))))
    (comma_first _ _) (comma_first _ _) (λ e. (comma (codes "\"data\":") (blocks p.block q.block a.block b.block e.0.0.0.0.0)).value))
    (λ r. λ i. record { channel = r.0.0.0.0.1 i; sy = r.0.0.1 i; cip = r.0.1 i; block = r.1 i })
