-- What stands in the bytes of a whole packet.
use Rattle.std.specs.Prelude.{◌≡◌, ℕ, ◌≤◌, List, [], ◌∷◌, length, take, drop, if◌then◌else◌}
use Rattle.fw_words.specs.Quadlet.{field, quadlet_at}
use Rattle.fw_async_fields.specs.Tcode.{has_quadlet_3, has_data}
use Rattle.fw_async_fields.specs.Reading.{tcode_of, need_by, IsSound}
use Rattle.fw_async.specs.Async.{Parts, parts, Fits}
use Rattle.fw_async.specs.declared.packet.Packet.{Packet}

-- the parts that stand in the bytes of a whole packet of this tcode
abbrev pub parts_at : ℕ → List ℕ → Parts
parts_at t bytes = record {
  quadlets = quadlet_at bytes 0 ∷ quadlet_at bytes 4 ∷ quadlet_at bytes 8 ∷ (if has_quadlet_3 t then quadlet_at bytes 12 ∷ [] else []);
  bytes = if has_data t then take (field (quadlet_at bytes 12) 0 15) (drop 16 bytes) else [];
}

-- the bytes are as many as their packet, which has this tcode, takes, and show no fault
pub record IsComplete (t : ℕ) (bytes : List ℕ) : Type 0 where
  pub kind : tcode_of bytes ≡ t
  pub begun : 12 ≤ length bytes
  pub all : length bytes ≡ need_by (length bytes) t (field (quadlet_at bytes 12) 0 15)
  pub sound : IsSound t (quadlet_at bytes 4) (quadlet_at bytes 8) (quadlet_at bytes 12)

-- the packet has the parts that stand in the bytes
pub record ReadsAs (t : ℕ) (bytes : List ℕ) (p : Packet) : Type 0 where
  pub fits : Fits p
  pub quadlets : (parts p).quadlets ≡ (parts_at t bytes).quadlets
  pub rest : (parts p).bytes ≡ (parts_at t bytes).bytes
