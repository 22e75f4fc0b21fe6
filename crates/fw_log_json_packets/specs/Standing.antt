-- The fields of a packet, where they stand in its bytes (IEEE 1394-1995, clause 6.2).
use Rattle.std.specs.Prelude.{ℕ, ◌+◌, ◌*◌, ◌^◌, List, take, drop}
use Rattle.fw_words.specs.Quadlet.{field, quadlet_at}
use Rattle.fw_async.specs.declared.packet.Head.{Head}

-- the head, in quadlets 0 and 1
abbrev pub head_standing : List ℕ → Head
head_standing bytes = record {
  destination = field (quadlet_at bytes 0) 0 15;
  tl = field (quadlet_at bytes 0) 16 21;
  rt = field (quadlet_at bytes 0) 22 23;
  pri = field (quadlet_at bytes 0) 28 31;
  source = field (quadlet_at bytes 4) 0 15;
}

-- the offset of a request, in quadlets 1 and 2
abbrev pub offset_standing : List ℕ → ℕ
offset_standing bytes = field (quadlet_at bytes 4) 16 31 * 2 ^ 32 + quadlet_at bytes 8

-- the response code of a response, in quadlet 1
abbrev pub rcode_standing : List ℕ → ℕ
rcode_standing bytes = field (quadlet_at bytes 4) 16 19

-- the data of a block, after its size in quadlet 3
abbrev pub block_standing : List ℕ → List ℕ
block_standing bytes = take (field (quadlet_at bytes 12) 0 15) (drop 16 bytes)
