-- What packets of the usual kinds have, as nearly all are.
use Rattle.std.specs.Prelude.{◌≡◌, ◌⊎◌, ℕ, ◌<◌, ◌≤◌, false, length}
use Rattle.fw_async.specs.declared.packet.Head.{Head}
use Rattle.fw_cip.specs.Iso.{block_bytes}
use Rattle.fw_cip.specs.declared.packet.CipHeader.{CipHeader}
use Rattle.fw_cip.specs.declared.packet.IsoPacket.{IsoPacket}

-- a label of six bits, the retry code retry_X and no priority
abbrev pub IsUsualHead : Head → Type 0
IsUsualHead h = (h.tl < 64) × (h.rt ≡ 1) × (h.pri ≡ 0)

-- complete, or address_error
abbrev pub IsUsualCode : ℕ → Type 0
IsUsualCode rcode = (rcode ≡ 0) ⊎ (rcode ≡ 7)

-- the blocks of SD-DVCR, without a time stamp (IEC 61883-2)
pub record IsUsualCip (c : CipHeader) : Type 0 where
  pub size : c.dbs ≡ 120
  pub fraction : c.fraction ≡ 0
  pub padding : c.qpc ≡ 0
  pub header : c.sph ≡ false
  pub form : c.fmt ≡ 0
  pub lines : (c.fdf ≡ 65535) ⊎ (c.fdf ≡ 8454143)

-- an isochronous packet of them
pub record IsUsualIso (p : IsoPacket) : Type 0 where
  pub cip : IsUsualCip p.cip
  pub few : length (block_bytes p.block) ≤ 512
