use Rattle.std.proofs.Common.{sym, subst, ℕ, ◌≡◌}
use Rattle.fw_words.specs.Quadlet.{field}
use Rattle.fw_cip.proofs.ReadLaws.{reserved_clear}
use Rattle.fw_cip.proofs.read.packet_of.Goals as goal

pub cip_of-requires-clause-reserved : goal.cip_of-requires-clause-reserved
cip_of-requires-clause-reserved c = let P : ℕ → Type 0 = λ q. field q 22 23 ≡ 0 in subst P (sym c.quadlet_at.ensures.value) (reserved_clear c.args.b.now c.requires)
