use Rattle.std.proofs.Common.{◌∙◌, ap, take}
use Rattle.std.specs.Int.{to_be_bytes, w32}
use Rattle.fw_phy.proofs.ReadLaws.{eight}
use Rattle.fw_phy.proofs.read.quadlets_of.Goals as goal

pub returns-clause-bytes : goal.returns-clause-bytes
returns-clause-bytes c =
    eight c.args.b.now (to_be_bytes w32 c.get_quadlet.result.0) (to_be_bytes w32 c.get_quadlet-2.result.0)
    (c.get_quadlet.ensures.back ∙ c.in_ok-first.ensures.cases.0)
    (c.get_quadlet-2.ensures.back ∙ c.in_ok-second.ensures.cases.0 ∙ ap (take 4) c.in_ok-first.ensures.cases.1)
