use Rattle.std.proofs.Common.{Ok, ap, sym, ◌∙◌}
use Rattle.fw_cip.specs.Iso.{iso_fault}
use Rattle.fw_cip.proofs.SpelledLaws.{spelled_none}
use Rattle.fw_cip.proofs.SameLaws.{same_packet}
use Rattle.fw_cip.proofs.read.read_iso.Goals as goal

pub returns-in-Some-clause-only : goal.returns-in-Some-clause-only
returns-in-Some-clause-only c p f e = let none = c.in-Some.ensures ∙ ap iso_fault (sym e) ∙ spelled_none p f in cc none

pub returns-in-None-clause-only : goal.returns-in-None-clause-only
returns-in-None-clause-only c p f e = ap (λ q. Ok q) (same_packet c.packet_of.result p c.packet_of.ensures.fits f (c.packet_of.ensures.same ∙ sym e))
