use Rattle.std.proofs.Common.{refl, sym, ◌∙◌}
use Rattle.fw_bus_places.proofs.rest.RestPart.of.Goals as goal

pub returns : goal.returns
returns c = record {
  frame = sym (c.in_ok-new.ensures.ok ∙ c.in_ok-frame.ensures);
  directory = refl;
  cycle = refl;
  reclaiming = refl;
  resets = refl;
  written = refl;
  dead = sym c.flags.ensures;
  streams = refl;
  candidates = sym c.copy_from.ensures;
  tied = refl;
}
