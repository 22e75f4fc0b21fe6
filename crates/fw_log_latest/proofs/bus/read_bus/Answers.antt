use Rattle.std.proofs.Common.{refl, ◌∙◌, ◌*◌, take, length, length-drop, arith, ap}
use Rattle.std.proofs.lemmas.List.{take_rest}
use Rattle.fw_log_latest.proofs.BusLaws.{bus_of, within}
use Rattle.fw_log_latest.proofs.LatestLaws.{long}
use Rattle.fw_log_latest.proofs.bus.read_bus.Goals as goal

pub quadlet_at-second-requires : goal.quadlet_at-second-requires
quadlet_at-second-requires c = omega (arith, long c.requires.0 c.args.bytes.now c.requires.2)

pub quadlet_at-requires : goal.quadlet_at-requires
quadlet_at-requires c = omega (arith, long c.requires.0 c.args.bytes.now c.requires.2)

pub count_of-requires : goal.count_of-requires
count_of-requires c = omega (arith, long c.requires.0 c.args.bytes.now c.requires.2)

pub returns : goal.returns
returns c = λ r f s.
    bus_of c.args.bytes.now c.quadlet_at.result.0 c.quadlet_at-second.result.0 c.count_of.result c.manager_of-reset.result c.nodes_of-reset.result
    (record c.args.reset.now { epoch = c.quadlet_at.result.0; manager = c.manager_of-reset.result; initiator = c.field-2.result; nodes = c.nodes_of-reset.result }) r
    (record {
      epoch_fits = omega arith;
      first = c.quadlet_at.ensures.back;
      second_fits = omega arith;
      second_is = c.quadlet_at-second.ensures.value;
      second = c.quadlet_at-second.ensures.back;
      manager_is = c.manager_of-reset.ensures.same ∙ c.field.ensures;
      manager_fits = c.manager_of-reset.ensures.small;
      count_is = c.count_of.ensures.value;
      count = c.nodes_of-reset.ensures.count;
      rows = c.nodes_of-reset.ensures.fits;
      same = c.nodes_of-reset.ensures.same ∙ ap (take (4 * c.count_of.result)) (take_rest c.args.bytes.now 8);
    }) f s refl refl refl c.field-2.ensures

pub nodes_of-reset-requires-clause-there : goal.nodes_of-reset-requires-clause-there
nodes_of-reset-requires-clause-there c =
    omega (
      arith,
      within c.requires.0 c.args.bytes.now c.requires.1 c.requires.2,
      c.count_of.ensures.value,
      ap length (take_rest c.args.bytes.now 8),
      length-drop 8 c.args.bytes.now,
    )
