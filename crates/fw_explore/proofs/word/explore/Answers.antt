use Rattle.fw_explore.proofs.Common.{ℕ, ◌≡◌, List, refl, sym, ap, subst, ◌∙◌, DeskRelations}
use Rattle.fw_outside.specs.Outside.{Grows, AppendsPrefix}
use Rattle.fw_explore.proofs.WordLaws.{tells_none, untouched, no_write}
use Rattle.fw_explore.proofs.word.explore.Given as given
use Rattle.fw_explore.proofs.word.explore.Goals as goal

pub returns-in-Err : goal.returns-in-Err
returns-in-Err g c =
    let D : DeskRelations = record { blocks = given.F-post g c.args.desk.now.blocks; vendor = given.H-post g c.args.desk.now.vendor } in
    let left = g.S.Source.left c.args.source.now in
    let left' = g.S.Source.left c.text_after.new.source in
    let told = c.in-Err.ensures.told in
    record {
      tells = tells_none D c.args.explored.now left left' (g.K.Sink.held c.args.sink.now) c.in-Err.ending told;
      untouched = untouched c.args.sink.now c.in-Err.ending;
      read_count = c.in-Err.ensures.read_count;
      write_count = no_write D c.args.explored.now left left' (g.K.Sink.faults c.args.sink.now) c.in-Err.ending told;
    }
