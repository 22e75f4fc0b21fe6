use Rattle.fw_script_words.proofs.Common.{DeskRelations}
use Rattle.fw_script_words.proofs.Dubbings.{dub_completes, no_write_counted, nothing_dubbed, reads_with, reel_written}
use Rattle.fw_script_words.proofs.recording.dub.Given as given
use Rattle.fw_script_words.proofs.recording.dub.Goals as goal

pub returns-in-Done : goal.returns-in-Done
returns-in-Done g c =
    let D : DeskRelations = record { blocks = given.F-post g c.args.desk.now.blocks; vendor = given.H-post g c.args.desk.now.vendor } in
    let left = g.S.Source.left c.args.source.now in
    let left2 = g.S.Source.left c.record_run.new.source in
    let held = g.K.Sink.held c.args.sink.now in
    let held2 = g.K.Sink.held c.write_reel.new.sink in
    let h = c.in-Done.ensures.recorded in
    let was = h.was.ran.logged in
    let d = reel_written D left left2 held held2 c.record_run.new.bus c.reel.result.now c.write_reel.result h
    (c.reel.ensures.lent h.was.ran.commands was.actions was.log was.state was.run h.stands) c.write_reel.ensures.bytes in
    record {
      dubs = d;
      complete = λ script told valid. dub_completes D script left left2 held held2 c.write_reel.result d told valid;
      read_count = reads_with _ _ c.reel.result.now held held2 c.write_reel.result c.in-Done.ensures.read_count c.write_reel.ensures.bytes;
      write_count = c.write_reel.ensures.write_count;
    }

pub returns : goal.returns
returns g c =
    let D : DeskRelations = record { blocks = given.F-post g c.args.desk.now.blocks; vendor = given.H-post g c.args.desk.now.vendor } in
    let left = g.S.Source.left c.args.source.now in
    let left2 = g.S.Source.left c.record_run.new.source in
    let held = g.K.Sink.held c.args.sink.now in
    let d = nothing_dubbed D left left2 held c.record_run.new.bus c.record_run.result c.in_default-record_run.not-Done c.record_run.ensures.recorded in
    record {
      dubs = d;
      complete = λ script told valid. dub_completes D script left left2 held held c.record_run.result d told valid;
      read_count = c.record_run.ensures.read_count;
      write_count = no_write_counted D left left2 c.record_run.new.bus (g.K.Sink.faults c.args.sink.now) c.record_run.result c.record_run.ensures.recorded;
    }
