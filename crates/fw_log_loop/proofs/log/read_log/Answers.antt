use Rattle.std.proofs.Common.{refl}
use Rattle.fw_log_loop.proofs.Completions.{is_complete, complete_by}
use Rattle.fw_log_loop.proofs.Interruptions.{nothing_read, read_bare}
use Rattle.fw_log_loop.proofs.log.read_log.Goals as goal

pub returns-in_default : goal.returns-in_default
returns-in_default g c = nothing_read (g.O.Reading.form c.args.output) g.O.Reading.rules _ _ refl refl

pub returns-in_default-new : goal.returns-in_default-new
returns-in_default-new g c = nothing_read (g.O.Reading.form c.args.output) g.O.Reading.rules _ _ refl refl

pub returns : goal.returns
returns g c =
    let read = c.read_pieces.ensures in
    let form = g.O.Reading.form c.args.output in
    let rules = g.O.Reading.rules in
    let reads = read_bare form rules (g.O.Reading.took c.read_pieces.new.output) (g.S.Source.left c.args.source.now) (g.S.Source.left c.read_pieces.new.source) (g.K.Sink.held c.args.sink.now)
    (g.K.Sink.held c.read_pieces.new.sink)
    c.read_pieces.result c.requires.bare (g.met.O.Reading.accepted c.read_pieces.new.output) read.reads in
    record {
      reads = reads;
      read_count = read.read_count;
      write_count = read.write_count;
      complete = complete_by g.O.Reading.rules g.O.Reading.rules.completes (g.S.Source.left c.args.source.now) c.read_pieces.result g.met.O.Reading.unrefused
          (is_complete (g.O.Reading.form c.args.output) g.O.Reading.rules (g.S.Source.left c.args.source.now) (g.S.Source.left c.read_pieces.new.source) (g.K.Sink.held c.args.sink.now)
          (g.K.Sink.held c.read_pieces.new.sink)
          c.read_pieces.result reads);
    }
