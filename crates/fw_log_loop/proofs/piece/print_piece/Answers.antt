use Rattle.fw_log_loop.proofs.Printings.{printed_nothing, written_part, written_stop, written}
use Rattle.fw_log_loop.proofs.piece.print_piece.Goals as goal

pub returns-in_default-clause-text : goal.returns-in_default-clause-text
returns-in_default-clause-text g c entries bytes h t = printed_nothing (g.O.Reading.form c.args.output.now).text (g.K.Sink.held c.args.sink.now) entries bytes c.args.piece.now c.args.reader.now h

pub returns-in_default-flush-clause-text : goal.returns-in_default-flush-clause-text
returns-in_default-flush-clause-text g c entries bytes h t =
    written_part (g.O.Reading.form c.args.output.now).text (g.met.O.Reading.each c.args.output.now) g.O.Reading.rules (g.O.Reading.took c.take_entries.new.output)
    (g.O.Reading.gathered c.take_entries.new.output) entries bytes c.args.piece.now c.take_entries.new.reader
    c.in-Ok.ending c.requires.empty (c.in-Ok.ensures.text entries bytes h t) c.in_default-flush.ensures.text

pub returns-in-Some-clause-text : goal.returns-in-Some-clause-text
returns-in-Some-clause-text g c entries bytes h t =
    written_stop (g.O.Reading.form c.args.output.now).text g.O.Reading.rules (g.O.Reading.took c.take_entries.new.output) (g.O.Reading.took c.flush.new.output) _ _
    (g.O.Reading.gathered c.args.output.now) (g.O.Reading.gathered c.take_entries.new.output) entries bytes c.args.piece.now
    c.take_entries.new.reader c.in-Ok.ending c.in-Some.ending c.in-Some.is c.requires.empty c.in-Ok-flush.ensures.took (c.in-Ok.ensures.text entries bytes h t) c.in-Ok-flush.ensures.text

pub returns-in-None-clause-text : goal.returns-in-None-clause-text
returns-in-None-clause-text g c entries bytes h t =
    written (g.O.Reading.form c.args.output.now).text g.O.Reading.rules (g.O.Reading.took c.take_entries.new.output) (g.O.Reading.took c.flush.new.output) _ _ (g.O.Reading.gathered c.args.output.now)
    (g.O.Reading.gathered c.take_entries.new.output) entries bytes
    c.args.piece.now c.take_entries.new.reader c.in-Ok.ending c.in-None.is c.requires.empty c.in-Ok-flush.ensures.took (c.in-Ok.ensures.text entries bytes h t) c.in-Ok-flush.ensures.text
