use Rattle.fw_script.proofs.ReadingLaws.{reads_end, reads_no_end}
use Rattle.fw_script.proofs.reader.ScriptReader.read_end.Goals as goal

pub returns-then-takes_commands-clause-reads : goal.returns-then-takes_commands-clause-reads
returns-then-takes_commands-clause-reads c =
    reads_no_end c.args.self.now c.refuse.new.self c.requires.end (c.takes_commands.ensures.yes c.if-takes_commands.true) c.refuse.ensures

pub returns-else-takes_commands-clause-reads : goal.returns-else-takes_commands-clause-reads
returns-else-takes_commands-clause-reads c =
    reads_end c.args.self.now c.enter.new.self c.requires.end (c.takes_commands.ensures.no c.if-takes_commands.false) c.enter.ensures
