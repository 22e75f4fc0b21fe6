use Rattle.fw_script.proofs.ReadingLaws.{after_end}
use Rattle.fw_script.proofs.reader.ScriptReader.read_command.Goals as goal

pub returns-then-is_done-clause-gives : goal.returns-then-is_done-clause-gives
returns-then-is_done-clause-gives g c =
    after_end c.args.self.now (g.S.Source.left c.args.source.now) (c.is_done.ensures.yes c.if-is_done.true)
