use Rattle.std.proofs.Common.{arith}
use Rattle.std.proofs.lemmas.List.{length-take-le}
use Rattle.fw_script.proofs.LineLaws.{line_near, near_few}
use Rattle.fw_script.proofs.ReadingLaws.{reads_skipped, reads_command, reads_end_line, reads_bad_line, refused_stage, few_following, few_refused}
use Rattle.fw_script.proofs.reader.ScriptReader.read_text.Goals as goal

pub advance-requires-clause-near : goal.advance-requires-clause-near
advance-requires-clause-near c = near_few _ (line_near c.args.self.now _ c.args.size c.requires.near c.requires.line.line)

pub advance-requires-clause-short : goal.advance-requires-clause-short
advance-requires-clause-short c = let long = length-take-le c.args.count c.args.self.now.rest c.requires.line.there in omega (arith, long, c.requires.line.line.short)

pub returns-in-Skipped-clause-reads : goal.returns-in-Skipped-clause-reads
returns-in-Skipped-clause-reads c =
    reads_skipped c.args.self.now c.advance.new.self c.args.count c.args.size c.prefix_text.result.now c.prefix_text.ensures c.requires.line c.advance.ensures
    c.requires.near c.requires.open c.in-Skipped.ensures

pub returns-in-Command-clause-reads : goal.returns-in-Command-clause-reads
returns-in-Command-clause-reads c =
    reads_command c.args.self.now c.advance.new.self c.args.count c.args.size c.prefix_text.result.now c.meaning_of-meaning.new.out c.prefix_text.ensures c.requires.line c.advance.ensures
    c.in-Command.ensures.0 (c.takes_commands.ensures.yes c.in-Command.ensures.1) c.in-Command.ensures.2 c.in-Command.ensures.3

pub returns-in-Command-clause-held : goal.returns-in-Command-clause-held
returns-in-Command-clause-held c = few_following c.args.self.now c.advance.new.self c.args.count c.args.size c.requires.near c.requires.line c.advance.ensures

pub returns-in-End-clause-reads : goal.returns-in-End-clause-reads
returns-in-End-clause-reads c =
    reads_end_line c.args.self.now c.advance.new.self c.enter.new.self c.args.count c.args.size c.prefix_text.result.now c.prefix_text.ensures c.requires.line c.advance.ensures c.enter.ensures
    c.requires.near c.in-End.ensures.0 (c.takes_commands.ensures.yes c.in-End.ensures.1) c.in-End.ensures.2

pub returns-in-Refused-clause-reads : goal.returns-in-Refused-clause-reads
returns-in-Refused-clause-reads c =
    reads_bad_line c.args.self.now c.advance.new.self c.enter-in-Refused.new.self c.args.count c.args.size c.prefix_text.result.now c.prefix_text.ensures c.requires.line c.advance.ensures
    c.enter-in-Refused.ensures
    c.in-Refused.ensures.0 (refused_stage c.args.self.now c.takes_commands.result c.prefix_text.result.now c.takes_commands.ensures.no c.in-Refused.ensures.1)

pub returns-in-Refused-clause-held : goal.returns-in-Refused-clause-held
returns-in-Refused-clause-held c =
    few_refused c.args.self.now c.advance.new.self c.enter-in-Refused.new.self c.args.count c.args.size c.requires.near c.requires.line c.advance.ensures c.enter-in-Refused.ensures
