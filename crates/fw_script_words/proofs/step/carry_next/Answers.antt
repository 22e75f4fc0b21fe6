use Rattle.std.proofs.Common.{◌≡◌, rules}
use Rattle.fw_script_words.proofs.Common.{[]}
use Rattle.fw_outside.proofs.Parts.{Grows-nothing}
use Rattle.fw_script_words.specs.declared.ending.RunEnding.TheVariants as Endings
use Rattle.fw_script_words.proofs.Calls.{may_read}
use Rattle.fw_script_words.proofs.Goings.{going_form}
use Rattle.fw_script_words.proofs.Endings.{logged_with}
use Rattle.fw_script_words.proofs.Faults.{faulted}
use Rattle.fw_script_words.proofs.Steps.{grown_by_none, ends_there}
use Rattle.fw_script_words.proofs.step.carry_next.Goals as goal

pub read_command-requires : goal.read_command-requires
read_command-requires g c = may_read c.requires.under_way.going.read

pub returns-in-Ok-false-clause-goes : goal.returns-in-Ok-false-clause-goes
returns-in-Ok-false-clause-goes g c left held after i =
    let left2 = g.S.Source.left c.read_command.new.source in (
      [],
      Grows-nothing (g.K.Sink.held c.args.sink.now),
      λ after2 h. ends_there Endings.Done (grown_by_none after after2 h) (logged_with left2 c.read_command.new.self i (rw c.in-Ok-false.field-0-test at c.in-Ok-false.ensures.gives)),
    )

pub returns-in-Err-clause-goes : goal.returns-in-Err-clause-goes
returns-in-Err-clause-goes g c left held after i =
    let left2 = g.S.Source.left c.read_command.new.source in (
      [],
      Grows-nothing (g.K.Sink.held c.args.sink.now),
      λ after2 h. ends_there c.ending_of.result (grown_by_none after after2 h)
          (rw (c.ending_of.ensures, c.line.ensures) (faulted left2 c.read_command.new.self c.in-Err.fault i c.in-Err.ensures.gives c.in-Err.ensures.held)),
    )

pub carry_read-requires-clause-command : goal.carry_read-requires-clause-command
carry_read-requires-clause-command g c = going_form (g.S.Source.left c.read_command.new.source) c.read_command.new.self c.read_command.new.out c.requires.under_way.going
    (rw c.in-Ok-true.field-0-test at c.in-Ok-true.ensures.gives)

pub returns-in-Ok-true-clause-goes : goal.returns-in-Ok-true-clause-goes
returns-in-Ok-true-clause-goes g c left held after i =
    c.carry_read.ensures.goes left (g.S.Source.left c.args.source.now) (g.S.Source.left c.read_command.new.source) held after c.args.reader.now i
    (rw c.in-Ok-true.field-0-test at c.in-Ok-true.ensures.gives) (rw c.in-Ok-true.field-0-test at c.in-Ok-true.ensures.held)

pub returns-in-Ok-true-clause-reads : goal.returns-in-Ok-true-clause-reads
returns-in-Ok-true-clause-reads g c =
    let same : g.S.Source.faults c.read_command.new.source ≡ g.S.Source.faults c.args.source.now = c.in-Ok-true.ensures.unfailed (search rules) in
    rw same (c.carry_read.ensures.reads (g.S.Source.faults c.args.source.now))
