use Rattle.fw_script_words.proofs.Common.{[], ◌++◌, log_bytes, Rule}
use Rattle.fw_model_run.specs.State.{epoch_of}
use Rattle.fw_outside.proofs.Parts.{Grows-nothing}
use Rattle.fw_script_words.specs.declared.ending.RunEnding.TheVariants as Endings
use Rattle.fw_script_words.proofs.Endings.{rule_ends}
use Rattle.fw_script_words.proofs.Faults.{stopped}
use Rattle.fw_script_words.proofs.Steps.{grown_by_none, ends_there, stops_there, carried}
use Rattle.fw_script_words.proofs.step.carry_read.Goals as goal

pub returns-in-Ok-clause-goes : goal.returns-in-Ok-clause-goes
returns-in-Ok-clause-goes g c left before now held after old i a few =
    let d = c.in-Ok.ensures.run i.commands i.actions i.log i.state i.run i.stands in (
      log_bytes (epoch_of i.state.account.latest) d.out,
      d.grew,
      λ after2 h. carried now after2 c.args.reader.now c.apply.new.self c.args.command.now i a d h,
    )

pub returns-in-Err-Refused-clause-goes : goal.returns-in-Err-Refused-clause-goes
returns-in-Err-Refused-clause-goes g c left before now held after old i a few =
    let same = rw c.in-Err-Refused.field-0-is at c.in-Err-Refused.ensures.refused in (
      [],
      rw same.1 (Grows-nothing (g.K.Sink.held c.args.sink.now)),
      λ after2 h. rw (c.refused.ensures, c.line.ensures, same.0)
          (ends_there (Endings.Refused (record { line = c.args.reader.now.line; why = Rule c.in-Err-Refused.rule })) (grown_by_none after after2 h)
          (rule_ends now c.args.reader.now c.args.command.now c.in-Err-Refused.rule i a few
          (rw c.in-Err-Refused.field-0-is at (c.in-Err-Refused.ensures.run i.commands i.actions i.log i.state i.run i.stands)))),
    )

pub returns-in-Err-WriteFault-clause-goes : goal.returns-in-Err-WriteFault-clause-goes
returns-in-Err-WriteFault-clause-goes g c left before now held after old i a few =
    let d = rw c.in-Err-WriteFault.field-0-is at (c.in-Err-WriteFault.ensures.run i.commands i.actions i.log i.state i.run i.stands) in (
      log_bytes (epoch_of i.state.account.latest) d.cut.given ++ d.cut.prefix,
      d.cut.appended,
      λ after2 h. stopped now after2 c.args.reader.now c.apply.new.self c.args.command.now i a (stops_there after after2 d h),
    )
