use Rattle.std.proofs.Common.{refl, Bool, Ok, Err, Some, ap, ◌∙◌}
use Rattle.fw_script.proofs.ReadingLaws.{stage_after}
use Rattle.fw_script.proofs.StepLaws.{goes_nowhere, goes_in_turn, advances_by, nothing_given, command_given}
use Rattle.fw_script.proofs.reader.ScriptReader.read_on.Goals as goal

pub loop-fault-init : goal.loop-fault-init
loop-fault-init g c = record {
  goes_on = goes_nowhere c.args.self.now (g.S.Source.left c.args.source.now);
  more = c.requires.open;
  unasked = λ w. (refl, w);
  asks = λ h. (refl, h);
  unfailed = refl;
}

pub loop-fault-preserved : goal.loop-fault-preserved
loop-fault-preserved g c =
    let i = c.loop-fault.invariant in
    let s = nothing_given c.loop-fault.self c.read_more.new.self (g.S.Source.left c.loop-fault.source)
    (g.S.Source.left c.read_more.new.source) c.in-Ok-false.field-0 c.read_more.new.out c.in-Ok-false.field-0-test c.in-Ok-false.ensures.steps in
    record {
      goes_on = goes_in_turn c.args.self.now c.loop-fault.self c.read_more.new.self (g.S.Source.left c.args.source.now) (g.S.Source.left c.loop-fault.source) (g.S.Source.left c.read_more.new.source)
          i.goes_on s.0;
      more = s.1;
      unasked = λ w. let u = i.unasked w in let v = c.in-Ok-false.ensures.unasked u.1 in (v.0 ∙ u.0, v.1);
      asks = λ h. let u = i.asks h in (c.in-Ok-false.ensures.asks u.1 ∙ u.0, c.in-Ok-false.ensures.holds u.1 (ap (λ (b : Bool). Ok b) c.in-Ok-false.field-0-test));
      unfailed = c.in-Ok-false.ensures.unfailed (λ e. cc) ∙ i.unfailed;
    }

pub returns-in-Ok-true-clause-advances : goal.returns-in-Ok-true-clause-advances
returns-in-Ok-true-clause-advances g c =
    let s = command_given c.loop-fault.self c.read_more.new.self (g.S.Source.left c.loop-fault.source)
    (g.S.Source.left c.read_more.new.source) c.in-Ok-true.field-0 c.read_more.new.out c.in-Ok-true.field-0-test c.in-Ok-true.ensures.steps in
    advances_by c.args.self.now s.0 c.read_more.new.self (g.S.Source.left c.args.source.now) (g.S.Source.left c.read_more.new.source) (Ok (Some c.read_more.new.out)) c.requires.open
    (goes_in_turn c.args.self.now c.loop-fault.self s.0 (g.S.Source.left c.args.source.now) (g.S.Source.left c.loop-fault.source) (g.S.Source.left c.read_more.new.source)
    c.loop-fault.invariant.goes_on s.1) s.2

pub returns-in-Ok-true-clause-stage : goal.returns-in-Ok-true-clause-stage
returns-in-Ok-true-clause-stage g c =
    let s = command_given c.loop-fault.self c.read_more.new.self (g.S.Source.left c.loop-fault.source)
    (g.S.Source.left c.read_more.new.source) c.in-Ok-true.field-0 c.read_more.new.out c.in-Ok-true.field-0-test c.in-Ok-true.ensures.steps in
    stage_after c.args.self.now.stage s.0 c.read_more.new.self (Ok (Some c.read_more.new.out)) c.requires.open s.2

pub returns-in-Err-clause-advances : goal.returns-in-Err-clause-advances
returns-in-Err-clause-advances g c =
    let s = c.in-Err.ensures.steps in
    advances_by c.args.self.now s.0 c.read_more.new.self (g.S.Source.left c.args.source.now) (g.S.Source.left c.read_more.new.source) (Err c.in-Err.fault) c.requires.open
    (goes_in_turn c.args.self.now c.loop-fault.self s.0 (g.S.Source.left c.args.source.now) (g.S.Source.left c.loop-fault.source) (g.S.Source.left c.read_more.new.source)
    c.loop-fault.invariant.goes_on s.1) s.2

pub returns-in-Err-clause-stage : goal.returns-in-Err-clause-stage
returns-in-Err-clause-stage g c =
    let s = c.in-Err.ensures.steps in stage_after c.args.self.now.stage s.0 c.read_more.new.self (Err c.in-Err.fault) c.requires.open s.2
