use Rattle.std.proofs.Common.{subst, sym}
use Rattle.fw_model_audit.specs.Looked.{looked}
use Rattle.fw_model_audit.specs.Faults.{IsVerdict}
use Rattle.fw_ledger.specs.Refused.{ShowsAnswer}
use Rattle.fw_audit.proofs.Verdicts.{answer_verdict, no_answer_verdict, goes_after}
use Rattle.fw_audit.proofs.audit.take_other.Goals as goal
use Rattle.fw_audit.proofs.audit.take_other.Goals.{in-Some, in-None}

pub returns-in-Err : goal.returns-in-Err
returns-in-Err c = λ l h. c.fault_of.ensures l (looked c.args.e.now) (c.in-Err.ensures.refused l h).2

pub returns-in-Some-fault : goal.returns-in-Some-fault
returns-in-Some-fault c = λ l h.
    let x = c.in-Ok.ensures.taken l h in
    subst (IsVerdict l (looked c.args.e.now)) c.in-Some-fault.is
    (elim c.match-answer.branch [
      | in-Some w ↦
          subst (IsVerdict l (looked c.args.e.now)) (sym w.fault-is)
          (answer_verdict l c.args.e.now w.in-Some.answer _ _ h.sound x.0 (subst (ShowsAnswer l (looked c.args.e.now)) w.in-Some.is x.1) (w.judge_answer-fault.ensures l))
      | in-None w ↦
          subst (IsVerdict l (looked c.args.e.now)) (sym w.fault-is)
          (no_answer_verdict l c.args.e.now _ h.sound x.0 (subst (ShowsAnswer l (looked c.args.e.now)) w.in-None.is x.1) c.requires.other)
    ])

pub returns-in-None-fault : goal.returns-in-None-fault
returns-in-None-fault c = λ l h.
    let x = c.in-Ok.ensures.taken l h in (
      subst (IsVerdict l (looked c.args.e.now)) c.in-None-fault.is
          (elim c.match-answer.branch [
            | in-Some w ↦
                subst (IsVerdict l (looked c.args.e.now)) (sym w.fault-is)
                (answer_verdict l c.args.e.now w.in-Some.answer _ _ h.sound x.0 (subst (ShowsAnswer l (looked c.args.e.now)) w.in-Some.is x.1) (w.judge_answer-fault.ensures l))
            | in-None w ↦
                subst (IsVerdict l (looked c.args.e.now)) (sym w.fault-is)
                (no_answer_verdict l c.args.e.now _ h.sound x.0 (subst (ShowsAnswer l (looked c.args.e.now)) w.in-None.is x.1) c.requires.other)
          ]),
      goes_after _ l c.args.e.now x.0,
      x.1,
    )
