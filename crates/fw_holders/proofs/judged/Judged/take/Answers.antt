use Rattle.fw_holders.proofs.Common.{Option, subst, looked, ShowsAnswer, Answer}
use Rattle.fw_holders.proofs.JudgedLaws.{taken_answer}
use Rattle.fw_holders.proofs.judged.Judged.take.Goals as goal

pub returns-in-Some : goal.returns-in-Some
returns-in-Some c = λ l n more within h.
    taken_answer l c.args.entry.now c.in-Some.answer c.args.self.now c.take_answer.new.self
    (subst (λ (o : Option Answer). ShowsAnswer l (looked c.args.entry.now) o) c.in-Some.is h)
    (λ q r asked code shown. c.take_answer.ensures q r n asked code shown more within)
