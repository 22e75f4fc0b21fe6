use Rattle.fw_explore.proofs.Common.{sym, ap, ◌∙◌, Mover}
use Rattle.std.proofs.Common.{inl}
use Rattle.fw_explore_meaning.proofs.HistoryLaws.{apart}
use Rattle.fw_explore.proofs.Numbers.{same_mover, there_by}
use Rattle.fw_explore.proofs.there.is_there.Goals as goal

pub returns-in-HalfSteps : goal.returns-in-HalfSteps
returns-in-HalfSteps c m is once =
    let same = same_mover c.args.explored.now c.args.mover c.index-this.result.now m c.requires.mover c.index-this.ensures is in
    absurd (apart m.kind (sym (ap (λ (n : Mover). n.kind) same) ∙ c.in-HalfSteps.is) once)

pub returns-then-was : goal.returns-then-was
returns-then-was c m is =
    let same = same_mover c.args.explored.now c.args.mover c.index-this.result.now m c.requires.mover c.index-this.ensures is in
    record { once = sym (ap (λ (n : Mover). n.kind) same) ∙ c.in-Once.is; why = inl c.if-was.true }

pub returns-else-was : goal.returns-else-was
returns-else-was c m is =
    let same = same_mover c.args.explored.now c.args.mover c.index-this.result.now m c.requires.mover c.index-this.ensures is in
    there_by c.args.explored.now c.args.done.now c.args.mover m c.is_next.result (sym (ap (λ (n : Mover). n.kind) same) ∙ c.in-Once.is) c.if-was.false (c.is_next.ensures m is)
