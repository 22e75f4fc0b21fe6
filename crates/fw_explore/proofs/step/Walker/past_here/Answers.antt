use Rattle.fw_explore.proofs.Common.{◌++◌, ap, ◌∙◌, History}
use Rattle.fw_explore_told.specs.Histories.{told_entries}
use Rattle.fw_explore.proofs.Numbers.{history_by}
use Rattle.fw_explore.proofs.step.Walker.past_here.Goals as goal

pub returns : goal.returns
returns g c epoch out past fits held had =
    let same = c.in_ok-past.ensures ∙ c.past.ensures past had in
    history_by c.tell.new.self past (told_entries out) (c.in_ok-tell.ensures.done ∙ ap (λ (h : History). h.done) same)
    (c.in_ok-tell.ensures.said epoch out fits (c.as_slice.ensures ∙ held) ∙ ap (λ (h : History). h.said ++ told_entries out) same)
