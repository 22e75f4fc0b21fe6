use Rattle.fw_explore.proofs.Common.{◌≡◌, sym, ap, ◌∙◌, arith, History}
use Rattle.std.proofs.lemmas.List.{get_or_read}
use Rattle.fw_explore_meaning.specs.Steps.{marked}
use Rattle.fw_explore.proofs.Numbers.{had_here, two_numbers}
use Rattle.fw_explore.proofs.PastForms.{after_none, after_more}
use Rattle.fw_explore.proofs.step.Walker.past_after.Goals as goal

-- the past is still that of the place
pub returns-then-leaves_past-clause-after : goal.returns-then-leaves_past-clause-after
returns-then-leaves_past-clause-after g c =
    let self = c.args.self.now in
    let Kept = g.P.Keeper.Kept self.kept.places in
    let two = two_numbers self.pasts Kept self.here.items c.requires.here in
    after_none self.pasts _ self.sink.held c.args.kind c.args.mover _ c.requires.here.past (had_here self.pasts Kept self.here.items c.requires.here)
    (get_or_read self.here.items 0 c.index-number.result.now (omega (arith, two)) c.index-number.ensures 0)
    (c.leaves_past.ensures.kind c.if-leaves_past.true)
    (λ epoch out fits held. c.leaves_past.ensures.none epoch out fits (c.as_slice.ensures ∙ held) c.if-leaves_past.true)

pub returns-clause-after : goal.returns-clause-after
returns-clause-after g c =
    let self = c.args.self.now in
    after_more self.pasts c.keep.new.self _ self.sink.held c.args.kind c.args.mover c.keep.result c.mark_line.new.past
    (λ epoch out past fits held had. c.mark_line.ensures ∙ ap (λ (h : History). marked c.args.kind c.args.mover h) (c.in_ok-past.ensures epoch out past fits held had))
    c.keep.ensures.ok
