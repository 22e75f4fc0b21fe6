use Rattle.fw_explore.proofs.Common.{ℕ, ◌≡◌, List, sym, ap, subst, ◌∙◌, arith, Machine, Had}
use Rattle.std.proofs.lemmas.List.{get_or_read}
use Rattle.fw_explore_meaning.specs.Steps.{IsArrived, IsPlacedKey, IsWiderBy, half_after, half_in}
use Rattle.fw_explore_meaning.proofs.ArriveLaws.{arrived, placed, wider}
use Rattle.fw_explore.specs.KeptBuses.{Keeping}
use Rattle.fw_explore.proofs.Numbers.{had_here, kept_as, two_numbers}
use Rattle.fw_explore.proofs.step.Walker.arrive.Goals as goal

pub returns-clause-arrives : goal.returns-clause-arrives
returns-clause-arrives g c epoch out past fits held had =
    let self = c.args.self.now in
    let Kept = g.P.Keeper.Kept in
    let two = two_numbers self.pasts (Kept self.kept.places) self.here.items c.requires.here in
    let half = get_or_read self.here.items 1 c.index.result.now (omega (arith, two)) c.index.ensures 0 in
    let k = c.in_ok-number.ensures.after in
    let to = c.put_key.new.self in
    let place = subst (λ (b : Keeping _). Kept c.keep.new.self.places c.keep.new.self.at b.bus.machine) c.in_ok-number.ensures.kept c.in_ok-keep.ensures.place in
    kept_as Kept (λ Had' Kept'. IsArrived Had' Kept' self.kept.bus.machine past (half_in self.here.items) out c.args.mover c.args.kind to.key.items) c.past_after.new.self.pasts to.pasts
    c.keep.new.self.places to.kept.places c.in_ok-put_key.ensures.pasts c.in_ok-put_key.ensures.places
    (arrived self.pasts _ (Kept self.kept.places) _ self.here.items _ _ self.kept.bus.machine past k.after _ _ c.args.mover c.args.kind (λ d. sym (had.at d)) k.keeps place
    (c.half_after-half.ensures ∙ ap (λ (h : ℕ). half_after c.args.kind h) half) c.in_ok-put_key.ensures.key c.in_ok-put_key.ensures.small out past had (k.is epoch out past fits held had))

pub returns-clause-placed : goal.returns-clause-placed
returns-clause-placed g c =
    let self = c.args.self.now in
    let Kept = g.P.Keeper.Kept in
    let old = c.requires.here in
    let two = two_numbers self.pasts (Kept self.kept.places) self.here.items old in
    let half = get_or_read self.here.items 1 c.index.result.now (omega (arith, two)) c.index.ensures 0 in
    let had = had_here self.pasts (Kept self.kept.places) self.here.items old in
    let k = c.in_ok-number.ensures.after in
    let to = c.put_key.new.self in
    let place = subst (λ (b : Keeping _). Kept c.keep.new.self.places c.keep.new.self.at b.bus.machine) c.in_ok-number.ensures.kept c.in_ok-keep.ensures.place in
    kept_as Kept (λ Had' Kept'. IsPlacedKey Had' Kept' to.key.items) c.past_after.new.self.pasts to.pasts c.keep.new.self.places to.kept.places
    c.in_ok-put_key.ensures.pasts c.in_ok-put_key.ensures.places
    (placed self.pasts _ (Kept self.kept.places) _ self.here.items _ _ self.kept.bus.machine old.past k.after _ _ c.args.mover c.args.kind (λ d. sym (had.at d)) k.keeps place
    (c.half_after-half.ensures ∙ ap (λ (h : ℕ). half_after c.args.kind h) half) c.in_ok-put_key.ensures.key c.in_ok-put_key.ensures.small)

pub returns-clause-wider : goal.returns-clause-wider
returns-clause-wider g c =
    let self = c.args.self.now in
    let Kept = g.P.Keeper.Kept in
    let old = c.requires.here in
    let two = two_numbers self.pasts (Kept self.kept.places) self.here.items old in
    let half = get_or_read self.here.items 1 c.index.result.now (omega (arith, two)) c.index.ensures 0 in
    let had = had_here self.pasts (Kept self.kept.places) self.here.items old in
    let k = c.in_ok-number.ensures.after in
    let to = c.put_key.new.self in
    let place = subst (λ (b : Keeping _). Kept c.keep.new.self.places c.keep.new.self.at b.bus.machine) c.in_ok-number.ensures.kept c.in_ok-keep.ensures.place in
    let more = subst (λ (b : Keeping _). (words : List ℕ) (m : Machine) → Kept b.places words m → Kept c.keep.new.self.places words m) c.in_ok-number.ensures.kept c.in_ok-keep.ensures.wider in
    kept_as Kept (λ Had' Kept'. IsWiderBy (Had self.pasts) Had' (Kept self.kept.places) Kept') c.past_after.new.self.pasts to.pasts c.keep.new.self.places to.kept.places
    c.in_ok-put_key.ensures.pasts c.in_ok-put_key.ensures.places
    (wider self.pasts _ (Kept self.kept.places) _ self.here.items _ _ self.kept.bus.machine old.past k.after _ _ c.args.mover c.args.kind (λ d. sym (had.at d)) k.keeps place
    (c.half_after-half.ensures ∙ ap (λ (h : ℕ). half_after c.args.kind h) half) c.in_ok-put_key.ensures.key c.in_ok-put_key.ensures.small more)
