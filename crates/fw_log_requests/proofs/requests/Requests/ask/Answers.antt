use Rattle.std.proofs.Common.{◌∙◌, ◌++◌, ◌∷◌, [], ℕ, List, ap, sym, length, slice_index_or, false, arith}
use Rattle.fw_log_requests.specs.declared.asked.Asked.{Asked}
use Rattle.fw_log_requests.specs.Requests.{latest, with_request, without_same}
use Rattle.fw_log_requests.proofs.ApartLaws.{none_asked, few_others, asked_kept}
use Rattle.fw_log_requests.proofs.requests.Requests.ask.Goals as goal

pub take_same-requires : goal.take_same-requires
take_same-requires c f =
    none_asked c.self.inside.askers c.args.new c.self.inside.queue c.self.invariant.marked (ap (λ (k : ℕ). slice_index_or c.self.inside.askers k false) (sym c.asker_of-asker.ensures) ∙ f)

pub make_room-requires : goal.make_room-requires
make_room-requires c = omega (arith, ap length c.take_same.ensures, few_others c.args.new c.self.inside.queue, c.self.invariant.few)

pub invariant_of-self : goal.invariant_of-self
invariant_of-self c =
    asked_kept c.self.inside.askers c.self.inside.queue c.make_room.new.queue c.push.new.self c.args.new c.asker_of-asker.result c.self.invariant (omega arith) c.asker_of-asker.ensures
    c.make_room.ensures.room c.push.ensures
    (c.make_room.ensures.latest c.args.new ∙ ap (λ (l : List Asked). latest (l ++ c.args.new ∷ [])) c.take_same.ensures)

pub returns : goal.returns
unfolding with_request
returns c =
    c.push.ensures ∙ c.make_room.ensures.latest c.args.new ∙ ap (λ (l : List Asked). latest (l ++ c.args.new ∷ [])) c.take_same.ensures
    ∙ ap (λ (l : List Asked). latest (without_same c.args.new l ++ c.args.new ∷ [])) c.self.view_is
