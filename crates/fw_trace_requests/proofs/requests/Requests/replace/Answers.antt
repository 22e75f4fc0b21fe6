use Rattle.std.proofs.Common.{◌≡◌, ◌∙◌, ap, sym, subst, List, Some}
use Rattle.std.specs.List.{position}
use Rattle.fw_log_requests.specs.declared.asked.Asked.{Asked}
use Rattle.fw_trace_requests.specs.Requests.{is_from, AreApart, with_latest}
use Rattle.fw_trace_requests.proofs.RequestLaws.{takes_place, apart_latest}
use Rattle.fw_trace_requests.proofs.requests.Requests.replace.Goals as goal

pub invariant_of-self : goal.invariant_of-self
invariant_of-self c =
    let q = c.args.q in
    let list = c.self.inside.rows.items in
    let found = subst (λ (l : List Asked). position (is_from q.source q.label) l ≡ Some c.args.at) (sym c.self.view_is) c.requires.found in
    (subst AreApart (sym (takes_place q list c.args.at found)) (apart_latest q list c.self.invariant.0), c.self.invariant.1)

pub returns : goal.returns
returns c =
    let q = c.args.q in
    let list = c.self.inside.rows.items in
    let found = subst (λ (l : List Asked). position (is_from q.source q.label) l ≡ Some c.args.at) (sym c.self.view_is) c.requires.found in
    c.remember.ensures ∙ takes_place q list c.args.at found ∙ ap (with_latest q) c.self.view_is
