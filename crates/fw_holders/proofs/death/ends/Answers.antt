use Rattle.fw_holders.proofs.Common.{◌≡◌, ◌+◌, ◌∙◌, ap, List, Seats, ends_in}
use Rattle.fw_terms.specs.Tables.{sum_plugs}
use Rattle.fw_holders.specs.Deeds.{ends_at}
use Rattle.fw_holders.proofs.EndsLaws.{all_output_ends, all_input_ends}
use Rattle.fw_holders.proofs.death.ends.Goals as goal

pub returns : goal.returns
returns c = λ l h.
    let t = c.args.tables.now in
    let outs : c.ends_among.result ≡ sum_plugs (λ p. ends_at c.args.controller (l.outputs p)) =
    c.ends_among.ensures.ends ∙ ap (λ (s : List Seats). sum_plugs (ends_in t.outs s c.args.controller)) c.deref.ensures.value ∙ all_output_ends t l c.args.controller h in
    let ins : c.ends_among-2.result ≡ sum_plugs (λ p. ends_at c.args.controller (l.inputs p)) =
    c.ends_among-2.ensures.ends ∙ ap (λ (s : List Seats). sum_plugs (ends_in t.ins s c.args.controller)) c.deref-2.ensures.value ∙ all_input_ends t l c.args.controller h in
    ap (λ n. n + c.ends_among-2.result) outs ∙ ap (λ n. sum_plugs (λ p. ends_at c.args.controller (l.outputs p)) + n) ins
