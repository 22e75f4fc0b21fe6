use Rattle.fw_log_json.proofs.Common.{◌≡◌, ◌≤◌, ◌∙◌, ℕ, arith, ap}
use Rattle.std.proofs.Common.{take}
use Rattle.std.proofs.lemmas.List.{take-take}
use Rattle.fw_log_json.proofs.prefix_row.PrefixRow.row.Goals as goal

pub returns-in-Some : goal.returns-in-Some
returns-in-Some c =
    let size : ℕ = c.self.inside.size in
    let short : size ≤ 64 = omega (arith, c.if-self-le-PREFIX.true) in
    let row : take size c.in-Some.row.now ≡ c.args.self.now =
    ap (take size) c.in-Some.ensures.cases.0 ∙ take-take size 64 c.deref.result.now short ∙ ap (take size) c.deref.ensures.value ∙ c.self.view_is in
    (short, row)
