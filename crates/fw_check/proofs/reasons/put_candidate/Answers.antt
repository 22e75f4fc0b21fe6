use Rattle.std.proofs.Common.{List, ℕ, Bool, ◌++◌, ap, sym, ◌∙◌, codes}
use Rattle.std.proofs.lemmas.Result.{on_ok_weaker}
use Rattle.fw_check.specs.Whys.{candidate_text}
use Rattle.fw_check.proofs.Joins.{pair_after, then}
use Rattle.fw_check.proofs.reasons.put_candidate.Goals as goal

pub returns : goal.returns
returns c =
    let old : List ℕ = c.args.text.now.items in
    let name : List ℕ = c.args.name.now in
    let first : List ℕ = name ++ codes " is no candidate; `candidate " in
    let last : List ℕ = codes "` makes it one" in
    on_ok_weaker c.put_named-3.result
    (λ piece.
    then old c.put_named-2.new.text.items _ first (name ++ last) c.in_ok-put_named.ensures piece ∙ ap (λ (l : List ℕ). old ++ l) (pair_after first name last)
    ∙ ap (λ (t : Bool). old ++ candidate_text name t) (sym c.if-not-capable.false))
    c.put_named-3.ensures
