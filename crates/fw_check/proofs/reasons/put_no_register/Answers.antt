use Rattle.std.proofs.Common.{List, ℕ, Bool, ◌++◌, ap, sym, ◌∙◌, codes}
use Rattle.std.proofs.lemmas.Result.{on_ok_weaker}
use Rattle.fw_check.specs.Whys.{no_register_text, register_at}
use Rattle.fw_check.proofs.Joins.{then, three_after}
use Rattle.fw_check.proofs.reasons.put_no_register.Goals as goal

pub returns-in_ok-put_register : goal.returns-in_ok-put_register
returns-in_ok-put_register c =
    let old : List ℕ = c.args.text.now.items in
    let name : List ℕ = c.args.name.now in
    let register : List ℕ = register_at c.args.offset in
    on_ok_weaker c.put_between.result
    (λ piece.
    then old c.put_register.new.text.items _ register ((codes " of " ++ name) ++ codes " is written, and not read") c.in_ok-put_register.ensures piece
    ∙ ap (λ (l : List ℕ). old ++ l) (three_after register (codes " of ") name (codes " is written, and not read"))
    ∙ ap (λ (t : Bool). old ++ no_register_text name c.args.offset t) (sym c.if-written.true))
    c.put_between.ensures
