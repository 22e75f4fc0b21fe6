use Rattle.std.proofs.Common.{◌≡◌, ◌++◌, ℕ, OnOk, subst}
use Rattle.fw_watch_remarks.specs.Parts.{part}
use Rattle.fw_watch_remarks.proofs.parts.put_field.Goals as goal

pub returns : goal.returns
returns c =
    let P : ℕ → Type 0 = λ k. OnOk c.put_wide.result (c.put_wide.new.text.items ≡ c.args.text.now.items ++ part c.args.word.now k) in
    subst P c.field.ensures c.put_wide.ensures
