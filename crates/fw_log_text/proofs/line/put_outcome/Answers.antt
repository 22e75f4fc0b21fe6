use Rattle.std.proofs.Common.{List, Option, ℕ, IsTrue, subst, sym}
use Rattle.std.specs.Option.{is_some}
use Rattle.fw_log_text.proofs.NameLaws.{outcome_named}
use Rattle.fw_log_text.proofs.line.put_outcome.Goals as goal

pub put_name-requires : goal.put_name-requires
put_name-requires c =
    let Named : Option (List ℕ) → Type 0 = λ name. IsTrue (is_some name) in
    subst Named (sym c.outcome_name.ensures) (outcome_named c.args.o.now.code c.args.o.now.value c.requires.shape)
