use Rattle.std.proofs.Common.{ℕ, ◌++◌, codes, decimal}
use Rattle.std.proofs.lemmas.Result.{on_ok_weaker}
use Rattle.fw_check.proofs.Joins.{moved, then}
use Rattle.fw_check.proofs.bad_line.put_missing.Goals as goal

pub returns : goal.returns
returns c =
    let missing = moved (λ (n : ℕ). codes "word " ++ decimal n ++ codes " is missing; expected ") _ _ _ _ c.from.ensures c.in_ok-put_numbered.ensures in
    on_ok_weaker c.put_expected.result (λ piece. then _ _ _ _ _ missing piece) c.put_expected.ensures
