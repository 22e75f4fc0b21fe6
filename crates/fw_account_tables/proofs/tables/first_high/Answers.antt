use Rattle.fw_account_tables.proofs.Common.{◌≡◌, ◌-◌, ◌∙◌, ℕ, Bool, true, false, cond, refl, sym, ap}
use mir.Val.{bool_byte}
use Rattle.fw_model_account.proofs.Open.{high_starts}
use Rattle.fw_account_tables.proofs.tables.first_high.Goals as goal

-- the lowest bit is the only one that may be 0
less : (withheld : Bool) → 4294967295 - bool_byte withheld ≡ cond withheld 4294967294 4294967295
less true = refl
less false = refl

pub returns : goal.returns
returns c = ap (λ (n : ℕ). 4294967295 - n) c.from.ensures ∙ less c.args.withheld ∙ sym (high_starts c.args.withheld)
