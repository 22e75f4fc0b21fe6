use Rattle.fw_script_words.proofs.Common.{ℕ, List, sym, subst}
use Rattle.fw_script_command.specs.Form.{HasForm}
use Rattle.fw_script_words.proofs.checking.put_cause.Goals as goal

pub returns-in_default : goal.returns-in_default
returns-in_default c = record { told = λ told h. absurd (c.in_default.ensures.none h.broken (subst (λ (line : List ℕ). HasForm h.broken line) (sym c.text.ensures) h.form)) }
