-- The fields of a bus reset after its epoch.
use Rattle.fw_log_json.proofs.Common.{◌≡◌, ap, sym, ◌∙◌, ℕ, List, ◌++◌, append_assoc, Reset, field, number_value, prefix_fields, object}
use Rattle.std.specs.Prelude.{codes, decimal}
use Rattle.fw_log_entry.specs.declared.codes.kind.TheConstants.{RESET}
use Rattle.fw_log_entry.specs.declared.entry.ResetEntry.{ResetEntry}
use Rattle.fw_log_json.specs.Objects.{later_fields, list_fields, reset_fields}

before_four : (a b c d e : List ℕ) → a ++ (b ++ c ++ d ++ e) ≡ a ++ b ++ c ++ d ++ e
before_four a b c d e =
    sym (append_assoc a (b ++ c ++ d) e) ∙ ap (λ (t : List ℕ). t ++ e) (sym (append_assoc a (b ++ c) d) ∙ ap (λ (t : List ℕ). t ++ d) (sym (append_assoc a b c)))

pub whole_fields : (r : ResetEntry) → field (codes ",\"epoch\":") (decimal r.epoch) ++ later_fields r ≡ reset_fields r
whole_fields r =
    before_four (field (codes ",\"epoch\":") (decimal r.epoch)) (field (codes ",\"root\":") (decimal r.root)) (field (codes ",\"manager\":") (number_value r.manager))
    (field (codes ",\"initiator\":") (decimal r.initiator)) (list_fields r)

-- the object of a bus reset that tells this after its epoch
pub told : (before after later : List ℕ) (cycle : ℕ) (r : ResetEntry) → later ≡ later_fields r
    → after ≡ before ++ (prefix_fields cycle RESET ++ (field (codes ",\"epoch\":") (decimal r.epoch) ++ later) ++ codes "}\n")
    → after ≡ before ++ object (record { cycle = cycle; what = Reset r })
told before after later cycle r is e =
    e ∙ ap (λ (t : List ℕ). before ++ (prefix_fields cycle RESET ++ (field (codes ",\"epoch\":") (decimal r.epoch) ++ t) ++ codes "}\n")) is
    ∙ ap (λ (t : List ℕ). before ++ (prefix_fields cycle RESET ++ t ++ codes "}\n")) (whole_fields r)
