-- The line of a bus reset that tells what the latest told.
use Rattle.std.proofs.Common.{◌≡◌, refl, ap, sym, ◌∙◌, ℕ, List, ◌++◌, append_assoc, flat_map}
use Rattle.std.specs.Prelude.{codes, decimal}
use Rattle.fw_log_entry.specs.declared.entry.Entry.TheVariants.{Reset}
use Rattle.fw_log_entry.specs.declared.entry.ResetEntry.{ResetEntry}
use Rattle.fw_log_requests.specs.declared.asked.Asked.{Asked}
use Rattle.fw_log_explain.specs.Lines.{line, what_text}
use Rattle.fw_log_explain.specs.Resets.{epoch_text, root_text, resource_manager_text, initiator_text, id_text, later_text, reset_text}

before_four : (a b c d e : List ℕ) → a ++ (b ++ c ++ d ++ e) ≡ a ++ b ++ c ++ d ++ e
before_four a b c d e =
    sym (append_assoc a (b ++ c ++ d) e) ∙ ap (λ (t : List ℕ). t ++ e) (sym (append_assoc a (b ++ c) d) ∙ ap (λ (t : List ℕ). t ++ d) (sym (append_assoc a b c)))

pub whole_text : (r : ResetEntry) → epoch_text r.epoch ++ later_text r ≡ reset_text r
unfolding reset_text later_text
whole_text r = before_four (epoch_text r.epoch) (root_text r.root) (resource_manager_text r.manager) (initiator_text r.initiator) (flat_map (id_text r.nodes) r.ids)

pub told : (before after later : List ℕ) (cycle : ℕ) (list : List Asked) (r : ResetEntry) → later ≡ later_text r
    → after ≡ before ++ (decimal cycle ++ codes " " ++ (epoch_text r.epoch ++ later) ++ codes "\n") → after ≡ before ++ line list (record { cycle = cycle; what = Reset r })
unfolding what_text
told before after later cycle list r is e =
    e ∙ ap (λ (t : List ℕ). before ++ (decimal cycle ++ codes " " ++ (epoch_text r.epoch ++ t) ++ codes "\n")) is
    ∙ ap (λ (t : List ℕ). before ++ (decimal cycle ++ codes " " ++ t ++ codes "\n")) (whole_text r)

same_later : (r : ResetEntry) (epoch : ℕ) → later_text r ≡ later_text (record r { epoch = epoch })
unfolding later_text
same_later r epoch = refl

-- with another epoch
pub told_again : (before after later : List ℕ) (cycle epoch : ℕ) (list : List Asked) (r : ResetEntry) → later ≡ later_text r
    → after ≡ before ++ (decimal cycle ++ codes " " ++ (epoch_text epoch ++ later) ++ codes "\n") → after ≡ before ++ line list (record { cycle = cycle; what = Reset (record r { epoch = epoch }) })
told_again before after later cycle epoch list r is e = told before after later cycle list (record r { epoch = epoch }) (is ∙ same_later r epoch) e
