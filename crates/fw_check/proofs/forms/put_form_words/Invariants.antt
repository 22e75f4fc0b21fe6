use Rattle.std.proofs.Common.{◌≡◌, ◌++◌, drop}
use Rattle.std.specs.Prelude.{flat_map}
use Rattle.fw_check.specs.Forms.{form_word}
use Rattle.fw_check.proofs.forms.put_form_words.Given as goal

abbrev pub invariant-loop-ty : goal.invariant-loop-ty
invariant-loop-ty l = l.text.items ++ flat_map form_word (drop l.ty-index l.types) ≡ l.fn.text.items ++ flat_map form_word l.types
