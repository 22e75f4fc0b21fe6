-- The program's desk is a function: its two formulas leave no choice.
use Rattle.std.proofs.Common.{◌≡◌, ℕ, ◌∙◌, ◌<◌, List, arith, sym}
use Rattle.std.proofs.lemmas.List.{ext_get_or}
use Rattle.fw_model_run.specs.Desks.{IsFunction}
use Rattle.fw_program.specs.Blocks.{IsBlock, program_desk}

-- two blocks of a place have the same bytes
one_block : (tape frame block : ℕ) (x y : List ℕ) → IsBlock tape frame block x → IsBlock tape frame block y → x ≡ y
one_block tape frame block x y p q = ext_get_or 0 x y (p.size ∙ sym q.size) (λ j lt. let size = p.size in let low : j < 480 = omega (arith, lt, size) in p.bytes_are j low ∙ sym (q.bytes_are j low))

pub is_a_function : IsFunction program_desk
is_a_function = record { blocks = one_block; bytes = λ company byte x y p q. p ∙ sym q }
