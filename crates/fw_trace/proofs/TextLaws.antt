-- The text of a part, from what was passed on of it.
use Rattle.fw_trace.proofs.Common.{◌≡◌, sym, ap, ◌∙◌, ℕ, List, [], ◌∷◌, ◌++◌, Option, append_assoc, Grows, Grows-Grows, Timed, caused_text, untold, Traced, lines_from, last_lines, telling_following}
use Rattle.fw_trace.proofs.Common.{Part, part_text, lines_of, trace_text, kept_from}
use Rattle.fw_trace_lines.proofs.LoopLaws.{caused_append}
use Rattle.fw_trace_lines.specs.Commands.{command_lines}
use Rattle.fw_trace.proofs.PartLaws.{text_more}

-- what was passed on, what is still to be, and the last lines are the text of the whole command
pub command_text : (given text : List ℕ) (origin : Traced) (out : List Timed) → given ++ text ≡ origin.text ++ caused_text (lines_from origin.telling out)
    → given ++ (text ++ caused_text (last_lines (telling_following origin.telling out))) ≡ origin.text ++ caused_text (command_lines origin.telling out)
command_text given text origin out e =
    let first = lines_from origin.telling out in
    let last = last_lines (telling_following origin.telling out) in
    sym (append_assoc given text (caused_text last)) ∙ ap (λ (l : List ℕ). l ++ caused_text last) e
    ∙ append_assoc origin.text (caused_text first) (caused_text last) ∙ ap (λ (l : List ℕ). origin.text ++ l) (sym (caused_append first last))

-- a part more was told
pub told_more : (held start now : Option (List ℕ)) (parts : List Part) (part : Part) (text : List ℕ) → Grows held start (trace_text parts) → Grows start now text
    → text ≡ part_text (lines_of 0 parts) (kept_from untold parts) part → Grows held now (trace_text (parts ++ part ∷ []))
told_more held start now parts part text x y e =
    rw (text_more 0 untold parts part, sym e) (Grows-Grows held start now (trace_text parts) text x y)
