use Rattle.std.proofs.Common.{◌≡◌, ◌∙◌, ap, sym, true, ℕ, ◌-◌, List, ◌++◌, length, codes, take, drop, slice_index, if◌then◌else◌, append_assoc, arith, length-drop}
use Rattle.std.proofs.lemmas.List.{take_all}
use Rattle.fw_text.specs.Texts.{blank_hex}
use Rattle.fw_log_frames.specs.Frames.{is_extended, extended_text, short_text, addressed_text}
use Rattle.fw_log_frames.proofs.frame.put_addressed.Goals as goal

pub returns-then-is_extended : goal.returns-then-is_extended
unfolding addressed_text
returns-then-is_extended c =
    let text : List ℕ = c.args.text.now in
    let bytes : List ℕ = c.args.bytes.now in
    let yes : is_extended (slice_index bytes 1) ≡ true = sym c.is_extended.ensures ∙ c.if-is_extended.true in
    let rest : take (length bytes - 1) (drop 1 bytes) ≡ drop 1 bytes = take_all (length bytes - 1) (drop 1 bytes) (omega (arith, length-drop 1 bytes)) in
    let said : c.blank_hex.new.self ≡ text ++ extended_text bytes =
    c.blank_hex.ensures ∙ ap (λ (r : List ℕ). c.word.new.self ++ blank_hex r) rest ∙ ap (λ (t : List ℕ). t ++ blank_hex (drop 1 bytes)) c.word.ensures
    ∙ append_assoc text (codes " extended address") (blank_hex (drop 1 bytes)) in
    said ∙ ap (λ b. text ++ (if b then extended_text bytes else short_text bytes)) (sym yes)
