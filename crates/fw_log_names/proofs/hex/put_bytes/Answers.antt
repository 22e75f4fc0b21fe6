use Rattle.std.proofs.Common.{◌≡◌, ◌++◌, ◌∙◌, List, ℕ, ap, sym, append_assoc, take, drop}
use Rattle.std.proofs.lemmas.List.{take-append-drop}
use Rattle.std.proofs.lemmas.Grind.{flat_map-append}
use Rattle.fw_text.specs.Digits.{byte_digits}
use Rattle.fw_text.specs.Texts.{hex_bytes}
use Rattle.fw_log_names.proofs.hex.put_bytes.Goals as goal

pub loop-four-preserved : goal.loop-four-preserved
loop-four-preserved c =
    let rest : List ℕ = c.loop-four.rest.now in
    let before : List ℕ = c.loop-four.text.items in
    let digits : c.digits_of.result ≡ hex_bytes (take 4 rest) = c.digits_of.ensures ∙ ap (λ (b : List ℕ). hex_bytes b) c.in-Some.ensures.cases.0 in
    let split : hex_bytes (take 4 rest) ++ hex_bytes (drop 4 rest) ≡ hex_bytes rest =
    sym (flat_map-append byte_digits (take 4 rest) (drop 4 rest)) ∙ ap (λ (b : List ℕ). hex_bytes b) (take-append-drop 4 rest) in
    ap (λ t. t ++ hex_bytes c.in-Some.more.now) (c.in_ok-extend_from_slice.ensures.items ∙ ap (λ (d : List ℕ). before ++ d) digits)
    ∙ append_assoc before (hex_bytes (take 4 rest)) (hex_bytes c.in-Some.more.now)
    ∙ ap (λ (m : List ℕ). before ++ (hex_bytes (take 4 rest) ++ hex_bytes m)) c.in-Some.ensures.cases.1
    ∙ ap (λ (t : List ℕ). before ++ t) split ∙ c.loop-four.invariant
