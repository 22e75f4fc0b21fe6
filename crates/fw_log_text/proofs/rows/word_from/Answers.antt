use Rattle.std.proofs.Common.{rules, ◌≡◌, ◌∙◌, ◌<◌, ◌∷◌, List, ℕ, ap, sym}
use Rattle.std.specs.List.{slice_index}
use Rattle.fw_text.specs.Digits.{byte_digits}
use Rattle.fw_log_text.proofs.HexLaws.{four_bytes}
use Rattle.fw_log_text.proofs.rows.word_from.Goals as goal

pub returns : goal.returns
returns c =
    let first : c.of.result ≡ byte_digits (slice_index c.args.four.now 0) = c.of.ensures ∙ ap byte_digits c.from.ensures in
    let second : c.of-2.result ≡ byte_digits (slice_index c.args.four.now 1) = c.of-2.ensures ∙ ap byte_digits c.from-2.ensures in
    let third : c.of-3.result ≡ byte_digits (slice_index c.args.four.now 2) = c.of-3.ensures ∙ ap byte_digits c.from-3.ensures in
    let fourth : c.of-4.result ≡ byte_digits (slice_index c.args.four.now 3) = c.of-4.ensures ∙ ap byte_digits c.from-4.ensures in
    let a : slice_index c.args.four.now 0 < 256 = search (rules, c.fits-four) in
    let b : slice_index c.args.four.now 1 < 256 = search (rules, c.fits-four) in
    let d : slice_index c.args.four.now 2 < 256 = search (rules, c.fits-four) in
    let e : slice_index c.args.four.now 3 < 256 = search (rules, c.fits-four) in
    rw (first, second, third, fourth) (ap (λ (x : List ℕ). 32 ∷ x)
    (sym (four_bytes (slice_index c.args.four.now 0) (slice_index c.args.four.now 1) (slice_index c.args.four.now 2) (slice_index c.args.four.now 3) a b d e)))
