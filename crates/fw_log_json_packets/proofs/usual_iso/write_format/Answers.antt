use Rattle.std.proofs.Common.{◌≡◌, ◌⊎◌, inl, inr, ◌++◌, ◌∙◌, List, ℕ, take, ap}
use Rattle.fw_log_json_packets.proofs.IsoTexts.{pieces_525, pieces_625}
use Rattle.fw_log_json_packets.proofs.usual_iso.write_format.Goals as goal

pub returns-then-c-eq-LINES_525_UNTIMED-clause-text : goal.returns-then-c-eq-LINES_525_UNTIMED-clause-text
returns-then-c-eq-LINES_525_UNTIMED-clause-text c =
    c.write_row.ensures.text ∙ ap (λ (t : List ℕ). take c.args.at c.args.out.now ++ t) (pieces_525 c.args.c.now c.requires.usual.form c.if-c-eq-LINES_525_UNTIMED.true)

other : (n : ℕ) → (n ≡ 65535) ⊎ (n ≡ 8454143) → (n ≡ 65535 → ⊥) → n ≡ 8454143
other n (inl e) not = absurd (not e)
other n (inr e) not = e

pub returns-clause-text : goal.returns-clause-text
returns-clause-text c =
    let lines = other c.args.c.now.fdf c.requires.usual.lines c.if-c-eq-LINES_525_UNTIMED.false in
    c.write_row-2.ensures.text ∙ ap (λ (t : List ℕ). take c.args.at c.args.out.now ++ t) (pieces_625 c.args.c.now c.requires.usual.form lines)
