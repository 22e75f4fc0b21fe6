use Rattle.fw_log_json.proofs.Common.{◌≡◌, ◌++◌, ◌∙◌, Option, codes, decimal, ℕ, List, ap, on_ok_weaker, format_name, hex, field, quoted, name_value, counted, moved}
use Rattle.fw_log_json_packets.proofs.IsoTexts.{untimed_525, untimed_625}
use Rattle.fw_log_json.proofs.iso.put_format.Goals as goal

pub returns-then-is_untimed_525 : goal.returns-then-is_untimed_525
returns-then-is_untimed_525 c =
    let is = c.is_untimed_525.ensures c.if-is_untimed_525.true in
    on_ok_weaker c.put_word.result (λ e. untimed_525 _ _ c.args.c.now is.0 is.1 e) c.put_word.ensures

pub returns-then-is_untimed_625 : goal.returns-then-is_untimed_625
returns-then-is_untimed_625 c =
    let is = c.is_untimed_625.ensures c.if-is_untimed_625.true in
    on_ok_weaker c.put_word-then-is_untimed_625.result (λ e. untimed_625 _ _ c.args.c.now is.0 is.1 e) c.put_word-then-is_untimed_625.ensures

pub returns : goal.returns
returns c =
    let h = c.args.c.now in
    let t1 = counted _ _ _ _ _ c.from.ensures c.in_ok-put_count.ensures in
    let t2 = c.in_ok-put_six.ensures ∙ ap (λ (t : List ℕ). t ++ field (codes ",\"fdf\":") (quoted (hex 6 h.fdf))) t1 in
    let name : Option (List ℕ) → List ℕ = λ x. field (codes ",\"format_name\":") (name_value x) in
    on_ok_weaker c.put_name.result (λ piece. moved name _ _ _ _ c.format_name.ensures piece ∙ ap (λ (t : List ℕ). t ++ name (format_name h)) t2) c.put_name.ensures
