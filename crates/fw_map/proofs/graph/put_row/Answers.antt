use Rattle.fw_map.proofs.Common.{◌++◌, List, ℕ, string_bytes, ap, ◌∙◌, append_assoc}
use Rattle.std.proofs.lemmas.Result.{on_ok_weaker}
use Rattle.fw_map.specs.Graphs.{kind_word, number_text, device_text}
use Rattle.fw_map.proofs.graph.put_row.Goals as goal

pub returns : goal.returns
returns c =
    let old = string_bytes c.args.text.now in
    let row = c.args.row.now in
    let dev : List ℕ = device_text (kind_word row.kind) row.device in
    on_ok_weaker c.put_device.result (λ e. e ∙ (ap (λ (k : List ℕ). string_bytes c.put_number.new.text ++ device_text k row.device) c.kind_word.ensures
    ∙ (ap (λ (x : List ℕ). x ++ dev) c.in_ok-put_number.ensures ∙ append_assoc old (number_text c.args.node) dev))) c.put_device.ensures
