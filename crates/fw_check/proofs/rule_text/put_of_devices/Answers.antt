use Rattle.std.proofs.Common.{List, ℕ, ◌++◌, ap, sym, ◌∙◌, codes, decimal}
use Rattle.std.proofs.lemmas.Result.{on_ok_weaker}
use Rattle.fw_check.specs.Shown.{word_at}
use Rattle.fw_check.specs.Whys.{device_says}
use Rattle.fw_check.specs.declared.why.Why.{Why}
use Rattle.fw_check.proofs.Joins.{moved, pair_after, then}
use Rattle.fw_check.proofs.rule_text.put_of_devices.Goals as goal

pub returns-in_ok-put_word-in-OnePort : goal.returns-in_ok-put_word-in-OnePort
returns-in_ok-put_word-in-OnePort c =
    let old : List ℕ = c.args.text.now.items in
    let middle : List ℕ = c.put_word-in-OnePort.new.text.items in
    let word : List ℕ = word_at c.args.line.now 2 in
    on_ok_weaker c.put.result
    (λ piece.
    then old middle c.put.new.text.items (codes "both ends are ") word c.in_ok-put_word-in-OnePort.ensures
    (moved (λ (x : List ℕ). x) middle c.put.new.text.items c.word_at.result.now word c.word_at.ensures piece)
    ∙ ap (λ (w : Why). old ++ device_says c.args.line.now w) (sym c.in-OnePort.is))
    c.put.ensures

pub returns-in_ok-put_between-in-PortUsed : goal.returns-in_ok-put_between-in-PortUsed
returns-in_ok-put_between-in-PortUsed c =
    let old : List ℕ = c.args.text.now.items in
    let middle : List ℕ = c.put_between-in-PortUsed.new.text.items in
    let end : List ℕ = (codes "a cable joins it to " ++ c.in-PortUsed.name) ++ codes "." in
    on_ok_weaker c.put_number.result
    (λ piece.
    then old middle c.put_number.new.text.items end (decimal c.in-PortUsed.port) c.in_ok-put_between-in-PortUsed.ensures
    (moved decimal middle c.put_number.new.text.items c.from.result c.in-PortUsed.port c.from.ensures piece)
    ∙ ap (λ (w : Why). old ++ device_says c.args.line.now w) (sym c.in-PortUsed.is))
    c.put_number.ensures

pub returns-in_ok-put_word-in-OneDevice : goal.returns-in_ok-put_word-in-OneDevice
returns-in_ok-put_word-in-OneDevice c =
    let old : List ℕ = c.args.text.now.items in
    on_ok_weaker c.put_name.result
    (λ piece.
    then old c.put_word-in-OneDevice.new.text.items c.put_name.new.text.items (codes "both ends are at ") c.in-OneDevice.name c.in_ok-put_word-in-OneDevice.ensures piece
    ∙ ap (λ (w : Why). old ++ device_says c.args.line.now w) (sym c.in-OneDevice.is))
    c.put_name.ensures

pub returns-in_ok-put_between-in-Loop : goal.returns-in_ok-put_between-in-Loop
returns-in_ok-put_between-in-Loop c =
    let old : List ℕ = c.args.text.now.items in
    let first : List ℕ = (codes "cables lead from " ++ c.in-Loop.name) ++ codes " to " in
    on_ok_weaker c.put_named.result
    (λ piece.
    then old c.put_between-in-Loop.new.text.items c.put_named.new.text.items first (c.in-Loop.other ++ codes " already") c.in_ok-put_between-in-Loop.ensures piece
    ∙ ap (λ (l : List ℕ). old ++ l) (pair_after first c.in-Loop.other (codes " already"))
    ∙ ap (λ (w : Why). old ++ device_says c.args.line.now w) (sym c.in-Loop.is))
    c.put_named.ensures
