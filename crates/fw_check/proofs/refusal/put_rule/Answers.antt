use Rattle.std.proofs.Common.{List, ℕ, ◌++◌, codes}
use Rattle.std.proofs.lemmas.Result.{on_ok_weaker}
use Rattle.fw_script_command.specs.Keyword.{keyword_in}
use Rattle.fw_check.specs.Refusals.{form_of_line}
use Rattle.fw_check.specs.Shown.{headed, shown, word_at}
use Rattle.fw_check.specs.Whys.{rule_name, why_text}
use Rattle.fw_check.proofs.Joins.{moved, then}
use Rattle.fw_check.proofs.refusal.put_rule.Goals as goal

pub returns : goal.returns
returns c =
    let old : List ℕ = c.args.text.now.items in
    let line : List ℕ = c.args.line.now in
    let head : List ℕ = headed c.args.number (shown line) in
    let name : List ℕ = rule_name c.args.why.now in
    let why : List ℕ = why_text line c.args.why.now in
    let form : List ℕ = form_of_line (keyword_in (word_at line 1)) in
    let said = moved (λ (x : List ℕ). x) c.put_head.new.text.items c.put_word.new.text.items c.rule_name.result.now name c.rule_name.ensures c.in_ok-put_word.ensures in
    let t2 = then old c.put_head.new.text.items c.put_word.new.text.items head name c.in_ok-put_head.ensures said in
    let t3 = then old c.put_word.new.text.items c.put_word-2.new.text.items (head ++ name) (codes ": ") t2 c.in_ok-put_word-2.ensures in
    let t4 = then old c.put_word-2.new.text.items c.put_why.new.text.items (head ++ name ++ codes ": ") why t3 c.in_ok-put_why.ensures in
    on_ok_weaker c.put_form_of.result
    (λ piece.
    then old c.put_why.new.text.items c.put_form_of.new.text.items (head ++ name ++ codes ": " ++ why) (codes "\n" ++ form) t4
    (then c.put_why.new.text.items c.put_word-3.new.text.items c.put_form_of.new.text.items (codes "\n") form c.in_ok-put_word-3.ensures piece))
    c.put_form_of.ensures
