use Rattle.std.proofs.Common.{List, ℕ, ◌++◌, codes, decimal}
use Rattle.std.proofs.lemmas.Result.{on_ok_weaker}
use Rattle.fw_check.specs.Whys.{limit_noun}
use Rattle.fw_check.proofs.Joins.{moved, then}
use Rattle.fw_check.proofs.limit_text.put_limit.Goals as goal

pub returns : goal.returns
returns c =
    let old : List ℕ = c.args.text.now.items in
    let noun : List ℕ = codes " " ++ limit_noun c.args.limit in
    let p2 = decimal c.args.before ++ noun in
    let p4 = p2 ++ codes " before and " ++ decimal c.args.here in
    let said = moved (λ (noun : List ℕ). noun) c.put_word.new.text.items c.put_word-2.new.text.items _ _ c.noun.ensures c.in_ok-put_word-2.ensures in
    let with = then c.put_number.new.text.items c.put_word.new.text.items _ (codes " ") (limit_noun c.args.limit) c.in_ok-put_word.ensures said in
    let t2 = then old c.put_number.new.text.items _ (decimal c.args.before) noun c.in_ok-put_number.ensures with in
    let t3 = then old c.put_word-2.new.text.items _ p2 (codes " before and ") t2 c.in_ok-put_word-3.ensures in
    let t4 = then old c.put_word-3.new.text.items _ (p2 ++ codes " before and ") (decimal c.args.here) t3 c.in_ok-put_number-2.ensures in
    let t5 = then old c.put_number-2.new.text.items _ p4 (codes " here are more than ") t4 c.in_ok-put_word-4.ensures in
    on_ok_weaker c.put_number-3.result (λ piece. then old c.put_word-4.new.text.items _ (p4 ++ codes " here are more than ") _ t5 (moved decimal _ _ _ _ c.most.ensures piece)) c.put_number-3.ensures
